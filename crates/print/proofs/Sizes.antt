-- What a size with one slot more tells, for every size and number, in range or not.
use mathlib.Core.Path.{◌≡◌, refl, ap, ◌∙◌}
use mathlib.Core.Bool.{Bool, true, false, cond, ◌&&◌}
use Prim.Native.Nat.{ℕ, ◌+◌, ◌≤◌}
use Rattle.std.specs.Prelude.{Some, is_none}
use Rattle.lines.specs.Limits.{max_names}
use Rattle.lines.specs.Form.{in_slot}
use Rattle.print.specs.declared.Size.{Size}
use Rattle.print.specs.Cited.{counted, within, Counted}

-- one number out of range is enough
pub joins : (z : Size) (slot n : ℕ) → within (counted z slot n) ≡ (in_slot slot n && within z)
joins z slot n = go (in_slot slot n)
  where
    go : (t : Bool) → is_none (cond t z.outside (Some n)) ≡ (t && within z)
    go true = refl
    go false = refl

-- from the two clauses of `Size::slot`
pub counts : (z : Size) (slot n : ℕ) {y : Size} → y ≡ counted z slot n → y.len ≤ z.len + max_names → Counted z slot n y
counts z slot n {y} e m = record {
  ok = ap within e ∙ joins z slot n;
  len = ap (λ (x : Size). x.len) e;
  most = m;
}
