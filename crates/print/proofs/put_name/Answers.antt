-- A name is a space and one digit, or a space and two: so many bytes put one behind the other.
use mathlib.Core.Path.{◌≡◌, ap, ◌∙◌}
use mathlib.Core.List.{List, [], ◌∷◌}
use Prim.Native.Nat.{ℕ, ◌+◌, ◌/◌, ◌%◌, ◌≤◌, ◌<◌}
use native.Mathlib.Omega.{arith}
use lib.ListN.{set, length-set}
use Rattle.lines.specs.Numeral.{numeral}
use Rattle.buffer.specs.Buffer.{over, Put}
use Rattle.buffer.proofs.Over.{over_set, over_snoc}
use Rattle.print.proofs.Lengths.{name_one, name_two, len_one, len_two}
use Rattle.print.proofs.put_name.Goals as goal

-- a space and two bytes
spaced_two : (d : List ℕ) (at a b : ℕ)
    → set (set (set d at 32) (at + 1) a) (at + 2) b ≡ over d at (32 ∷ a ∷ b ∷ [])
spaced_two d at a b =
    ap (λ (x : List ℕ). set (set x (at + 1) a) (at + 2) b) (over_set d at 32)
    ∙ ap (λ (x : List ℕ). set x (at + 2) b) (over_snoc d at (32 ∷ []) a) ∙ over_snoc d at (32 ∷ a ∷ []) b

one : (d : List ℕ) (at n x : ℕ) → n < 10 → x ≡ 48 + n % 10
    → Put d (set (set d at 32) (at + 1) x) at (at + 2) (32 ∷ numeral n)
one d at n x h e =
    rw (name_one n h, e)
    (record {
      next = omega arith;
      here =
          ap (λ (l : List ℕ). set l (at + 1) (48 + n % 10)) (over_set d at 32) ∙ over_snoc d at (32 ∷ []) (48 + n % 10);
      same = simp length-set;
    })

two : (d : List ℕ) (at n x y : ℕ) → 10 ≤ n → n < 100 → x ≡ 48 + n / 10 % 10 → y ≡ 48 + n % 10
    → Put d (set (set (set d at 32) (at + 1) x) (at + 2) y) at (at + 3) (32 ∷ numeral n)
two d at n x y h b e f =
    rw (name_two n h b, e, f)
    (record { next = omega arith; here = spaced_two d at (48 + n / 10 % 10) (48 + n % 10); same = simp length-set })

pub bounds-out-at-then-name-lt10 : goal.bounds-out-at-then-name-lt10
bounds-out-at-then-name-lt10 c = simp length-set (omega (arith, len_one c.args.name c.if-name-lt10.true))

pub returns-then-name-lt10 : goal.returns-then-name-lt10
returns-then-name-lt10 c = one _ _ _ _ c.if-name-lt10.true c.digit.ensures

pub bounds-out-at-2 : goal.bounds-out-at-2
bounds-out-at-2 c = simp length-set (omega (arith, len_two c.args.name c.if-name-lt10.false (omega arith)))

pub bounds-out-at-3 : goal.bounds-out-at-3
bounds-out-at-3 c = simp length-set (omega (arith, len_two c.args.name c.if-name-lt10.false (omega arith)))

pub returns : goal.returns
returns c = two _ _ _ _ _ c.if-name-lt10.false (omega arith) c.digit-2.ensures c.digit-3.ensures
