-- A page is put over spaces, from its last byte to its first: what is put joins the bytes that stand, and the spaces
-- left of it that its columns leave over join it. So no space is put twice.
use mathlib.Core.Path.{◌≡◌, sym, ap, ◌∙◌}
use mathlib.Core.List.{List, ◌∷◌, ◌++◌, append_assoc}
use Prim.Native.Nat.{ℕ, ◌+◌, ◌-◌, ◌≤◌, ◌<◌}
use native.Mathlib.Omega.{arith}
use lib.ListN.{length, replicate, set, length-replicate, replicate-append-replicate}
use Rattle.buffer.specs.Buffer.{over, Put}
use Rattle.buffer.proofs.Over.{over_middle}
use Rattle.buffer.proofs.Puts.{put_none, put_byte}
use Rattle.page.specs.Page.{flush}
use Rattle.page.specs.Cited.{Spaced}

-- k more spaces belong to what stands
pub spaced_gap : {d w : List ℕ} {to : ℕ} (at k : ℕ) → at + k ≡ to → Spaced d to w → Spaced d at (replicate k 32 ++ w)
spaced_gap {d} {w} {to} at k e s = record {
  is =
      s.is ∙ ap (λ (n : ℕ). replicate n 32 ++ w) (sym e)
      ∙ ap (λ (l : List ℕ). l ++ w) (sym (replicate-append-replicate at k 32))
      ∙ append_assoc (replicate at 32) (replicate k 32) w;
}

-- t is put before what stands
pub spaced_put : {d e t w : List ℕ} {at to : ℕ} → Put d e at to t → Spaced d to w → Spaced e at (t ++ w)
spaced_put {d} {e} {t} {w} {at} {to} p s =
    let k = length t in
    let blank : List ℕ = replicate k 32 in
    let g = spaced_gap at k (sym p.next) s in
    record {
      is =
          p.here ∙ ap (λ (x : List ℕ). over x at t) g.is
          ∙ ap (λ (n : ℕ). over (replicate at 32 ++ (blank ++ w)) n t) (sym (length-replicate at 32))
          ∙ over_middle (replicate at 32) blank w t (length-replicate k 32);
    }

-- t is put flush right into the columns from a to b
pub spaced_flush : {d e t w : List ℕ} {r to : ℕ} (at a b : ℕ) → at + (b + 1 - a) ≡ to → length t ≤ b + 1 - a
    → Put d e r to t → Spaced d to w → Spaced e at (flush a b t ++ w)
unfolding flush
spaced_flush {d} {e} {t} {w} {r} {to} at a b q h p s =
    let k = b + 1 - a - length t in
    let g = spaced_gap at k (omega (arith, p.next)) (spaced_put p s) in
    record { is = g.is ∙ ap (λ (l : List ℕ). replicate at 32 ++ l) (sym (append_assoc (replicate k 32) t w)) }

-- the byte b is put before what stands
pub spaced_byte : {d w : List ℕ} {to : ℕ} (b : ℕ) → 0 < to → to ≤ length d → Spaced d to w
    → Spaced (set d (to - 1) b) (to - 1) (b ∷ w)
spaced_byte {d} {w} {to} b h l s = spaced_put (put_byte b (put_none d to) h l) s
