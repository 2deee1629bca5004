-- The trailing zeros of a number that is not 0 are the place of its least member, and those of 0 are 64.
use mathlib.Core.Path.{◌≡◌, refl, ap, sym, ◌∙◌}
use mathlib.Core.Bool.{Bool, true, false}
use Prim.Native.Nat.{ℕ, ◌^◌, ◌<◌}
use lib.Count.{count_trailing_zeros, trailing_of_zero}
use lib.Dec.{eqb}
use borrow.Author.Tests.{eqb-true, eqb-false}
use Rattle.sets.specs.Set.{next}
use Rattle.sets.proofs.Walk.{first_is, first_none}
use Rattle.sets.proofs.first.Goals as goal

first : (set : ℕ) → set < 2 ^ 64 → count_trailing_zeros 64 set ≡ next set 0
first set h = go (eqb set 0) refl
  where
    go : (b : Bool) → eqb set 0 ≡ b → count_trailing_zeros 64 set ≡ next set 0
    go true e =
        let z = eqb-true set 0 e in
        ap (count_trailing_zeros 64) z ∙ trailing_of_zero 64 ∙ sym first_none ∙ sym (ap (λ (x : ℕ). next x 0) z)
    go false e = (first_is set h (eqb-false set 0 e)).0

pub returns : goal.returns
returns c = let s = c.before in c.from.ensures ∙ first s.args.set s.ranges.set.fits
