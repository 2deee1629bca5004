-- Shifted down by n, the set has nothing left exactly if every member is below n.
use mathlib.Core.Path.{◌≡◌, refl, sym}
use mathlib.Core.Bool.{Bool, true, false}
use Prim.Native.Nat.{ℕ, ◌/◌, ◌^◌, ◌≤◌, ◌<◌}
use native.Mathlib.Omega.{arith}
use lib.Dec.{eqb}
use borrow.Author.Tests.{eqb-true, eqb-false}
use Rattle.sets.specs.Set.{within}
use Rattle.sets.proofs.Bounds.{within_far, within_yes, within_no}
use Rattle.sets.proofs.within.Goals as goal

nothing_left : (set n : ℕ) → set < 2 ^ 64 → n ≤ 64 → eqb (set / 2 ^ n) 0 ≡ within n set
nothing_left set n h l = go (eqb (set / 2 ^ n) 0) refl
  where
    go : (b : Bool) → eqb (set / 2 ^ n) 0 ≡ b → b ≡ within n set
    go true e = sym (within_yes n set l (eqb-true (set / 2 ^ n) 0 e))
    go false e = sym (within_no n set h (eqb-false (set / 2 ^ n) 0 e))

pub returns-then-n-ge64 : goal.returns-then-n-ge64
returns-then-n-ge64 c = sym (within_far c.args.n c.args.set c.if-n-ge64.true)

pub returns : goal.returns
returns c =
    let s = c.before in
    nothing_left s.args.set s.args.n s.ranges.set.fits (omega (arith, c.if-n-ge64.false))
