-- One shifted up by i is the set of i alone, and an or joins it to the other.
use mathlib.Core.Path.{◌≡◌, ap, ◌∙◌}
use Prim.Native.Nat.{ℕ, ◌*◌, ◌%◌, ◌^◌, ◌<◌}
use native.Mathlib.Nat.{mod-eq_of_lt, one-mul}
use lib.Bits.{bit_or}
use lib.Pow.{pow-lt}
use Rattle.sets.proofs.Algebra.{including_is}
use Rattle.sets.proofs.including.Goals as goal

shifted : (i : ℕ) → i < 64 → 1 * 2 ^ i % 2 ^ 64 ≡ 2 ^ i
shifted i h = ap (λ (x : ℕ). x % 2 ^ 64) (one-mul (2 ^ i)) ∙ mod-eq_of_lt (pow-lt h)

pub returns : goal.returns
returns c =
    ap (bit_or c.args.set) (shifted c.args.i c.requires)
    ∙ including_is c.args.set c.args.i c.ranges.set.fits c.requires
