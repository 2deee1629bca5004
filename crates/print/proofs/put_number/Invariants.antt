-- The numeral that ends at a place, from its last digit to its first, two a turn. The loop's invariant: the digits from
-- the place i on stand, those of `rest` are to come and have the room before i.
use mathlib.Core.Path.{◌≡◌}
use mathlib.Core.List.{List}
use Prim.Native.Nat.{ℕ, ◌^◌, ◌≤◌, ◌<◌}
use lib.ListN.{length}
use Rattle.lines.specs.Numeral.{numeral}
use Rattle.print.proofs.Digits.{Digits}
use Rattle.print.proofs.put_number.Given as goal

pub record Left (out₀ : List ℕ) (to n : ℕ) (out : List ℕ) (i rest : ℕ) : Type 0 where
  pub stands : Digits out₀ out to n i rest
  pub room : length (numeral rest) ≤ i
  pub within : i ≤ to
  pub small : rest < 2 ^ 64
  pub same : length out ≡ length out₀

abbrev pub invariant-loop-rest : goal.invariant-loop-rest
invariant-loop-rest l = Left l.initial.out l.to l.n l.out l.i l.rest

abbrev pub decreases-loop-rest : goal.decreases-loop-rest
decreases-loop-rest l = l.rest
