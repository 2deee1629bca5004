-- The loop keeps: `power` is (d − 1)^i, and the last i entries up to the depth are the powers of d − 1 from 0 on. No
-- power overflows, since d^k is at most 2^32.
use lib.ListN.{get_or, length}
use Prim.Native.Nat.{ℕ, ◌+◌, ◌-◌, ◌^◌, ◌≤◌, ◌<◌}
use mathlib.Core.Path.{◌≡◌}
use Rattle.campaigns.proofs.weights.falling.Given as goal

abbrev pub invariant-loop-i : goal.invariant-loop-i
invariant-loop-i l =
    (l.i ≤ l.depth + 1) × (l.power ≡ l.base ^ l.i) × ((j : ℕ) → j < l.i → get_or l.list (l.depth - j) 0 ≡ l.base ^ j)
    × (length l.list ≡ 33)

abbrev pub decreases-loop-i : goal.decreases-loop-i
decreases-loop-i l = l.depth + 1 - l.i
