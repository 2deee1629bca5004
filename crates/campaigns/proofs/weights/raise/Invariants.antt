-- The loop keeps: `power` is d^i, the entries below i are weights, and those from i to the depth are still powers of
-- d − 1. No product overflows, since no weight is above d^k.
use Rattle.powers.specs.Power.{weight}
use lib.ListN.{get_or, length}
use Prim.Native.Nat.{ℕ, ◌+◌, ◌-◌, ◌^◌, ◌≤◌, ◌<◌}
use mathlib.Core.Path.{◌≡◌}
use Rattle.campaigns.proofs.weights.raise.Given as goal

abbrev pub invariant-loop-i : goal.invariant-loop-i
invariant-loop-i l =
    (l.i ≤ l.depth + 1) × (l.power ≡ l.width ^ l.i)
    × ((a : ℕ) → a < l.i → a ≤ l.depth → get_or l.list a 0 ≡ weight l.depth l.width a)
    × ((a : ℕ) → l.i ≤ a → a ≤ l.depth → get_or l.list a 0 ≡ (l.width - 1) ^ (l.depth - a)) × (length l.list ≡ 33)

abbrev pub decreases-loop-i : goal.decreases-loop-i
decreases-loop-i l = l.depth + 1 - l.i
