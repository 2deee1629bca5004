-- The loop keeps: the sum so far is that of the first i budgets, at most i × 2^32.
use Rattle.finite.specs.Finite.{sum}
use Rattle.campaigns.specs.Campaign.{campaign_at}
use Prim.Native.Nat.{◌-◌, ◌*◌, ◌≤◌}
use mathlib.Core.Path.{◌≡◌}
use Rattle.day.proofs.ops.total_budgets.Given as goal

abbrev pub invariant-loop-i : goal.invariant-loop-i
invariant-loop-i l = (l.i ≤ l.n) × (l.all ≡ sum l.i (λ j. (campaign_at l.terms l.counts j).budget))
    × (l.all ≤ l.i * 4_294_967_296)

abbrev pub decreases-loop-i : goal.decreases-loop-i
decreases-loop-i l = l.n - l.i
