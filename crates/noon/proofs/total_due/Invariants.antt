-- The loop keeps: the sum so far is that of the first i campaigns, at most i × 2^32. That it is at most the budgets'
-- limit is known of the whole sum.
use mathlib.Core.Path.{◌≡◌}
use Prim.Native.Nat.{◌*◌, ◌≤◌}
use Rattle.finite.specs.Finite.{sum}
use Rattle.campaigns.specs.Campaign.{campaign_at}
use Rattle.noon.specs.Noon.{due}
use Rattle.noon.proofs.total_due.Given as goal

abbrev pub invariant-loop-i : goal.invariant-loop-i
invariant-loop-i l =
    (l.i ≤ l.head.count)
    × (l.all ≡ sum l.i (λ j. (campaign_at l.terms l.counts j).price * due l.head.plan.depth (campaign_at l.terms l.counts j)))
    × (l.all ≤ l.i * 4_294_967_296)
