-- The loop keeps: the first i campaigns have each paid at most their budgets, and the three sums are theirs; each sum
-- is at most i times the greatest term of the widths, so that none overflows.
use Rattle.audit.specs.Cited.{paid_columns}
use Rattle.finite.specs.Finite.{sum}
use Prim.Native.Nat.{◌*◌}
use mathlib.Core.Bool.{true}
use mathlib.Core.Path.{◌≡◌}
use Rattle.campaigns.specs.Campaign.{campaign_at}
use Prim.Native.Nat.{◌≤◌}
use Rattle.audit.proofs.sums.spend_all.Given as goal

abbrev pub invariant-loop-i : goal.invariant-loop-i
invariant-loop-i l =
    (l.i ≤ l.n) × (paid_columns l.i (campaign_at l.terms l.counts) ≡ true)
    × (l.budgets ≡ sum l.i (λ j. (campaign_at l.terms l.counts j).budget))
    × (l.takings ≡ sum l.i (λ j. (campaign_at l.terms l.counts j).price * (campaign_at l.terms l.counts j).plays))
    × (l.turned ≡ sum l.i (λ j. (campaign_at l.terms l.counts j).price * (campaign_at l.terms l.counts j).turns))
    × (l.budgets ≤ l.i * 4_294_967_296) × (l.takings ≤ l.i * 281_474_976_710_656) × (l.turned ≤ l.i * 281_474_976_710_656)
