-- The loop keeps: the sum so far is that of the first i campaigns, at most i × 1,000,000 × 2^32. No difference is
-- negative, since the weights rise with the age.
use Rattle.audit.specs.Cited.{waited_of}
use Prim.Native.Nat.{◌*◌}
use mathlib.Core.Path.{◌≡◌}
use Rattle.campaigns.specs.Campaign.{campaign_at}
use Prim.Native.Nat.{◌≤◌}
use Rattle.audit.proofs.sums.wait_all.Given as goal

abbrev pub invariant-loop-i : goal.invariant-loop-i
invariant-loop-i l = (l.i ≤ l.n) × (l.sum ≡ waited_of l.plan l.i (campaign_at l.terms l.counts))
    × (l.sum ≤ l.i * 4_294_967_296_000_000)
