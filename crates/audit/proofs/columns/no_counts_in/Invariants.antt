-- The loop keeps: the "or" so far is zero exactly if the entries from n on and below i have no counts.
use Rattle.audit.proofs.Loops.{PassedFrom}
use lib.Dec.{eqb}
use Rattle.campaigns.specs.Campaign.{uncounted, campaign_at}
use Rattle.audit.proofs.columns.no_counts_in.Given as goal

abbrev pub invariant-loop-i : goal.invariant-loop-i
invariant-loop-i l = PassedFrom l.n l.m (λ j. uncounted (campaign_at l.terms l.counts j)) (eqb l.any 0) l.i
