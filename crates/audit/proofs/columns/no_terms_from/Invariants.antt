-- The loop keeps: the "or" so far is zero exactly if the entries from n on and below i have no price and no budget.
use Rattle.audit.proofs.Loops.{PassedFrom}
use lib.Dec.{eqb}
use mathlib.Core.Bool.{◌&&◌}
use Rattle.campaigns.specs.Campaign.{campaign_at}
use Rattle.audit.proofs.columns.no_terms_from.Given as goal

abbrev pub invariant-loop-i : goal.invariant-loop-i
invariant-loop-i l = PassedFrom l.n 64
    (λ j. eqb (campaign_at l.terms l.counts j).price 0 && eqb (campaign_at l.terms l.counts j).budget 0) (eqb l.any 0) l.i
