-- The loop keeps: `fit` says whether the prices and budgets of the first i campaigns are within their limits.
use Rattle.audit.proofs.Loops.{Passed}
use Rattle.campaigns.specs.Campaign.{priced, campaign_at}
use Rattle.audit.proofs.columns.priced_all.Given as goal

abbrev pub invariant-loop-i : goal.invariant-loop-i
invariant-loop-i l = Passed l.n (λ j. priced (campaign_at l.terms l.counts j)) l.fit l.i
