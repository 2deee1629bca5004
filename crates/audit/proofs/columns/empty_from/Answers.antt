-- The entries from n on have no terms and no counts exactly if each is all zero: `empty_joins` makes the two tests one.
use Rattle.audit.proofs.Zeros.{empty_joins}
use Rattle.campaigns.specs.Campaign.{campaign_at}
use Rattle.audit.proofs.columns.empty_from.Goals as goal

pub returns-then-no_terms_from : goal.returns-then-no_terms_from
returns-then-no_terms_from c =
    rw (← empty_joins c.args.n (campaign_at c.args.terms.now c.args.counts.now), ← c.no_terms_from.ensures, c.if-no_terms_from.true)
    c.no_counts_in.ensures

pub returns-else-no_terms_from : goal.returns-else-no_terms_from
returns-else-no_terms_from c =
    rw (← empty_joins c.args.n (campaign_at c.args.terms.now c.args.counts.now), ← c.no_terms_from.ensures, c.if-no_terms_from.false)
