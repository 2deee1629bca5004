-- The limits first, since only a plan that passes them has weights; then the rest of the tests. Both are `audited`.
use mathlib.Core.Path.{sym, ◌∙◌}
use Rattle.campaigns.specs.Campaign.{campaign_at}
use Rattle.audit.proofs.Audits.{audit_outside, plan_of}
use Rattle.day.specs.Day.{audited}
use Rattle.day.proofs.ops.audited.Goals as goal

pub returns-then-not-limits_hold : goal.returns-then-not-limits_hold
unfolding audited
returns-then-not-limits_hold c =
    sym (audit_outside c.args.head (campaign_at c.args.terms.now c.args.counts.now)
    (sym c.limits_hold.ensures ∙ c.if-not-limits_hold.true))

pub weights-requires : goal.weights-requires
weights-requires c =
    plan_of c.args.head (campaign_at c.args.terms.now c.args.counts.now)
    (sym c.limits_hold.ensures ∙ c.if-not-limits_hold.false)

pub audit_parts-requires : goal.audit_parts-requires
audit_parts-requires c = record {
  weights = c.weights.ensures;
  head_value = sym c.limits_hold.ensures ∙ c.if-not-limits_hold.false;
}

pub returns : goal.returns
unfolding audited
returns c = c.audit_parts.ensures
