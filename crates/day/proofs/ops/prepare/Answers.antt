-- The audit finds the state sound exactly where it is, and the limits that it has passed make the weights those of its
-- plan.
use mathlib.Core.Bool.{false}
use mathlib.Core.Path.{refl, sym, ◌∙◌}
use Rattle.campaigns.specs.Campaign.{campaign_at}
use Rattle.day.specs.Day.{sound}
use Rattle.finite.proofs.Tests.{never}
use Rattle.audit.proofs.Audits.{outside, audit_sound, plan_of}
use Rattle.day.proofs.ops.prepare.Goals as goal

pub returns-then-not-limits_hold : goal.returns-then-not-limits_hold
unfolding sound
returns-then-not-limits_hold c = record {
  room = c.requires;
  sound_is = outside c.args.head (campaign_at c.args.terms.now c.args.counts.now)
      (sym c.limits_hold.ensures ∙ c.if-not-limits_hold.true);
  weights_are = λ e. absurd (never false refl e);
}

pub weights-requires : goal.weights-requires
weights-requires c =
    plan_of c.args.head (campaign_at c.args.terms.now c.args.counts.now)
    (sym c.limits_hold.ensures ∙ c.if-not-limits_hold.false)

pub audit_parts-requires : goal.audit_parts-requires
audit_parts-requires c = record {
  weights = c.weights.ensures;
  head_value = sym c.limits_hold.ensures ∙ c.if-not-limits_hold.false;
}

pub returns : goal.returns
unfolding sound
returns c = record {
  room = c.requires;
  sound_is =
      sym (c.is_some.ensures
      ∙ audit_sound c.args.head (campaign_at c.args.terms.now c.args.counts.now) c.audit_parts.result
      c.audit_parts.ensures);
  weights_are = λ e. c.weights.ensures;
}
