-- The figures of the audit, which of a sound state are the takings, the total claim and full.
use mathlib.Core.Path.{◌≡◌, ap, sym, ◌∙◌}
use native.Mathlib.Omega.{arith}
use Rattle.day.specs.declared.Day.{Day}
use Rattle.day.specs.Day.{state_of}
use Rattle.campaigns.specs.declared.Phase.TheVariants.{Closed}
use Rattle.audit.specs.declared.Audit.{Audit}
use Rattle.day.specs.declared.Answer.TheVariants.{Closing}
use Rattle.day.specs.declared.Outcome.{Outcome}
use Rattle.day.specs.Day.{campaign, in_phase, total_takings, total_claim, sound}
use Rattle.questions.specs.Questions.{first_failed}
use Rattle.day.specs.Calls.{questions}
use Rattle.day.specs.Calls.Call.{close_day}
use Rattle.day.proofs.Questions.{call_yes}
use Rattle.audit.proofs.Audits.{sound_within, audit_some, audit_sound}
use Rattle.day.proofs.Steps.{steps_refused}
use Rattle.day.proofs.ops.close_sound.Goals as goal
use Rattle.day.proofs.ops.close_sound.Goals.{Then-not-running}

asked_11 : (c : Then-not-running) → 11 ≡ first_failed (questions (state_of c.args.head c.args.terms.now c.args.counts.now) close_day)
unfolding first_failed
asked_11 c = rw (c.requires.kept.is_sound, sym c.running.ensures ∙ c.if-not-running.true)

abbrev closing : Day → Audit → Outcome
closing s a = record { day = in_phase s (Closed a.takings); answer = Closing a.takings a.claim a.full }

pub returns-then-not-running : goal.returns-then-not-running
returns-then-not-running c =
    steps_refused c.args.head c.args.terms.now c.args.counts.now close_day c.refused.result 11
    c.refused.ensures (asked_11 c.before) (λ e. omega arith)

pub audit_parts-requires-clause-head_value : goal.audit_parts-requires-clause-head_value
unfolding sound
audit_parts-requires-clause-head_value c =
    sound_within c.args.head (campaign (state_of c.args.head c.args.terms.now c.args.counts.now)) c.requires.kept.is_sound

pub unwrap-audit-requires : goal.unwrap-audit-requires
unfolding sound
unwrap-audit-requires c =
    audit_sound c.args.head (campaign (state_of c.args.head c.args.terms.now c.args.counts.now)) c.audit_parts.result
    c.audit_parts.ensures ∙ c.requires.kept.is_sound

pub returns : goal.returns
unfolding sound total_takings total_claim
returns c =
    let s = state_of c.args.head c.args.terms.now c.args.counts.now in
    let told = audit_some c.args.head (campaign s) (sym c.unwrap-audit.ensures ∙ c.audit_parts.ensures) in
    ap (closing s) told.1
    ∙ sym (call_yes s close_day (told.0, (sym c.running.ensures ∙ c.if-not-running.false, tt)))
