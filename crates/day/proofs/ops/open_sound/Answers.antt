-- Question 2, then those of the plan. Where all are answered yes, zero arrays are a plan with no campaigns.
use mathlib.Core.Bool.{true}
use mathlib.Core.Path.{◌≡◌, ap, sym, ◌∙◌}
use native.Mathlib.Omega.{arith}
use Rattle.std.specs.Prelude.{Result}
use Rattle.refusal.specs.declared.Refusal.{Refusal}
use Rattle.campaigns.specs.declared.Plan.{Plan}
use Rattle.campaigns.specs.declared.Phase.TheVariants.{Filling}
use Rattle.campaigns.specs.Phase.{is_closed}
use Rattle.questions.specs.Questions.{first_failed, verdict, plan_questions}
use Rattle.day.specs.declared.Day.{Day}
use Rattle.day.specs.declared.Answer.TheVariants.{Done}
use Rattle.day.specs.Day.{state_of}
use Rattle.day.specs.Calls.{own_questions, questions}
use Rattle.day.specs.Calls.Call.{open_plan}
use Rattle.day.proofs.Questions.{call_yes}
use Rattle.day.proofs.Steps.{steps_refused, planned_is, verdict_refused, verdict_yes}
use Rattle.day.proofs.ops.open_sound.Goals as goal
use Rattle.day.proofs.ops.open_sound.Goals.{Start, Then-not-closed}

asked_2 : (c : Then-not-closed) → let a = c.args in
    2 ≡ first_failed (questions (state_of a.head a.terms.now a.counts.now) (open_plan a.plan))
unfolding first_failed
asked_2 c =
    let p = sym c.closed.ensures ∙ c.if-not-closed.true in
    rw (c.requires.is_sound, p)

-- past question 2 those of the plan are left
asked_plan : (s : Day) (pl : Plan) {o : Result Unit Refusal} → is_closed s.phase ≡ true
    → o ≡ verdict (first_failed (plan_questions pl)) → o ≡ verdict (first_failed (own_questions s (open_plan pl)))
unfolding first_failed
asked_plan s pl p e = rw p e

pub returns-then-not-closed : goal.returns-then-not-closed
returns-then-not-closed c = let a = c.args in
    steps_refused a.head a.terms.now a.counts.now (open_plan a.plan)
    c.refused.result 2 c.refused.ensures (asked_2 c.before) (λ e. omega arith)

pub returns-in-Err : goal.returns-in-Err
returns-in-Err c =
    let a = c.args in
    verdict_refused a.head a.terms.now a.counts.now (open_plan a.plan) c.requires.is_sound
    (asked_plan (state_of a.head a.terms.now a.counts.now) a.plan (sym c.closed.ensures ∙ c.if-not-closed.false)
    c.plan_question.ensures)
    c.in-Err.is c.refused-in-Err.ensures

pub returns : goal.returns
returns c =
    let a = c.args in
    let s = state_of a.head a.terms.now a.counts.now in
    ap (λ (d : Day). record { day = d; answer = Done }) (planned_is Filling a.plan)
    ∙ sym (call_yes s (open_plan a.plan)
    (verdict_yes a.head a.terms.now a.counts.now (open_plan a.plan) c.requires.is_sound
    (asked_plan s a.plan (sym c.closed.ensures ∙ c.if-not-closed.false) c.plan_question.ensures) c.in_default.is))
