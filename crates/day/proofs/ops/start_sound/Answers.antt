-- Question 6 is the only one that is left of a sound state; where it is answered yes, the phase alone changes.
use mathlib.Core.Bool.{true}
use mathlib.Core.Path.{◌≡◌, sym, ◌∙◌}
use native.Mathlib.Omega.{arith}
use Rattle.day.specs.declared.Day.{Day}
use Rattle.day.specs.Day.{state_of}
use Rattle.campaigns.specs.Phase.{is_filling}
use Rattle.questions.specs.Questions.{first_failed}
use Rattle.day.specs.Calls.{questions}
use Rattle.day.specs.Calls.Call.{start_day}
use Rattle.day.proofs.Questions.{call_yes}
use Rattle.day.proofs.Steps.{steps_refused}
use Rattle.day.proofs.ops.start_sound.Goals as goal
use Rattle.day.proofs.ops.start_sound.Goals.{Start, Then-not-filling, Else-not-filling}

abbrev state : Start → Day
state s = state_of s.args.head s.args.terms.now s.args.counts.now

asked_6 : (c : Then-not-filling) → 6 ≡ first_failed (questions (state c.before.before) start_day)
unfolding first_failed
asked_6 c = rw (
  c.requires.is_sound,
  sym c.filling.ensures
      ∙ c.if-not-filling.true,
)

fills : (c : Else-not-filling) → is_filling c.args.head.phase ≡ true
fills c = sym c.filling.ensures ∙ c.if-not-filling.false

pub returns-then-not-filling : goal.returns-then-not-filling
returns-then-not-filling c = let s = c.before.before.before in
    steps_refused s.args.head s.args.terms.now s.args.counts.now start_day c.refused.result 6
    c.refused.ensures (asked_6 c.before) (λ e. omega arith)

pub returns : goal.returns
returns c = let s = c.before.before.before in
    sym (call_yes (state s) start_day (s.requires.is_sound, (fills c.before, tt)))
