-- A call of a state that is not sound gets 1; any other goes to the operations of a sound state.
use mathlib.Core.Path.{ap, ◌∙◌}
use Rattle.day.specs.declared.Step.{Step}
use Rattle.day.specs.Day.{state_of}
use Rattle.day.specs.InPlace.{asked, outcome_of}
use Rattle.day.proofs.Questions.{unsound_refused}
use Rattle.day.proofs.ops.execute.Goals as goal

pub returns-then-not-prepare : goal.returns-then-not-prepare
returns-then-not-prepare c =
    let known = c.before.before in
    let a = known.args in
    let p = known.prepare in
    ap (λ (x : Step). outcome_of x a.terms.now a.counts.now) c.refused.ensures
    ∙ unsound_refused (state_of a.head a.terms.now a.counts.now) (asked a.ask)
    (p.ensures.sound_is ∙ c.if-not-prepare.true)

pub execute_sound-requires : goal.execute_sound-requires
execute_sound-requires c =
    let p = c.prepare in
    let e = c.if-not-prepare.false in
    record {
      weights = p.ensures.weights_are e;
      kept = record { room = p.ensures.room; is_sound = p.ensures.sound_is ∙ e };
    }

pub returns : goal.returns
returns c = c.execute_sound.ensures
