-- A state is that of its head and its arrays, so that a call by value is the call in place on copies of them.
use Rattle.campaigns.specs.declared.Head.{Head}
use Rattle.day.specs.declared.Day.{Day}
use Rattle.day.specs.Day.{state_of}
use mathlib.Core.Path.{ap, ◌∙◌}
use Rattle.day.specs.Calls.{call}
use Rattle.day.specs.InPlace.{asked}
use Rattle.day.proofs.Day.execute.Goals as goal

pub returns : goal.returns
returns c =
    let a = c.args in
    ap (λ (d : Day). record { day = d; answer = c.execute-step.result.answer }) c.from_parts.ensures
    ∙ c.execute-step.ensures
    ∙ ap (λ (h : Head). call (state_of h a.self.terms a.self.counts) (asked a.ask)) c.head.ensures
