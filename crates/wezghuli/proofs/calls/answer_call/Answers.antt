-- `answer_call` meets its contract: words that are no head leave everything as it was, and else the call's outcome is
-- stored.
use Rattle.std.proofs.Common.{◌∙◌}
use Rattle.day.specs.InPlace.{asked}
use Rattle.wezghuli.specs.Library.{memory}
use Rattle.wezghuli.proofs.Stored.{misused, called}
use Rattle.wezghuli.proofs.calls.answer_call.Goals as goal

pub returns-in-Err : goal.returns-in-Err
returns-in-Err c =
    let a = c.args in
    let misuse = c.in-Err.ensures in
    let told = misused (asked a.ask) (memory a.head.now a.terms.now a.counts.now a.answer.now) misuse.0 in
    record { value = misuse.1 ∙ told.0; answer_after = told.1 }

pub returns-in-Ok : goal.returns-in-Ok
returns-in-Ok c =
    let a = c.args in
    let given = c.in-Ok.ensures in
    let step = c.execute-step in
    let stored = c.store in
    let told = called (asked a.ask) a.head.now a.terms.now a.counts.now a.answer.now given.0 c.in-Ok.before given.1
    step.result step.new.terms step.new.counts stored.new.head stored.new.answer stored.result step.ensures
    stored.ensures in
    record { value = told.0; answer_after = told.1 }
