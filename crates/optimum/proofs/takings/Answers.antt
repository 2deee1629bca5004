-- The audit tells question 1 and the length question 19; a sound state has at most 64 campaigns, so that the entries
-- can be summed.
use mathlib.Core.Path.{ap, ◌∙◌}
use mathlib.Core.Bool.{not}
use native.Mathlib.Omega.{arith}
use borrow.Author.Tests.{le-leb, lt-leb}
use Rattle.allotments.specs.Limits.{max_handed_in}
use Rattle.day.proofs.State.{sound_facts}
use Rattle.questions.specs.Questions.{first_failed}
use Rattle.optimum.specs.Optimum.{takings_answer}
use Rattle.optimum.proofs.Asked.{sound_told}
use Rattle.optimum.proofs.takings.Goals as goal

pub returns-then-is_none : goal.returns-then-is_none
unfolding takings_answer first_failed
returns-then-is_none c =
    rw (sound_told _ _ c.audited.ensures ∙ c.is_none.ensures ∙ ap not c.if-is_none.true)

pub returns-then-entries-gt-MAX_HANDED_IN : goal.returns-then-entries-gt-MAX_HANDED_IN
unfolding takings_answer first_failed
returns-then-entries-gt-MAX_HANDED_IN c =
    let yes = sound_told _ _ c.audited.ensures ∙ c.is_none.ensures ∙ ap not c.if-is_none.false in
    rw (yes, lt-leb _ max_handed_in c.if-entries-gt-MAX_HANDED_IN.true)

pub takings-requires : goal.takings-requires
takings-requires c =
    let yes = sound_told _ _ c.audited.ensures ∙ c.is_none.ensures ∙ ap not c.if-is_none.false in
    ((sound_facts _ yes).few, c.if-entries-gt-MAX_HANDED_IN.false, omega arith)

pub returns : goal.returns
unfolding takings_answer first_failed
returns c =
    let yes = sound_told _ _ c.audited.ensures ∙ c.is_none.ensures ∙ ap not c.if-is_none.false in
    rw (yes, le-leb _ max_handed_in c.if-entries-gt-MAX_HANDED_IN.false, c.takings.ensures)
