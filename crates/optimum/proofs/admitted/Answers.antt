-- The questions in turn: the audit tells the first, and each later one is asked where those before it hold.
use mathlib.Core.Path.{ap, sym, ◌∙◌}
use mathlib.Core.Bool.{not}
use borrow.Author.Tests.{le-leb, lt-leb}
use Rattle.allotments.specs.Limits.{max_handed_in}
use Rattle.questions.specs.Questions.{first_failed}
use Rattle.optimum.proofs.Asked.{sound_told}
use Rattle.optimum.specs.Optimum.{failed}
use Rattle.optimum.proofs.admitted.Goals as goal

pub returns-then-is_none : goal.returns-then-is_none
unfolding failed first_failed
returns-then-is_none c =
    rw (sound_told _ _ c.audited.ensures ∙ c.is_none.ensures ∙ ap not c.if-is_none.true)

pub returns-then-n-gt-MAX_HANDED_IN : goal.returns-then-n-gt-MAX_HANDED_IN
unfolding failed first_failed
returns-then-n-gt-MAX_HANDED_IN c =
    let yes = sound_told _ _ c.audited.ensures ∙ c.is_none.ensures ∙ ap not c.if-is_none.false in
    rw (yes, lt-leb _ max_handed_in c.if-n-gt-MAX_HANDED_IN.true)

pub returns-then-not-all_within : goal.returns-then-not-all_within
unfolding failed first_failed
returns-then-not-all_within c =
    let yes = sound_told _ _ c.audited.ensures ∙ c.is_none.ensures ∙ ap not c.if-is_none.false in
    rw (
      yes,
      le-leb _ max_handed_in c.if-n-gt-MAX_HANDED_IN.false,
      sym c.all_within.ensures ∙ c.if-not-all_within.true,
    )

pub returns-then-n-allotment : goal.returns-then-n-allotment
unfolding failed first_failed
returns-then-n-allotment c =
    let yes = sound_told _ _ c.audited.ensures ∙ c.is_none.ensures ∙ ap not c.if-is_none.false in
    rw (
      yes,
      le-leb _ max_handed_in c.if-n-gt-MAX_HANDED_IN.false,
      sym c.all_within.ensures ∙ c.if-not-all_within.false,
      c.if-n-allotment.true,
    )

pub returns : goal.returns
unfolding failed first_failed
returns c =
    let yes = sound_told _ _ c.audited.ensures ∙ c.is_none.ensures ∙ ap not c.if-is_none.false in
    rw (
      yes,
      le-leb _ max_handed_in c.if-n-gt-MAX_HANDED_IN.false,
      sym c.all_within.ensures ∙ c.if-not-all_within.false,
      c.if-n-allotment.false,
    )
