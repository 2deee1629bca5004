-- A run: the line is told where the input has ended and no read failed, and nothing else is.
use Rattle.std.proofs.Common.{sym, ◌∙◌, rules}
use Rattle.finite.proofs.Tests.{never}
use Rattle.pumpgreatest.proofs.Days.{ran_untold, ran_through}
use Rattle.pumpgreatest.proofs.run.Goals.{else-ended-via-then-ended+else-not-failed, else-ended-via-else-ended}
use Rattle.pumpgreatest.proofs.run.Goals as goal

pub returns-then-not-failed : goal.returns-then-not-failed
returns-then-not-failed c =
    ran_through c.hear-teller.ensures c.new.ensures (sym c.failed.ensures ∙ c.if-not-failed.true)
    (sym c.ended.ensures ∙ c.if-ended.true) (search rules) c.finish.ensures

pub returns-else-ended : goal.returns-else-ended
returns-else-ended c =
    ran_untold c.hear-teller.ensures c.new.ensures (λ f e. elim c.else-ended.branch [
      | else-ended-via-then-ended+else-not-failed w ↦ absurd (never _ f (sym w.failed.ensures ∙ w.if-not-failed.false))
      | else-ended-via-else-ended w ↦ absurd (never _ (sym c.ended.ensures ∙ w.if-ended.false) e)
    ])
