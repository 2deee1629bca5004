-- The views below j are covered; one that is not fails the whole test.
use mathlib.Core.Path.{sym, ◌∙◌}
use lib.ListN.{length}
use Rattle.finite.proofs.Tests.{every_not}
use Rattle.allotments.specs.Allotment.{at, covered}
use Rattle.certificate.proofs.Passes.{passed_none, passed_more}
use Rattle.certificate.proofs.views_covered.Goals as goal

pub loop-j-init : goal.loop-j-init
loop-j-init c =
    let a = c.args in
    passed_none (λ i. covered a.count (at a.prices.now) (at a.surplus.now) (at a.views.now i) (at a.worth.now i))

pub returns-then-not-view_covered : goal.returns-then-not-view_covered
returns-then-not-view_covered c =
    let a = c.args in
    let l = c.loop-j in
    sym (every_not (length a.views.now) (λ i. covered a.count (at a.prices.now) (at a.surplus.now)
    (at a.views.now i) (at a.worth.now i)) l.j c.loop-j-test.true
    (sym c.view_covered.ensures ∙ c.if-not-view_covered.true))

pub loop-j-preserved : goal.loop-j-preserved
loop-j-preserved c =
    let a = c.args in
    let l = c.loop-j in
    passed_more l.j (λ i. covered a.count (at a.prices.now) (at a.surplus.now) (at a.views.now i) (at a.worth.now i))
    l.invariant (sym c.view_covered.ensures ∙ c.if-not-view_covered.false)
