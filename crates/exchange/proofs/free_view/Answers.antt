-- The views below j are passed: given, or not naming the campaign. The first that is neither is the least of all.
use mathlib.Core.Path.{ap, sym, ◌∙◌}
use mathlib.Core.Bool.{Bool, ◌&&◌}
use native.Mathlib.Omega.{arith}
use lib.Dec.{eqb}
use Rattle.allotments.specs.Allotment.{at}
use Rattle.exchange.proofs.Search.{passed_taken, passed_one, free_here, free_nowhere}
use Rattle.exchange.proofs.free_view.Goals as goal

pub returns-then-has : goal.returns-then-has
returns-then-has c =
    let a = c.args in
    omega (
      arith,
      free_nowhere a.views.now a.allotment.now a.campaign
          (c.requires.none_free.1 a.campaign c.requires.views_in_bounds.1 (sym c.has.ensures ∙ c.if-has.true)),
    )

pub loop-j-init : goal.loop-j-init
loop-j-init c =
    let a = c.args in
    passed_taken a.views.now a.allotment.now a.campaign a.first c.requires.none_free.0

pub returns-then-holder-has : goal.returns-then-holder-has
returns-then-holder-has c =
    let a = c.args in
    let l = c.loop-j in (
      free_here a.views.now a.allotment.now a.campaign l.j c.loop-j-test.true l.invariant
          (ap (λ (b : Bool). eqb (at a.allotment.now l.j) 64 && b) (sym c.has-in-loop-j.ensures)
          ∙ c.if-holder-has.true),
      c.loop-j-test.true,
    )

pub loop-j-preserved : goal.loop-j-preserved
loop-j-preserved c =
    let a = c.args in
    let l = c.loop-j in
    passed_one a.views.now a.allotment.now a.campaign l.j l.invariant
    (ap (λ (b : Bool). eqb (at a.allotment.now l.j) 64 && b) (sym c.has-in-loop-j.ensures) ∙
    c.if-holder-has.false)

pub returns : goal.returns
returns c =
    let a = c.args in
    omega (arith, free_nowhere a.views.now a.allotment.now a.campaign (λ i k. c.loop-j.invariant i (omega arith)))
