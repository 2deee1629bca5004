-- k views more are found; a search that fails ends the serving, and what it visited is closed.
use mathlib.Core.Path.{refl, ◌∙◌}
use native.Mathlib.Omega.{arith}
use Rattle.matching.proofs.Serving.{gains_none, gains_one, ready_from, ready_after}
use Rattle.matching.proofs.serve.Goals as goal

pub loop-init : goal.loop-init
loop-init c =
    let a = c.args in
    (omega arith, refl, gains_none a.views.now a.allotment.now a.campaign a.closed, c.requires)

pub seek-requires : goal.seek-requires
seek-requires c =
    let a = c.args in
    let l = c.loop in
    ready_from a.views.now l.allotment a.campaign a.closed l.first l.known
    c.first_open-first.result l.invariant.3 c.first_open-first.ensures

pub loop-preserved : goal.loop-preserved
loop-preserved c =
    let a = c.args in
    let l = c.loop in
    let o = c.first_open-first in
    let r = c.seek in
    let g = c.in-Found.ensures in (
      omega arith,
      r.auto.allotment ∙ l.invariant.1,
      gains_one a.views.now a.allotment.now l.allotment r.new.allotment a.campaign a.closed l.counter
          l.invariant.2 g.0,
      ready_after a.views.now l.allotment r.new.allotment a.campaign a.closed o.result l.known
          c.in-Found.bare
          (ready_from a.views.now l.allotment a.campaign a.closed l.first l.known o.result
          l.invariant.3 o.ensures) r.auto.allotment g.0 g.1,
    )
