-- Of the campaigns that are not left the dearest is at hand; the least of those left is compared with it.
use mathlib.Core.Path.{refl, sym, subst}
use Rattle.sets.specs.declared.Members.{Members}
use Prim.Native.Nat.{◌<◌}
use native.Mathlib.Omega.{arith}
use Rattle.allotments.specs.Allotment.{at}
use Rattle.allotments.proofs.Walks.{hand_small}
use Rattle.matching.proofs.Turns.{rest_of, at_hand}
use Rattle.matching.proofs.Choosing.{Choosing, choose_start, choose_dearer, choose_same}
use Rattle.matching.proofs.Choosing.{choose_end}
use Rattle.matching.proofs.dearest.Goals as goal

-- the least that is not served
start : (c : goal.After-first-best) → c.first-best.result < 64
start c = hand_small c.args.unserved c.ranges.unserved.fits c.requires c.first-best.result
    c.first-best.ensures

pub loop-c-init : goal.loop-c-init
loop-c-init c =
    subst (λ (x : Members). Choosing c.args.prices.now c.args.unserved c.first-best.result
    (at c.args.prices.now c.first-best.result) x.0)
    (sym c.into_iter-c-iterator.ensures.into_iter_gives)
    (choose_start c.ranges.unserved.fits c.requires c.first-best.ensures
    (rest_of c.args.unserved c.first-best.ensures c.rest.ensures) refl)

pub loop-c-preserved-then-dearer : goal.loop-c-preserved-then-dearer
loop-c-preserved-then-dearer c =
    let t = c.in-Some.ensures.steps in
    choose_dearer c.loop-c.invariant t.0 t.1 (rest_of c.loop-c.c-iterator.0 t.1 t.2) c.if-dearer.true

pub loop-c-preserved : goal.loop-c-preserved
loop-c-preserved c =
    let t = c.in-Some.ensures.steps in
    choose_same c.loop-c.invariant t.0 t.1 (rest_of c.loop-c.c-iterator.0 t.1 t.2) c.if-dearer.false

pub returns : goal.returns
returns c = choose_end c.loop-c.invariant c.in-None.ensures.steps.0

pub offset_bounds-prices-start : goal.offset_bounds-prices-start
offset_bounds-prices-start c = omega (arith, start c)

pub bounds-prices-start : goal.bounds-prices-start
bounds-prices-start c = omega (
  arith,
  hand_small c.args.unserved c.ranges.unserved.fits c.requires c.first-best.result
      c.first-best.ensures,
)

pub offset_bounds-prices-at : goal.offset_bounds-prices-at
offset_bounds-prices-at c = omega (arith, at_hand c.loop-c.invariant.walk c.in-Some.ensures.steps.0 c.in-Some.ensures.steps.1)

pub bounds-prices-at : goal.bounds-prices-at
bounds-prices-at c = omega (arith, at_hand c.loop-c.invariant.walk c.in-Some.ensures.steps.0 c.in-Some.ensures.steps.1)
