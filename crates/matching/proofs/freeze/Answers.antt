-- The members that are not left have the price; the least of those left gets it.
use mathlib.Core.Path.{sym, subst}
use Rattle.sets.specs.declared.Members.{Members}
use native.Mathlib.Omega.{arith}
use Rattle.matching.proofs.Turns.{rest_of, at_hand}
use Rattle.matching.proofs.Freezing.{Freezing, freeze_start, freeze_turn, freeze_end}
use Rattle.matching.proofs.freeze.Goals as goal

pub loop-c-init : goal.loop-c-init
loop-c-init c =
    subst (λ (x : Members). Freezing c.args.level.now c.args.level.now c.args.set c.args.price x.0)
    (sym c.into_iter-c-iterator.ensures.into_iter_gives) (freeze_start c.requires c.ranges.set.fits)

pub loop-c-preserved : goal.loop-c-preserved
loop-c-preserved c =
    let l = c.loop-c in
    freeze_turn c.in-Some.ensures.steps.0 c.in-Some.ensures.steps.1
    (rest_of l.c-iterator.0 c.in-Some.ensures.steps.1 c.in-Some.ensures.steps.2) l.invariant

pub returns : goal.returns
returns c = freeze_end c.in-None.ensures.steps.0 c.requires c.loop-c.invariant

pub offset_bounds-level-at : goal.offset_bounds-level-at
offset_bounds-level-at c = omega (arith, at_hand c.loop-c.invariant.walk c.in-Some.ensures.steps.0 c.in-Some.ensures.steps.1)

pub bounds-level-at : goal.bounds-level-at
bounds-level-at c = omega (arith, at_hand c.loop-c.invariant.walk c.in-Some.ensures.steps.0 c.in-Some.ensures.steps.1)
