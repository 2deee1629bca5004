-- An age up to the depth is in the list, and what stands there is W(age), at most 2^32.
use Rattle.campaigns.proofs.Laws.{plan_sized, weight_top}
use native.Mathlib.Omega.{arith}
use Rattle.campaigns.proofs.weights.weigh.Goals as goal

pub offset_bounds-weights-age : goal.offset_bounds-weights-age
offset_bounds-weights-age c = let z = plan_sized c.args.plan c.requires.weights.plan_sound in omega arith

pub bounds-weights-age : goal.bounds-weights-age
bounds-weights-age c = let z = plan_sized c.args.plan c.requires.weights.plan_sound in omega arith

pub returns : goal.returns
returns c = let w = c.requires.weights.weigh_is c.args.age c.requires.age_le_depth in (
  w,
  omega (
    arith,
    w,
    weight_top c.args.plan c.requires.weights.plan_sound c.args.age
        c.requires.age_le_depth,
  ),
)
