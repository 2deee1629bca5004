-- The lowest bit of the set shifted down by i is bit i.
use mathlib.Core.Path.{refl}
use Rattle.sets.specs.Set.{member}
use Rattle.sets.proofs.has.Goals as goal

pub returns : goal.returns
unfolding member
returns c = refl
