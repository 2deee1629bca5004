-- The count of ones of a 64-bit number is the size of the set.
use mathlib.Core.Path.{◌∙◌}
use Rattle.sets.proofs.Bits.{ones_size}
use Rattle.sets.proofs.count.Goals as goal

pub returns : goal.returns
returns c = let s = c.before in c.from.ensures ∙ ones_size s.args.set s.ranges.set.fits
