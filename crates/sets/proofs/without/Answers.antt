-- What both sets have, taken out of the first by an exclusive or.
use Rattle.sets.proofs.Algebra.{without_is}
use Rattle.sets.proofs.without.Goals as goal

pub returns : goal.returns
returns c = without_is c.args.set c.args.out c.ranges.set.fits c.ranges.out.fits
