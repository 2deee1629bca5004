-- The smaller of two quotients.
use native.Mathlib.Omega.{arith}
use Rattle.campaigns.specs.Campaign.{whole}
use Rattle.noon.specs.Noon.{due}
use Rattle.noon.proofs.due.Goals as goal

pub returns : goal.returns
unfolding due whole
returns c = omega arith
