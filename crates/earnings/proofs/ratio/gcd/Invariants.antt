-- Euclid's loop. The invariant: what divides both numbers of a turn is what divides those that were given.
use Rattle.earnings.proofs.Divisors.{Euclid}
use Rattle.earnings.proofs.ratio.gcd.Given as goal

abbrev pub invariant-loop-y : goal.invariant-loop-y
invariant-loop-y l = Euclid l.a l.b l.x l.y

abbrev pub decreases-loop-y : goal.decreases-loop-y
decreases-loop-y l = l.y
