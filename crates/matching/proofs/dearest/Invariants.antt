-- Of the campaigns that are not left the dearest is at hand; the least of those left is compared with it.
use Rattle.matching.proofs.Choosing.{Choosing}
use Rattle.matching.proofs.dearest.Given as goal

abbrev pub invariant-loop-c : goal.invariant-loop-c
invariant-loop-c l = Choosing l.prices l.unserved l.best l.top l.c-iterator.0
