-- The members that are not left have the price; the least of those left gets it.
use Rattle.matching.proofs.Freezing.{Freezing}
use Rattle.matching.proofs.freeze.Given as goal

abbrev pub invariant-loop-c : goal.invariant-loop-c
invariant-loop-c l = Freezing l.initial.level l.level l.set l.price l.c-iterator.0
