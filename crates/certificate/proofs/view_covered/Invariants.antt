-- The names that are not left are covered; the least of those left is looked at, and one that is not fails the test.
use Prim.Native.Nat.{◌+◌}
use lib.Dec.{leb}
use Rattle.allotments.specs.Allotment.{at}
use Rattle.certificate.proofs.Passes.{Walked}
use Rattle.certificate.proofs.view_covered.Given as goal

abbrev pub invariant-loop-c : goal.invariant-loop-c
invariant-loop-c l = Walked l.view (λ d. leb (at l.prices d) (at l.surplus d + l.figure)) l.c-iterator.0
