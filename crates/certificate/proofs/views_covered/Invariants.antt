-- The views below j are covered; one that is not fails the whole test.
use Rattle.std.proofs.Common.{◌≡◌, true}
use Rattle.finite.specs.Finite.{every}
use Rattle.allotments.specs.Allotment.{at, covered}
use Rattle.certificate.proofs.views_covered.Given as goal

abbrev pub invariant-loop-j : goal.invariant-loop-j
invariant-loop-j l =
    every l.j (λ i. covered l.count (at l.prices) (at l.surplus) (at l.views i) (at l.worth i)) ≡ true
