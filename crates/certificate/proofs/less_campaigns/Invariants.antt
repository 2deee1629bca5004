-- What is left and the figures times whole plays of the campaigns below i are the amount together.
use Rattle.std.proofs.Common.{◌≡◌, ◌+◌, ◌*◌}
use Rattle.finite.specs.Finite.{sum}
use Rattle.allotments.specs.Allotment.{at}
use Rattle.certificate.proofs.less_campaigns.Given as goal

abbrev pub invariant-loop-i : goal.invariant-loop-i
invariant-loop-i l = l.left + sum l.i (λ d. at l.surplus d * at l.wholes d) ≡ l.amount
