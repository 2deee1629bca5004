-- What is left and the figures taken off are the amount together.
use Rattle.std.proofs.Common.{◌≡◌, ◌+◌, take}
use Rattle.finite.specs.Finite.{sum}
use Rattle.allotments.specs.Allotment.{at}
use Rattle.certificate.proofs.less_views.Given as goal

abbrev pub invariant-loop-own : goal.invariant-loop-own
invariant-loop-own l = l.left + sum l.own-index (at (take l.n l.worth)) ≡ l.amount
