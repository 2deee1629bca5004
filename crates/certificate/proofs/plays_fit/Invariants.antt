-- Each campaign has left what its whole plays exceed the entries looked at by that it is given; one given with none
-- left is one too many.
use Rattle.std.proofs.Common.{take}
use Rattle.allotments.specs.Allotment.{at}
use Rattle.certificate.proofs.Passes.{Left}
use Rattle.certificate.proofs.plays_fit.Given as goal

abbrev pub invariant-loop-entry : goal.invariant-loop-entry
invariant-loop-entry l = Left l.count l.initial.left l.left (at (take l.n l.allotment)) l.entry-index
