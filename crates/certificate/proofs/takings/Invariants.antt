-- The sum is that of the entries looked at; each price has 32 bits and there are at most 256 views, so that it never
-- wraps.
use Rattle.std.proofs.Common.{take}
use Rattle.allotments.specs.Allotment.{at}
use Rattle.certificate.proofs.Passes.{Summed}
use Rattle.certificate.proofs.takings.Given as goal

abbrev pub invariant-loop-entry : goal.invariant-loop-entry
invariant-loop-entry l = Summed l.count (at l.prices) (at (take l.n l.allotment)) l.entry-index l.sum
