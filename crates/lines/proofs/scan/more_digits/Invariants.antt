-- The loop keeps: what is left, read on from the number so far, gives what is given behind the first digits, and the
-- number is within the slot's range.
use Rattle.std.proofs.Common.{◌≡◌, ◌≤◌, length}
use Rattle.lines.specs.Form.{slot_max}
use Rattle.lines.specs.Reading.{digits}
use Rattle.lines.proofs.scan.more_digits.Given as goal

abbrev pub invariant-loop-rest : goal.invariant-loop-rest
invariant-loop-rest l =
    (digits l.number l.rest ≡ digits l.first l.s) × (1 ≤ l.number) × (l.number ≤ slot_max l.slot)

abbrev pub decreases-loop-rest : goal.decreases-loop-rest
decreases-loop-rest l = length l.rest
