-- The block, part by part. The loop's invariant: the bytes before the place were taken and their answers told
-- (`Told`). With room for the longest answer a part takes a byte at least, so that fewer and fewer bytes are left.
use Rattle.std.proofs.Common.{◌≡◌, ◌≤◌, ◌-◌, length, take}
use Rattle.pumpday.specs.Telling.{Told}
use Rattle.pumpday.specs.Cited.{by}
use Rattle.pumpday.proofs.teller.Teller.answer_block.Given as goal

abbrev pub invariant-loop-from : goal.invariant-loop-from
invariant-loop-from l =
    (length l.out ≡ length l.fn.out) × (l.from ≤ length l.block)
    × Told l.fn.self (by l.fn.self (take l.from l.block)) l.self

abbrev pub decreases-loop-from : goal.decreases-loop-from
decreases-loop-from l = length l.block - l.from
