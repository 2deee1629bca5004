-- A run, block after block. The loop's invariant: the teller stands where the blocks that reads gave have led
-- (`Reached`). A turn leaves it for a write that failed, for a read that gave nothing, or with one block more.
use Rattle.std.proofs.Common.{◌≡◌, ◌-◌, length}
use Rattle.wire.specs.Wires.{max_reads}
use Rattle.pumpday.proofs.Pumps.{Reached}
use Rattle.pumpday.proofs.run.Given as goal

abbrev pub invariant-loop : goal.invariant-loop
invariant-loop l =
    (length l.block ≡ length l.initial.block) × (length l.out ≡ length l.initial.out)
    × Reached l.teller (max_reads - l.counter)
