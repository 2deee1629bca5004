-- The block, line after line (`Going`), and the bytes of a line that does not end in it.
use mathlib.Core.Path.{◌≡◌}
use Prim.Native.Nat.{◌-◌}
use lib.ListN.{length}
use Rattle.recording.proofs.Blocks.{Going}
use Rattle.recording.proofs.take_block.Given as goal

abbrev pub invariant-loop-end : goal.invariant-loop-end
invariant-loop-end l =
    (length l.views ≡ length l.initial.views) × (length l.out ≡ length l.initial.out)
    × Going l.initial.s l.initial.views l.block l.s l.views l.from l.end

abbrev pub decreases-loop-end : goal.decreases-loop-end
decreases-loop-end l = length l.block - l.from
