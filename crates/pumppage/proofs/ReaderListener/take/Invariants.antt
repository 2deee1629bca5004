-- The block, part by part. The loop's invariant: the bytes before the place were taken.
use Rattle.std.proofs.Common.{◌≡◌, ◌≤◌, ◌-◌, length, take}
use Rattle.pumppage.specs.Cited.{Took}
use Rattle.pumppage.proofs.ReaderListener.take.Given as goal

abbrev pub invariant-loop-from : goal.invariant-loop-from
invariant-loop-from l =
    (l.from ≤ length l.block) × Took l.initial.self.stream (take l.from l.block) l.self.stream
    × (length l.self.out ≡ length l.initial.self.out)

abbrev pub decreases-loop-from : goal.decreases-loop-from
decreases-loop-from l = length l.block - l.from
