-- The loop keeps: the bytes kept before, and the first i of s behind them.
use Rattle.std.proofs.Common.{◌≡◌, ◌+◌, ◌++◌, length, take}
use Rattle.lines.specs.Limits.{line_buffer}
use Rattle.batch.proofs.keep.Given as goal

abbrev pub invariant-loop-i : goal.invariant-loop-i
invariant-loop-i l =
    (take (l.kept + l.i) l.pending ≡ take l.kept l.initial.pending ++ take l.i l.s) × (length l.pending ≡ line_buffer)
