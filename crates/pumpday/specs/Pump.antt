-- A whole run of the program: its input, and what was told.
use Rattle.std.specs.Prelude.{◌≡◌, true, List, ℕ, ◌<◌, length, take}
use Rattle.day.specs.Day.{blank}
use Rattle.stream.specs.Input.{after_lines, replies, Split, all_lines}
use Rattle.programs.specs.Lines.{OfLines}
use Rattle.wire.specs.Wires.{counted_on, max_reads, input_of, NoneEmpty}
use Rattle.pumpday.specs.declared.teller.Teller.{Teller}

-- A whole run. There are blocks, none empty, of as many bytes as the reads gave; which bytes these are no contract can
-- say; that each block is handed on as it was read, and that `run` drops no teller, is read in the source. As one
-- input they are lines and a rest.
-- Whatever failed, the program's stream holds the state after the first `answered` lines, and as many bytes were told
-- as answer these from the blank state on. `Teller::tell` requires of its caller that the bytes are due from that
-- stream; that it writes these bytes is one line, read in the source. Unless a write failed or `max_reads` reads were
-- made, the last read gave nothing; where it gave nothing and no write failed, all lines are answered. Of the lines
-- demand 3 and Algorithm 4 hold. `sent` and `failed` are free, being what C answered, but that a
-- read that failed was the last, as one that gave nothing.
pub record Runs (r : Teller) : Type 0 where
  pub blocks : List (List ℕ)
  pub none_empty : NoneEmpty blocks
  pub input : Split (input_of blocks)
  pub got_is : r.wire.got ≡ counted_on 0 (input_of blocks)
  pub failed_ends : r.wire.failed ≡ true → r.wire.ended ≡ true
  pub ended_is : r.wire.sent ≡ true → r.wire.reads < max_reads → r.wire.ended ≡ true
  pub answered : ℕ
  pub state_is : r.stream.day ≡ after_lines blank (take answered (all_lines input))
  pub told_is : r.wire.told ≡ counted_on 0 (replies blank (take answered (all_lines input)))
  pub all_answered : r.wire.sent ≡ true → r.wire.ended ≡ true → answered ≡ length (all_lines input)
  pub demands : OfLines (all_lines input)
