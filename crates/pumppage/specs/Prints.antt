-- A whole run of the program: its input, and what was told.
use Rattle.std.specs.Prelude.{◌≡◌, true, false, Some, List, ℕ, ◌<◌}
use Rattle.day.specs.declared.Day.{Day}
use Rattle.day.specs.Day.{blank}
use Rattle.stream.specs.Input.{after_lines, Split, all_lines}
use Rattle.page.specs.Printing.{page_of}
use Rattle.wire.specs.Wires.{counted_on, max_reads, input_of, NoneEmpty}
use Rattle.teller.specs.declared.Teller.{Teller}
use Rattle.pumppage.specs.declared.told.Page.{Page}

-- the state at the end of an input, from the blank state on
abbrev pub end_state : {l : List ℕ} → Split l → Day
end_state i = after_lines blank (all_lines i)

-- A whole run. There are blocks, none empty, of as many bytes as the reads gave; which bytes these are no contract can
-- say; that each block is handed on as it was read, and that `run` drops no teller, is read in the source. As one
-- input they are lines and a rest.
-- Unless a read failed or `max_reads` reads were made, the last read gave nothing. Where it gave nothing and did not
-- fail, the state whose page was told is that at the input's end, and as many bytes were told as its page has; else
-- nothing was told. `tell` requires of its caller that the bytes are that page; that it writes these bytes is one line,
-- read in the source.
pub record Prints (r : Teller Page) : Type 0 where
  pub blocks : List (List ℕ)
  pub none_empty : NoneEmpty blocks
  pub input : Split (input_of blocks)
  pub got_is : r.wire.got ≡ counted_on 0 (input_of blocks)
  pub ended_is : r.wire.failed ≡ false → r.wire.reads < max_reads → r.wire.ended ≡ true
  pub day_is : r.wire.failed ≡ false → r.wire.ended ≡ true → r.told ≡ Some (record { day = end_state input })
  pub told_is : r.wire.failed ≡ false → r.wire.ended ≡ true
      → r.wire.told ≡ counted_on 0 (page_of (end_state input))
  pub none_told : r.wire.failed ≡ true → r.wire.told ≡ 0
  pub none_told_yet : r.wire.ended ≡ false → r.wire.told ≡ 0
