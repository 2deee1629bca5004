-- A whole run of the program: its input, and what was told.
use Rattle.std.specs.Prelude.{◌≡◌, true, false, cond, Some, List, ℕ, ◌<◌, leb, length, Result, Ok, Err}
use Rattle.day.specs.declared.Day.{Day}
use Rattle.day.specs.Day.{blank, total_takings}
use Rattle.allotments.specs.Limits.{max_handed_in}
use Rattle.optimum.specs.Optimum.{most_of}
use Rattle.stream.specs.Input.{after_lines, Split, all_lines}
use Rattle.programs.specs.Lines.{day_of}
use Rattle.floor.specs.History.{own_views}
use Rattle.refusal.specs.declared.Refusal.{Refusal}
use Rattle.refusal.specs.Refusal.{refusal}
use Rattle.earnings.specs.declared.Figures.{Figures}
use Rattle.earnings.specs.Earnings.{earned, earnings_text}
use Rattle.wire.specs.Wires.{counted_on, max_reads, input_of, NoneEmpty}
use Rattle.teller.specs.declared.Teller.{Teller}
use Rattle.pumpgreatest.specs.declared.told.Line.{Line}

-- a state and the views of its day: what it took and the most that these views could have earned; or, for more views
-- than are handed in, 19, the number of request 4's question that fails then (`questions` of `optimum/specs/Optimum`)
abbrev pub answer : Day → (views : List ℕ) → Result Figures Refusal
answer s views =
    cond (leb (length views) max_handed_in) (Ok (record { takings = total_takings s; greatest = most_of s views }))
    (Err (refusal 19))

-- the earnings of the day that these lines record, from the blank state on
abbrev pub day_earnings : List (List ℕ) → Result Figures Refusal
day_earnings ls = answer (after_lines blank ls) (own_views (day_of ls))

-- the search itself answers so: on a day that lines record no other question of `earned` fails
abbrev pub DayEarned : Type 0
DayEarned = (ls : List (List ℕ)) → earned (after_lines blank ls) (own_views (day_of ls)) ≡ day_earnings ls

-- A whole run. There are blocks, none empty, of as many bytes as the reads gave; which bytes these are no contract can
-- say; that each block is handed on as it was read, and that `run` drops no teller, is read in the source. As one
-- input they are lines and a rest.
-- Unless a read failed or `max_reads` reads were made, the last read gave nothing. Where it gave nothing and did not
-- fail, the earnings that were told are those of the day that the lines record, and as many bytes were told as their
-- line has; else nothing was told. `tell` requires of its caller that the bytes are that line; that it writes these
-- bytes is one line, read in the source.
pub record Prints (r : Teller Line) : Type 0 where
  pub blocks : List (List ℕ)
  pub none_empty : NoneEmpty blocks
  pub input : Split (input_of blocks)
  pub got_is : r.wire.got ≡ counted_on 0 (input_of blocks)
  pub ended_is : r.wire.failed ≡ false → r.wire.reads < max_reads → r.wire.ended ≡ true
  pub earnings_is : r.wire.failed ≡ false → r.wire.ended ≡ true
      → r.told ≡ Some (record { earnings = day_earnings (all_lines input) })
  pub told_is : r.wire.failed ≡ false → r.wire.ended ≡ true
      → r.wire.told ≡ counted_on 0 (earnings_text (day_earnings (all_lines input)))
  pub none_told : r.wire.failed ≡ true → r.wire.told ≡ 0
  pub none_told_yet : r.wire.ended ≡ false → r.wire.told ≡ 0
