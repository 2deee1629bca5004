-- So far the line has the word's bytes: what is left of both says what is left behind the word.
use Rattle.std.proofs.Common.{◌≡◌, drop}
use Rattle.lines.specs.Reading.{some}
use Rattle.lines.specs.Cited.{stripped}
use Rattle.lines.proofs.scan.behind.Given as goal

abbrev pub invariant-loop-i : goal.invariant-loop-i
invariant-loop-i l = stripped l.word (some l.s) ≡ stripped (drop l.i l.word) (some (drop l.i l.s))
