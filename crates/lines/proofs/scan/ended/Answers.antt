-- The line ends with the word exactly if nothing is left behind it.
use Rattle.std.proofs.Common.{sym}
use Rattle.lines.specs.Reading.{ended_or}
use Rattle.lines.proofs.Words.{stripped_none, nothing_left}
use Rattle.lines.proofs.scan.ended.Goals as goal

pub returns-in_err-s : goal.returns-in_err-s
unfolding ended_or
returns-in_err-s c = rw (c.in_err-s.was, stripped_none, c.from_residual.ensures)

pub returns-in_err-rest : goal.returns-in_err-rest
unfolding ended_or
returns-in_err-rest c = rw (c.in_ok-s.was, sym c.in_err-rest.ensures, c.from_residual-in_err-rest.ensures)

pub returns-then-is_empty : goal.returns-then-is_empty
unfolding ended_or
returns-then-is_empty c = rw (c.in_ok-s.was, sym c.in_ok-rest.ensures, nothing_left, sym c.if-is_empty.ensures)

pub returns-else-is_empty : goal.returns-else-is_empty
unfolding ended_or
returns-else-is_empty c = rw (c.in_ok-s.was, sym c.in_ok-rest.ensures, nothing_left, sym c.if-is_empty.ensures)
