-- Each letter has its greatest number, and the rest all of 64 bits: a match read as the definition's tests.
use Rattle.lines.proofs.slots.slot_max.Goals as goal

pub returns-in-73 : goal.returns-in-73
returns-in-73 c = simp c.in-73.is

pub returns-in-78 : goal.returns-in-78
returns-in-78 c = simp c.in-78.is

pub returns-in-67 : goal.returns-in-67
returns-in-67 c = simp c.in-67.is

pub returns-in-82 : goal.returns-in-82
returns-in-82 c = simp c.in-82.is

pub returns-in-77 : goal.returns-in-77
returns-in-77 c = simp c.in-77.is
