-- A word that ends at a place, put byte by byte: the bytes so far lie over the buffer.
use mathlib.Core.Path.{◌≡◌}
use lib.ListN.{take}
use Rattle.buffer.specs.Buffer.{over}
use Rattle.print.proofs.put.Given as goal

abbrev pub invariant-loop-i : goal.invariant-loop-i
invariant-loop-i l = l.out ≡ over l.initial.out l.at (take l.i l.word)
