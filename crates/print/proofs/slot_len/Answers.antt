-- The length of the names or of the numeral; neither is longer than the names of a full set.
use mathlib.Core.Path.{ap, sym, ◌∙◌}
use native.Mathlib.Omega.{arith}
use lib.ListN.{length}
use Rattle.lines.proofs.Numerals.{numeral_most}
use Rattle.print.proofs.Lengths.{text_names, text_number}
use Rattle.print.proofs.slot_len.Goals as goal

pub returns-then-slot-eq83 : goal.returns-then-slot-eq83
returns-then-slot-eq83 c = let a = c.args in (
  c.names_len.ensures.0 ∙ ap length (sym (text_names a.slot a.n c.if-slot-eq83.true)),
  c.names_len.ensures.1,
)

pub returns : goal.returns
returns c = let a = c.args in (
  c.places.ensures ∙ ap length (sym (text_number a.slot a.n c.if-slot-eq83.false)),
  omega (arith, c.places.ensures, numeral_most a.n),
)
