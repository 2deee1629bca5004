-- What stands in the slot is what stands behind the word.
use Rattle.std.proofs.Common.{ap, sym, ◌∙◌}
use Rattle.lines.specs.Reading.{slot_at}
use Rattle.lines.proofs.Letters.{slot_number}
use Rattle.lines.proofs.Words.{stripped_none}
use Rattle.lines.proofs.scan.field.Goals as goal

pub returns-in_err-s : goal.returns-in_err-s
unfolding slot_at
returns-in_err-s g c = rw (c.in_err-s.was, stripped_none, c.from_residual.ensures)

pub returns-in_err-s-2 : goal.returns-in_err-s-2
unfolding slot_at
returns-in_err-s-2 g c = rw (c.in_ok-s.was, c.from_residual-in_err-s-2.ensures, sym c.in_err-s-2.ensures)

pub returns : goal.returns
returns g c =
    let r = c.letter-letter.result in
    c.number.ensures ∙ slot_number r c.in_ok-s-2.s.now c.if-letter-eq83.false ∙ ap (slot_at r) c.in_ok-s-2.ensures
    ∙ rw (c.in_ok-s.was, c.letter-letter.ensures)
