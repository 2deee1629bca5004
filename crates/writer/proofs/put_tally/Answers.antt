-- The puts joined are the whole line.
use Rattle.buffer.proofs.Puts.{put_before}
use Rattle.lines.specs.Form.{template, numbers, piece, numbers_after, filled}
use Rattle.lines.specs.declared.Record.TheVariants.{Tally}
use Rattle.writer.proofs.Lines.{puts_line}
use Rattle.writer.proofs.put_tally.Goals as goal

pub returns : goal.returns
unfolding template numbers filled piece numbers_after
returns c =
    let two = put_before (put_before c.put-to.ensures c.put_field-to.ensures) c.put_field-to-2.ensures in
    let four = put_before (put_before two c.put_field-to-3.ensures) c.put_field-to-4.ensures in
    puts_line (Tally _ _ _ _ _) (put_before four c.put_field.ensures)
