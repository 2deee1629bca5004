-- The puts joined are the whole line.
use Rattle.buffer.proofs.Puts.{put_before}
use Rattle.lines.specs.Form.{template, numbers, piece, numbers_after, filled}
use Rattle.lines.specs.declared.Record.TheVariants.{Plan}
use Rattle.writer.proofs.Lines.{puts_line}
use Rattle.writer.proofs.put_plan.Goals as goal

pub returns : goal.returns
unfolding template numbers filled piece numbers_after
returns c =
    puts_line (Plan _ _) (put_before (put_before c.put-to.ensures c.put_field-to.ensures) c.put_field.ensures)
