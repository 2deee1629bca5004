-- The closing bracket and the byte 10, and before them the word with its slot.
use Rattle.buffer.proofs.Puts.{put_before}
use Rattle.writer.proofs.put_one.Goals as goal

pub returns : goal.returns
returns c = put_before c.put-to.ensures c.put_field.ensures
