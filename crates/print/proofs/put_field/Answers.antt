-- A word before the slot: two puts, the second joined to the first by `put_before`.
use Rattle.buffer.proofs.Puts.{put_before}
use Rattle.print.proofs.put_field.Goals as goal

pub returns : goal.returns
returns g c = put_before c.put_slot-to.ensures c.put.ensures
