-- The loop keeps: if no byte 10 was seen, none stands among the bytes that were looked at.
use Rattle.std.proofs.Common.{◌≡◌, false, take}
use Rattle.reply.specs.Session.{upto}
use Rattle.batch.proofs.has_line_end.Given as goal

abbrev pub invariant-loop-b : goal.invariant-loop-b
invariant-loop-b l = l.any ≡ false → upto (take l.b-index l.block) ≡ l.b-index
