-- One byte more is looked at.
use Rattle.std.proofs.Common.{ap, arith}
use lib.Seq.{take_all}
use Rattle.reply.specs.Session.{upto}
use Rattle.batch.proofs.Rests.{upto_more, upto_nothing}
use Rattle.batch.proofs.has_line_end.Goals as goal

pub loop-b-init : goal.loop-b-init
loop-b-init c e = upto_nothing

pub loop-b-preserved : goal.loop-b-preserved
loop-b-preserved c e =
    upto_more c.args.block.now c.loop-b.b-index c.loop-b.any (omega arith) c.loop-b.invariant e

pub returns : goal.returns
returns c e =
    let l = c.loop-b in
    omega (
      arith,
      l.invariant e,
      ap upto (take_all l.b-index c.args.block.now c.loop-b-test.false),
      c.loop-b-test.false,
      l.auto.b-index-end,
    )
