-- One block more has no byte 10.
use Rattle.std.proofs.Common.{◌+◌, ◌∙◌, arith, rules}
use Rattle.batch.proofs.Rests.{upto_past_block}
use Rattle.batch.proofs.past_blocks.Goals as goal

pub loop-i-preserved : goal.loop-i-preserved
loop-i-preserved c =
    let i = c.loop-i.i in (
      c.loop-i.invariant.0 ∙ upto_past_block c.args.s.now i (i + 32) (omega arith) (omega (arith, c.loop-i-test.true))
          (c.has_line_end.ensures (search rules)),
      omega (arith, c.loop-i-test.true),
    )
