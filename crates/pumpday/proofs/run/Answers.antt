-- A run, block after block. The loop's invariant: the teller stands where the blocks that reads gave have led
-- (`Reached`). A turn leaves it for a write that failed, for a read that gave nothing, or with one block more.
use Rattle.std.proofs.Common.{◌∙◌, refl, sym, subst, arith}
use Rattle.wire.specs.Wires.{max_reads}
use Rattle.pumpday.specs.declared.teller.Teller.{Teller}
use Rattle.pumpday.proofs.Pumps.{Reached, reached_none, reached_more, ran_unsent, ran_spent, ran_through}
use Rattle.pumpday.proofs.run.Goals as goal

pub loop-init : goal.loop-init
loop-init c =
    (refl, refl, subst (λ (w : Teller). Reached w max_reads) (sym c.new-teller.ensures) reached_none)

-- a write failed
pub returns-then-not-sent : goal.returns-then-not-sent
returns-then-not-sent c =
    ran_unsent c.loop.invariant.2 c.turn.ensures (sym c.sent.ensures ∙ c.if-not-sent.true)

-- the end of input
pub returns-then-ended : goal.returns-then-ended
returns-then-ended c =
    ran_through c.loop.invariant.2 c.turn.ensures (sym c.sent.ensures ∙ c.if-not-sent.false)
    (sym c.ended.ensures ∙ c.if-ended.true) c.finish.ensures

pub loop-preserved : goal.loop-preserved
loop-preserved c = (
  c.turn.auto.block ∙ c.loop.invariant.0,
  c.turn.auto.out ∙ c.loop.invariant.1,
  reached_more c.loop.invariant.2 c.turn.ensures (sym c.sent.ensures ∙ c.if-not-sent.false)
      (sym c.ended.ensures ∙ c.if-ended.false) (omega arith),
)

pub returns : goal.returns
returns c = ran_spent c.loop.invariant.2 (omega arith)
