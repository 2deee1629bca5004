-- A turn leaves the loop for a read that gave nothing, or with one block more.
use Rattle.std.proofs.Common.{◌∙◌, ◌==◌, ℕ, ap, refl, arith}
use Rattle.std.proofs.lemmas.Bool.{ne_eqb}
use Rattle.wire.specs.Wires.{input_of}
use Rattle.teller.proofs.Hearing.{hearing_begins, hearing_more, heard_last, heard_spent}
use Rattle.teller.proofs.Teller.hear.Goals as goal

pub loop-init : goal.loop-init
loop-init g c =
    (refl, hearing_begins g.L.Listener.took (g.met.L.Listener.took_none c.args.listener.now) c.new-teller.ensures)

pub returns-then-hear_block-eq0 : goal.returns-then-hear_block-eq0
returns-then-hear_block-eq0 g c =
    let a = c.loop.invariant.1 in
    let r = c.hear_block.ensures in
    heard_last g.L.Listener.took a r.waits (r.waits.reads.ended_is ∙ ap (λ (i : ℕ). i == 0) c.if-hear_block-eq0.true)
    (g.met.L.Listener.took_more c.args.listener.now c.loop.listener c.hear_block.new.listener (input_of a.blocks) _
    a.took_is r.took_is)

pub loop-preserved : goal.loop-preserved
loop-preserved g c =
    let a = c.loop.invariant.1 in
    let r = c.hear_block.ensures in (
      c.hear_block.auto.block ∙ c.loop.invariant.0,
      hearing_more g.L.Listener.took a r.waits
          (r.waits.reads.ended_is ∙ ne_eqb c.hear_block.result 0 c.if-hear_block-eq0.false)
          (g.met.L.Listener.took_more c.args.listener.now c.loop.listener c.hear_block.new.listener (input_of a.blocks)
          _ a.took_is r.took_is) (omega arith),
    )

pub returns : goal.returns
returns g c = heard_spent g.L.Listener.took c.loop.invariant.1 (omega arith)
