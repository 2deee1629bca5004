-- One line more is answered.
use Rattle.std.proofs.Common.{◌∙◌, arith}
use Rattle.batch.specs.Cited.{position}
use Rattle.batch.proofs.Batches.{same_line, going_next}
use Rattle.batch.proofs.run_batch.Goals as goal

pub loop-end-preserved : goal.loop-end-preserved
loop-end-preserved c =
    let a = c.args in
    let l = c.loop-end in
    let k = c.complete-n in
    let r = c.answer_at-turn in (
      going_next a.input.now (position a.t a.terms.now a.counts.now) a.pending.now a.out.now l.turn l.list l.terms
          l.counts l.kept l.from l.pending l.out l.end l.invariant.0 (omega arith) (omega arith) _ k.result k.ensures
          r.result _ _ _ _ (same_line c.choose-line.ensures r.ensures.written) r.ensures.ready c.line_end-end.result
          c.line_end-end.ensures,
      r.ensures.written.put.same ∙ l.invariant.1,
    )
