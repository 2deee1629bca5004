-- No tally stands before the first turn, and each turn puts one more behind them.
use mathlib.Core.Path.{◌≡◌, sym, ap, ◌∙◌, subst}
use mathlib.Core.List.{List, [], ◌∷◌, ◌++◌}
use Prim.Native.Nat.{ℕ, ◌+◌}
use native.Mathlib.Omega.{arith}
use native.Mathlib.Numerals.{add-one}
use Rattle.lines.specs.declared.Record.{Record}
use Rattle.lines.specs.Form.{is_output}
use Rattle.writer.specs.Writing.{line}
use Rattle.buffer.specs.Buffer.{Put}
use Rattle.campaigns.specs.declared.Campaign.{Campaign}
use Rattle.campaigns.specs.Campaign.{campaign_at}
use Rattle.reply.specs.Reply.{tally_record, tally_records, record_lines}
use Rattle.buffer.proofs.Puts.{put_none, put_then}
use Rattle.reply.proofs.Writes.{line_most, one_line, lines_append}
use Rattle.reply.proofs.answer.write_tallies.Goals as goal

tallies_next : (f : ℕ → Campaign) (i : ℕ) (r : Record) → r ≡ tally_record i (f i)
    → record_lines (tally_records f i) ++ line r ≡ record_lines (tally_records f (i + 1))
unfolding tally_records
tallies_next f i r e =
    ap (λ (x : Record). record_lines (tally_records f i) ++ line x) e
    ∙ ap (λ (w : List ℕ). record_lines (tally_records f i) ++ w) (sym (one_line (tally_record i (f i))))
    ∙ sym (lines_append (tally_records f i) (tally_record i (f i) ∷ []))
    ∙ ap (λ (n : ℕ). record_lines (tally_records f n)) (sym (add-one i))

none : (f : ℕ → Campaign) (o : List ℕ) (at : ℕ) → Put o o at at (record_lines (tally_records f 0))
unfolding tally_records record_lines
none f o at = put_none o at

pub loop-i-init : goal.loop-i-init
loop-i-init c =
    let a = c.args in
    (omega arith, none (campaign_at a.terms.now a.counts.now) a.out.now a.at)

pub loop-i-preserved : goal.loop-i-preserved
loop-i-preserved c =
    let a = c.args in
    let l = c.loop-i in
    let p = c.write_record-to in
    let r = c.tally_record-tally in (
      omega (arith, p.ensures.next, line_most r.result (ap is_output r.ensures.0)),
      subst (Put a.out.now p.new.out a.at p.result)
          (tallies_next (campaign_at a.terms.now a.counts.now) l.i r.result r.ensures.0)
          (put_then l.invariant.1 p.ensures),
    )
