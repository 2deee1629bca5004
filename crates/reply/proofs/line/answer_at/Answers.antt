-- The answer's first line and, on closing, the tallies behind it are the reply to the line (`Serving`); what `respond`
-- left is ready.
use Rattle.std.proofs.Common.{◌≡◌, ℕ, List, sym, subst, ◌∙◌, arith}
use Rattle.campaigns.specs.declared.Head.{Head}
use Rattle.day.specs.declared.Day.{Day}
use Rattle.day.specs.Day.{state_of}
use Rattle.reply.specs.Cited.{Written}
use Rattle.reply.proofs.Serving.{answer_ranged, few_is, written_closing, written_other}
use Rattle.reply.proofs.line.answer_at.Goals as goal

-- what is written of the state with its head put together anew is written of the state handed in
of_head : (t n : List ℕ) {h g : Head} {l o o' : List ℕ} {at to : ℕ} {after : Day} → g ≡ h
    → Written (state_of g t n) l o o' at after to → Written (state_of h t n) l o o' at after to
of_head t n {h} {g} {l} {o} {o'} {at} {to} {after} e w =
    subst (λ (x : Head). Written (state_of x t n) l o o' at after to) e w

pub write_answer-to-requires : goal.write_answer-to-requires
write_answer-to-requires c =
    let a = c.args in
    let before = state_of c.rebuilt-before.result a.terms.now a.counts.now in
    (answer_ranged before a.line.now _ c.respond-step.ensures.counts_after, omega arith)

pub write_tallies-end-requires : goal.write_tallies-end-requires
write_tallies-end-requires c =
    let a = c.args in
    let before = state_of c.rebuilt-before.result a.terms.now a.counts.now in
    let p = c.write_answer-to.ensures in (
      few_is before a.line.now _ c.respond-step.ensures.counts_after (sym c.closes.ensures ∙ c.if-closes.true),
      omega (arith, p.1, p.0.same, c.requires.0),
    )

pub returns-then-closes-clause-written : goal.returns-then-closes-clause-written
returns-then-closes-clause-written c =
    let a = c.args in
    let before = state_of c.rebuilt-before.result a.terms.now a.counts.now in
    of_head a.terms.now a.counts.now c.rebuilt-before.ensures
    (written_closing before a.line.now _ c.respond-step.ensures.counts_after (sym c.closes.ensures ∙ c.if-closes.true)
    c.write_answer-to.ensures c.write_tallies-end.ensures)

pub returns-clause-written : goal.returns-clause-written
returns-clause-written c =
    let a = c.args in
    let before = state_of c.rebuilt-before.result a.terms.now a.counts.now in
    of_head a.terms.now a.counts.now c.rebuilt-before.ensures
    (written_other before a.line.now _ c.respond-step.ensures.counts_after (sym c.closes.ensures ∙ c.if-closes.false)
    c.write_answer-to.ensures)
