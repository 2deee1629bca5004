-- Questions 11 and 15; where both are answered yes, the marks alone change.
use mathlib.Core.Path.{ap, sym, ◌∙◌}
use Prim.Native.Nat.{ℕ}
use native.Mathlib.Omega.{arith}
use borrow.Author.Tests.{ltb-true}
use Rattle.day.specs.declared.Answer.TheVariants.{Done}
use Rattle.day.specs.declared.Day.{Day}
use Rattle.day.specs.declared.Outcome.{Outcome}
use Rattle.day.specs.Day.{state_of}
use Rattle.day.specs.Calls.{head_marked}
use Rattle.day.specs.Calls.Call.{mark_campaign}
use Rattle.day.proofs.State.{sound_facts}
use Rattle.day.proofs.Questions.{call_yes}
use Rattle.day.proofs.Steps.{verdict_refused, verdict_yes}
use Rattle.day.proofs.ops.mark_sound.Goals as goal

pub returns-in-Err : goal.returns-in-Err
returns-in-Err c =
    let a = c.args in
    verdict_refused a.head a.terms.now a.counts.now (mark_campaign a.paused a.campaign) c.requires.is_sound
    c.mark_question.ensures c.in-Err.is c.refused.ensures

pub marked-requires : goal.marked-requires
marked-requires c =
    let a = c.args in
    let y = verdict_yes a.head a.terms.now a.counts.now (mark_campaign a.paused a.campaign) c.requires.is_sound
    c.mark_question.ensures c.in_default.is in
    let h = sound_facts (state_of a.head a.terms.now a.counts.now) c.requires.is_sound in
    omega (arith, h.few, ltb-true a.campaign a.head.count y.1.1.0)

-- the outcome with the marks m
abbrev marks : Day → ℕ → Outcome
marks s m = record { day = state_of (head_marked s m) s.terms s.counts; answer = Done }

pub returns : goal.returns
returns c =
    let a = c.args in
    let s = state_of a.head a.terms.now a.counts.now in
    ap (marks s) c.marked.ensures
    ∙ sym (call_yes s (mark_campaign a.paused a.campaign)
    (verdict_yes a.head a.terms.now a.counts.now (mark_campaign a.paused a.campaign) c.requires.is_sound
    c.mark_question.ensures c.in_default.is))
