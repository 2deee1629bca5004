-- Question 15 puts the campaign below the count, thus in the arrays; its four counts are the answer.
use mathlib.Core.Path.{◌≡◌, ap, sym, ◌∙◌}
use native.Mathlib.Omega.{arith}
use Rattle.day.specs.declared.Day.{Day}
use Rattle.day.specs.Day.{state_of}
use borrow.Author.Tests.{lt-ltb, le-ltb}
use Rattle.campaigns.specs.declared.Campaign.{Campaign}
use Rattle.day.specs.declared.Outcome.{Outcome}
use Rattle.questions.specs.Questions.{first_failed}
use Rattle.day.specs.Calls.{questions, tally_of}
use Rattle.day.specs.Calls.Call.{ask_tally}
use Rattle.day.proofs.State.{sound_facts}
use Rattle.day.proofs.Questions.{call_yes}
use Rattle.day.proofs.Steps.{steps_refused}
use Rattle.day.proofs.ops.tally_sound.Goals as goal
use Rattle.day.proofs.ops.tally_sound.Goals.{Start, Then-head-campaign}

abbrev state : Start → Day
state s = state_of s.args.head s.args.terms.now s.args.counts.now

asked_15 : (c : Then-head-campaign) → let s = c.before.before in
    15 ≡ first_failed (questions (state s) (ask_tally s.args.campaign))
unfolding first_failed
asked_15 c = let s = c.before.before in
    rw (s.requires.is_sound, le-ltb s.args.campaign s.args.head.count c.if-head-campaign.true)

abbrev tallied : Day → Campaign → Outcome
tallied s x = record { day = s; answer = tally_of x }

pub returns-then-head-campaign : goal.returns-then-head-campaign
returns-then-head-campaign c = let s = c.before.before.before in
    steps_refused s.args.head s.args.terms.now s.args.counts.now (ask_tally s.args.campaign)
    c.refused.result 15 c.refused.ensures (asked_15 c.before) (λ e. omega arith)

pub entry-c-requires : goal.entry-c-requires
entry-c-requires c = let h = sound_facts (state c.before.before) c.requires.is_sound in
    omega (arith, h.few, c.if-head-campaign.false)

pub returns : goal.returns
returns c = let s = c.before.before.before in ap (tallied (state s)) c.entry-c.ensures.0
    ∙ sym (call_yes (state s) (ask_tally s.args.campaign)
    (s.requires.is_sound, (lt-ltb s.args.campaign s.args.head.count c.if-head-campaign.false, tt)))
