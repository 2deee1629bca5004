-- Questions 11 to 14; where all are answered yes, the named campaigns of the sound state are what `play` asks for, and
-- its candidate and counts are the outcome of the view.
use Rattle.std.specs.Prelude.{Option}
use mathlib.Core.Path.{◌≡◌, ap, sym, subst, ◌∙◌}
use mathlib.Core.List.{List}
use Prim.Native.Nat.{ℕ, ◌+◌}
use native.Mathlib.Omega.{arith}
use borrow.Author.Tests.{ltb-true}
use Rattle.campaigns.specs.declared.Phase.{Phase}
use Rattle.campaigns.specs.Limits.{max_views}
use Rattle.campaigns.proofs.Meanings.{running_means}
use Rattle.choice.specs.declared.Candidate.{Candidate}
use Rattle.choice.specs.Candidates.{candidate_of, after_view}
use Rattle.choice.specs.Cited.{Counts, InBounds}
use Rattle.day.specs.declared.Answer.{Answer}
use Rattle.day.specs.declared.Day.{Day}
use Rattle.day.specs.declared.Outcome.{Outcome}
use Rattle.day.specs.Day.{campaign, state_of}
use Rattle.day.specs.Calls.Call.{show_view}
use Rattle.day.proofs.State.{sound_facts}
use Rattle.day.proofs.Shown.{named_ready, accepted_shows}
use Rattle.day.proofs.Steps.{verdict_refused, verdict_yes}
use Rattle.day.proofs.view.show_sound.Goals as goal

pub returns-in-Err : goal.returns-in-Err
returns-in-Err c =
    let a = c.args in
    verdict_refused a.head a.terms.now a.counts.now (show_view a.view) c.requires.kept.is_sound
    c.view_question.ensures c.in-Err.is c.refused.ensures

pub play-chosen-requires : goal.play-chosen-requires
play-chosen-requires c =
    let a = c.args in
    let s = state_of a.head a.terms.now a.counts.now in
    let y = verdict_yes a.head a.terms.now a.counts.now (show_view a.view) c.requires.kept.is_sound
    c.view_question.ensures c.in_default.is in record {
      weights = c.requires.weights;
      sized = c.requires.kept.room;
      in_bounds = subst (λ (x : ℕ). InBounds a.head.plan (record { set = x }) (campaign s)) (sym c.without.ensures)
          (named_ready s a.view (sound_facts s y.0) y.1.1.1.0);
    }

pub overflow_add-result : goal.overflow_add-result
overflow_add-result c =
    let a = c.args in
    let y = verdict_yes a.head a.terms.now a.counts.now (show_view a.view) c.requires.kept.is_sound
    c.view_question.ensures c.in_default.is in
    omega (arith, ltb-true a.head.accepted max_views y.1.1.0)

-- what the walk gave, of the view that was found
abbrev Walked : Day → Option Candidate → List ℕ → ℕ → Type 0
Walked s b m x =
    record {
      value : b ≡ candidate_of s.plan (record { set = x }) (campaign s) 64;
      counts : Counts (after_view s.plan (record { set = x }) b (campaign s)) s.terms m;
    }

-- the outcome in the phase p
abbrev viewed : Day → List ℕ → Answer → Phase → Outcome
viewed s m r p = record {
  day = record {
    phase = p;
    plan = s.plan;
    count = s.count;
    accepted = s.accepted + 1;
    paused = s.paused;
    terms = s.terms;
    counts = m;
  };
  answer = r;
}

pub returns : goal.returns
returns c =
    let a = c.args in
    let s = state_of a.head a.terms.now a.counts.now in
    let y = verdict_yes a.head a.terms.now a.counts.now (show_view a.view) c.requires.kept.is_sound
    c.view_question.ensures c.in_default.is in
    let b = c.play-chosen.result in
    let walked = subst (Walked s b c.play-chosen.new.counts) c.without.ensures c.play-chosen.ensures in
    ap (viewed s c.play-chosen.new.counts c.view_answer.result) ((running_means a.head.phase).0 y.1.0)
    ∙ accepted_shows a.head a.terms.now a.counts.now a.view b y walked.value _ c.view_answer.result walked.counts
    c.view_answer.ensures
