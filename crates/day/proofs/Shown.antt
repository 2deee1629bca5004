-- A view's outcome by the candidate that the walk found and the counts that it left: with every name in the plan, the
-- choice among all places is that among the campaigns of the plan.
use Rattle.std.specs.Prelude.{Option}
use mathlib.Core.Path.{◌≡◌, refl, ap, ap₂, sym, ◌∙◌}
use mathlib.Core.Bool.{true}
use mathlib.Core.List.{List}
use Prim.Native.Nat.{ℕ, ◌≤◌, ◌<◌}
use native.Mathlib.Omega.{arith}
use Rattle.sets.specs.Set.{within}
use Rattle.sets.proofs.Bounds.{within_member, within_without}
use Rattle.campaigns.specs.declared.Head.{Head}
use Rattle.campaigns.specs.declared.View.{View}
use Rattle.choice.specs.declared.Candidate.{Candidate}
use Rattle.campaigns.specs.Campaign.{campaign_at}
use Rattle.campaigns.specs.Choice.{Choice, is, role_of}
use Rattle.campaigns.specs.Choice.Choice.{nobody, plays}
use Rattle.campaigns.specs.View.{names, unmarked, pays, figure, becomes}
use Rattle.choice.specs.Candidates.{as_candidate, candidate_of, after_view}
use Rattle.choice.specs.Cited.{Counts, InBounds}
use Rattle.audit.proofs.Totals.{Held}
use Rattle.campaigns.proofs.Laws.{plan_sized}
use Rattle.choice.proofs.Candidates.{choice_within}
use Rattle.day.specs.declared.Answer.{Answer}
use Rattle.day.specs.declared.Day.{Day}
use Rattle.day.specs.Day.{campaign, state_of, state_with}
use Rattle.day.specs.Calls.{questions, found, player, offers, head_shown, shown, view_answer, call}
use Rattle.day.specs.Calls.Call.{show_view}
use Rattle.day.specs.Cited.{answer_of}
use Rattle.day.proofs.State.{Sound, sound_facts, held_at, state_with_is}
use Rattle.day.proofs.Questions.{Yes, call_yes}

-- a choice among the campaigns of a state as a candidate
abbrev chosen : Day → View → Choice → Option Candidate
chosen s w ch = as_candidate (λ i. figure s.plan (found s w) i (campaign s i)) (offers s w) ch

-- the names that a view finds are in the plan where all its names are
found_within : (s : Day) (w : View) → within s.count w.set ≡ true → within s.count (found s w).set ≡ true
found_within s w e = within_without s.count w.set s.paused e

-- the candidate is the choice among the campaigns of the plan
chosen_is : (s : Day) (w : View) (b : Option Candidate) → s.count ≤ 64 → within s.count w.set ≡ true
    → b ≡ candidate_of s.plan (found s w) (campaign s) 64 → b ≡ chosen s w (player s w)
unfolding candidate_of
chosen_is s w b h e q =
    q ∙ ap (chosen s w) (choice_within s.plan (found s w) (campaign s) s.count h (found_within s w e))

-- what the walk made of the campaigns is what the view shows
made : (s : Day) (w : View) (ch : Choice) (i : ℕ) → let v = found s w in
    after_view s.plan v (chosen s w ch) (campaign s) i
    ≡ becomes s.plan v i (role_of (names v i) (pays s.plan v i (campaign s i)) (is ch i)) (campaign s i)
made s w nobody i = refl
made s w (plays m) i = refl

-- the answer
answered : (s : Day) (w : View) (ch : Choice) → answer_of (chosen s w ch) ≡ view_answer (offers s w) ch
answered s w nobody = refl
answered s w (plays m) = refl

-- the named campaigns of a sound state are ready for the choice
module _ (s : Day) (w : View) (h : Sound s) (e : within s.count w.set ≡ true) where
  held : (i : ℕ) → i < 64 → names (found s w) i ≡ true → Held s.plan s.accepted (campaign s i)
  held i l m = held_at s h i (within_member s.count (found s w).set i (found_within s w e) l m)

  pub named_ready : InBounds s.plan (found s w) (campaign s)
  named_ready = record {
    named_priced = λ i l m. (held i l m).is_priced;
    named_young = λ i l m. (held i l m).young;
    shallow = (plan_sized s.plan h.plan_sound).shallow;
    named_few = λ i l m. omega (arith, (held i l m).named_accepted, h.views);
    turns_few = λ i l m. omega (arith, (held i l m).turns_named, (held i l m).named_accepted, h.views);
    plays_few = λ i l m. let k = held i l m in
        omega (arith, k.plays_turns, k.turns_named, k.named_accepted, h.views);
  }

-- an accepted view, from what the choice and the marks gave
module _ (h : Head) (t n : List ℕ) (w : View) (b : Option Candidate) (y : Yes (questions (state_of h t n) (show_view w)))
    (q : b ≡ candidate_of h.plan (unmarked h.paused w) (campaign_at t n) 64) where
  abbrev s : Day
  s = state_of h t n

  plays_is : b ≡ chosen s w (player s w)
  plays_is = chosen_is s w b (sound_facts s y.0).few y.1.1.1.0 q

  becomes_shown : (i : ℕ) → after_view h.plan (found s w) b (campaign s) i ≡ shown s w i
  becomes_shown i =
      ap (λ (x : Option Candidate). after_view s.plan (found s w) x (campaign s) i) plays_is ∙ made s w (player s w) i

  pub accepted_shows : (m : List ℕ) (r : Answer) → Counts (after_view h.plan (found s w) b (campaign_at t n)) t m
      → r ≡ answer_of b → record { day = state_of (head_shown s) t m; answer = r } ≡ call s (show_view w)
  accepted_shows m r c e =
      let a : state_of (head_shown s) t m ≡ state_with (head_shown s) (shown s w) =
      state_with_is (state_of (head_shown s) t m) (shown s w) c.room (λ i k. c.at i k ∙ becomes_shown i) in
      ap₂ (λ (x : Day) (z : Answer). record { day = x; answer = z }) a
      (e ∙ ap answer_of plays_is ∙ answered s w (player s w))
      ∙ sym (call_yes s (show_view w) y)
