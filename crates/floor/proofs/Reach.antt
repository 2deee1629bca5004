-- What every list of calls keeps between its day and the state at its end: the state holds the day's plan, terms and
-- takings, and each campaign what was handed in about it. By induction on the list; a refused call changes neither.
use mathlib.Core.Path.{◌≡◌, refl, ap, ◌∙◌, subst}
use mathlib.Core.Bool.{Bool, true, false}
use mathlib.Core.List.{List, [], ◌∷◌, ◌++◌}
use Prim.Native.Nat.{ℕ, ◌+◌, ◌≤◌, ◌<◌}
use native.Mathlib.Nat.{lt_of_lt_of_le, not-suc-le-zero}
use native.Mathlib.Omega.{arith}
use lib.ListN.{get_or, length, length-append, get_or-append}
use lib.Seq.{get_or-append_seam}
use borrow.Author.Tests.{ltb-true}
use Rattle.finite.specs.Finite.{one_if, total}
use Rattle.finite.proofs.Tests.{never, one_more}
use Rattle.finite.proofs.Sums.{sum_zero}
use Rattle.finite.proofs.Tables.{total_snoc}
use Rattle.sets.specs.Set.{within, without}
use Rattle.sets.proofs.Bounds.{within_without}
use Rattle.campaigns.specs.declared.Phase.{Phase}
use Rattle.campaigns.specs.declared.Phase.TheVariants.{Filling, Running, Closed}
use Rattle.campaigns.specs.declared.Plan.{Plan}
use Rattle.campaigns.specs.declared.Terms.{Terms}
use Rattle.campaigns.specs.declared.View.{View}
use Rattle.campaigns.specs.Choice.{Choice, is, paid}
use Rattle.campaigns.specs.Choice.Choice.{nobody, plays}
use Rattle.campaigns.specs.Campaign.{whole, spending}
use Rattle.campaigns.specs.View.{names}
use Rattle.day.specs.declared.Answer.{Answer}
use Rattle.day.specs.declared.Answer.TheVariants.{Done}
use Rattle.day.specs.declared.Day.{Day}
use Rattle.day.specs.Day.{campaign, in_phase, no_terms, empty_plan, blank_plan, blank, total_takings}
use Rattle.campaigns.specs.Phase.{is_filling}
use Rattle.day.specs.Day.{sound}
use Rattle.day.specs.Calls.{Call, questions, with_campaign, player, offers, shown, view_answer, result}
use Rattle.day.specs.Calls.{found, marked, head_joined, head_shown}
use Rattle.day.specs.Calls.Call.{open_plan, add_campaign, start_day, show_view, ask_tally, close_day, mark_campaign}
use Rattle.day.proofs.Questions.{Yes}
use Rattle.day.proofs.State.{Sound, sound_facts, held_at, campaign_of_state}
use Rattle.demands.specs.Transcript.{transcript, final}
use Rattle.demands.proofs.Step.{takings_step}
use Rattle.demands.proofs.States.{sum_state_with, with_campaign_old, with_campaign_new, takings_with_campaign}
use Rattle.demands.proofs.Sound.{blank_sound, opened_sound, sound_result}
use Rattle.floor.specs.History.{Starts, History, day_takings, opening, paid_in, with_call}
use Rattle.floor.specs.History.{history}
use Rattle.floor.specs.Floor.{terms_of, whole_of, named_in, no_view, names_at}
use Rattle.floor.proofs.Days.{of_every_day}
use Rattle.floor.proofs.Follows.{Follows, follows_fresh, follows_view}

-- the state s holds the day h
pub record Tracks (s : Day) (h : History) : Type 0 where
  pub plan_is : s.plan ≡ h.plan
  pub many : length h.terms ≡ s.count
  pub follows : (i : ℕ) → i < s.count → Follows s.plan (terms_of h i) (named_in h i) (campaign s i)
  pub paid_is : total_takings s ≡ day_takings h
  pub unviewed : is_filling s.phase ≡ true → h.views ≡ []
  pub inside : (j : ℕ) → j < length h.views → within s.count (names_at h j) ≡ true
  pub paused_is : s.paused ≡ h.paused
  pub accepted_is : s.accepted ≡ length h.views

tracks_opening : (p : Phase) (pl : Plan) → Tracks (empty_plan p pl) (opening pl)
unfolding total_takings total
tracks_opening p pl =
    record {
      plan_is = refl;
      many = refl;
      follows = λ i l. absurd (not-suc-le-zero l);
      paid_is = sum_zero _;
      unviewed = λ _. refl;
      inside = λ j l. absurd (not-suc-le-zero l);
      paused_is = refl;
      accepted_is = refl;
    }

tracks_blank : Tracks blank (opening blank_plan)
unfolding blank
tracks_blank = tracks_opening (Closed 0) blank_plan

-- a list one longer
snoc_last : (xs : List Terms) (x : Terms) (n : ℕ) → length xs ≡ n → get_or (xs ++ (x ∷ [])) n no_terms ≡ x
snoc_last xs x n e = subst (λ (m : ℕ). get_or (xs ++ (x ∷ [])) m no_terms ≡ x) e (get_or-append_seam xs x [] no_terms)

-- the day with a view more, of what it found
abbrev pub with_view : History → View → Answer → History
with_view h v a = record {
  plan = h.plan;
  terms = h.terms;
  paused = h.paused;
  views = h.views ++ (v ∷ []);
  answers = h.answers ++ (a ∷ []);
}

-- what the marks of the state leave of a view is what those of the day leave
pub view_found : (s : Day) (h : History) → Tracks s h → (w : View) (a : Answer)
    → with_view h (found s w) a ≡ with_call h (show_view w) a
view_found s h k w a = ap (λ (m : ℕ). with_view h (record { set = without w.set m }) a) k.paused_is

view_answer_paid : (x : ℕ → ℕ) (ch : Choice) → paid_in (view_answer x ch) ≡ paid x ch
view_answer_paid x nobody = refl
view_answer_paid x (plays m) = refl

module _ (s : Day) (h : History) (e : sound s ≡ true) (k : Tracks s h) where
  p : Sound s
  p = sound_facts s e

  module _ (t : Terms) (y : Yes (questions s (add_campaign t))) where
    more : History
    more = with_call h (add_campaign t) Done

    tracks_add : Tracks (result s (add_campaign t)).day more
    unfolding more total_takings total
    tracks_add =
        let room : s.count < 64 = ltb-true s.count 64 y.1.1.0 in
        let few : s.count + 1 ≤ 64 = omega arith in
        record {
          plan_is = k.plan_is;
          many = length-append h.terms (t ∷ []) ∙ ap (λ (n : ℕ). n + 1) k.many;
          follows =
              λ i l.
              rw (campaign_of_state (head_joined s) (with_campaign s t) i (lt_of_lt_of_le l few))
              (one_more (λ j. Follows s.plan (terms_of more j) (named_in more j) (with_campaign s t j)) s.count
              old new i (omega arith));
          paid_is =
              sum_state_with (head_joined s) (with_campaign s t) spending few
              ∙ takings_with_campaign s t ∙ k.paid_is;
          unviewed = λ _. k.unviewed y.1.0;
          inside =
              λ j l.
              absurd (not-suc-le-zero (subst (λ (vs : List View). j < length vs) (k.unviewed y.1.0) l));
          paused_is = k.paused_is;
          accepted_is = k.accepted_is;
        }
      where
        old : (j : ℕ) → j < s.count → Follows s.plan (terms_of more j) (named_in more j) (with_campaign s t j)
        old j l =
            rw (
              get_or-append h.terms (t ∷ []) no_terms j (omega (arith, k.many)),
              with_campaign_old s t j (λ q. omega arith),
            ) (k.follows j l)

        new : Follows s.plan (terms_of more s.count) (named_in more s.count) (with_campaign s t s.count)
        new =
            rw (snoc_last h.terms t s.count k.many, with_campaign_new s t, k.unviewed y.1.0)
            (follows_fresh s.plan t)

  module _ (w : View) (y : Yes (questions s (show_view w))) where
    v : View
    v = found s w

    -- the day with a view more that found v
    tracks_found : (a : Answer) → paid_in a ≡ paid (offers s w) (player s w)
        → Tracks (result s (show_view w)).day (with_view h v a)
    unfolding total_takings total v
    tracks_found a q = record {
      plan_is = k.plan_is;
      many = k.many;
      follows =
          λ i l.
          rw (
            campaign_of_state (head_shown s) (shown s w) i (lt_of_lt_of_le l p.few),
            total_snoc (λ (u : View). one_if (names u i)) h.views v,
          )
          (follows_view s.plan (terms_of h i) (named_in h i) (campaign s i) (k.follows i l)
          (held_at s p i l).young v i (is (player s w) i));
      paid_is =
          omega (
            arith,
            sum_state_with (head_shown s) (shown s w) spending p.few,
            takings_step s.count s.plan v (campaign s),
            k.paid_is,
            total_snoc paid_in h.answers a,
          );
      unviewed = λ z. absurd (never false refl z);
      inside =
          λ j l.
          one_more (λ i. within s.count (get_or (h.views ++ (v ∷ [])) i no_view).set ≡ true) (length h.views)
          (λ i m. rw (get_or-append h.views (v ∷ []) no_view i m) (k.inside i m))
          (rw (get_or-append_seam h.views v [] no_view)
          (within_without s.count w.set s.paused y.1.1.1.0))
          j (omega (arith, length-append h.views (v ∷ [])));
      paused_is = k.paused_is;
      accepted_is = omega (arith, length-append h.views (v ∷ []), k.accepted_is);
    }

    tracks_view : (a : Answer) → paid_in a ≡ paid (offers s w) (player s w)
        → Tracks (result s (show_view w)).day (with_call h (show_view w) a)
    unfolding v
    tracks_view a q = subst (Tracks (result s (show_view w)).day) (view_found s h k w a) (tracks_found a q)

  -- a phase that is not Filling
  tracks_phase : (ph : Phase) → is_filling ph ≡ false → Tracks (in_phase s ph) h
  unfolding total_takings
  tracks_phase ph f = record {
    plan_is = k.plan_is;
    many = k.many;
    follows = k.follows;
    paid_is = k.paid_is;
    unviewed = λ z. absurd (never (is_filling ph) f z);
    inside = k.inside;
    paused_is = k.paused_is;
    accepted_is = k.accepted_is;
  }

  tracks_marked : (b : Bool) (i : ℕ) (a : Answer)
      → Tracks (result s (mark_campaign b i)).day (with_call h (mark_campaign b i) a)
  unfolding total_takings
  tracks_marked b i a = record {
    plan_is = k.plan_is;
    many = k.many;
    follows = k.follows;
    paid_is = k.paid_is;
    unviewed = k.unviewed;
    inside = k.inside;
    paused_is = ap (marked b i) k.paused_is;
    accepted_is = k.accepted_is;
  }

  tracks_result : (c : Call) → Yes (questions s c) → Tracks (result s c).day (with_call h c (result s c).answer)
  unfolding more
  tracks_result (open_plan pl) y = tracks_opening Filling pl
  tracks_result (add_campaign t) y = tracks_add t y
  tracks_result start_day y = tracks_phase Running refl
  tracks_result (show_view w) y =
      tracks_view w y (view_answer (offers s w) (player s w)) (view_answer_paid (offers s w) (player s w))
  tracks_result (ask_tally i) y = k
  tracks_result (mark_campaign b i) y = tracks_marked b i Done
  tracks_result close_day y = tracks_phase (Closed (total_takings s)) refl

pub record Reached (s : Day) (h : History) : Type 0 where
  pub is_sound : sound s ≡ true
  pub tracks : Tracks s h

blank_reached : Reached blank (opening blank_plan)
blank_reached = record { is_sound = blank_sound; tracks = tracks_blank }

opening_reached : (s : Day) (pl : Plan) → Yes (questions s (open_plan pl))
    → Reached (empty_plan Filling pl) (opening pl)
opening_reached s pl y = record { is_sound = opened_sound s pl y; tracks = tracks_opening Filling pl }

pub result_reached : (s : Day) (h : History) → Reached s h → (c : Call) → Yes (questions s c)
    → Reached (result s c).day (with_call h c (result s c).answer)
result_reached s h r c y = record {
  is_sound = sound_result s c r.is_sound y;
  tracks = tracks_result s h r.is_sound r.tracks c y;
}

-- what holds at the end of every list
pub reached : (s : Day) (cs : List Call) → Starts s cs → Reached (final s cs) (history (transcript s cs))
reached = of_every_day Reached blank_reached opening_reached result_reached

-- and what else does: the same induction, with this at hand
pub of_every_reached : (P : Day → History → Type 0) → P blank (opening blank_plan)
    → ((s : Day) (pl : Plan) → Yes (questions s (open_plan pl)) → P (empty_plan Filling pl) (opening pl))
    → ((s : Day) (h : History) → Reached s h → P s h → (c : Call) → Yes (questions s c)
    → P (result s c).day (with_call h c (result s c).answer))
    → (s : Day) (cs : List Call) → Starts s cs → P (final s cs) (history (transcript s cs))
of_every_reached P at_blank opened kept s cs st =
    (of_every_day (λ s h. Reached s h × P s h) (blank_reached, at_blank)
    (λ s pl y. (opening_reached s pl y, opened s pl y))
    (λ s h r c y. (result_reached s h r.0 c y, kept s h r.0 r.1 c y)) s cs st).1

module _ (s : Day) (h : History) (r : Reached s h) where
  -- the plays that a campaign's budget buys are the day's
  pub whole_is : (i : ℕ) → i < s.count → whole (campaign s i) ≡ whole_of h i
  unfolding whole
  whole_is i l = cc ((r.tracks.follows i l).price_is, (r.tracks.follows i l).budget_is)
