-- Every call keeps a sound state sound. What makes a state sound is gathered in one record over its campaigns
-- (`Whole`), and each call keeps the record; the bound on the total claim is the potential step.
use mathlib.Core.Path.{◌≡◌, refl, ap, subst}
use mathlib.Core.Bool.{Bool, true, false, not, ◌||◌}
use mathlib.Core.List.{[], ◌∷◌}
use Prim.Native.Nat.{ℕ, suc, ◌+◌, ◌≤◌, ◌<◌}
use native.Mathlib.Nat.{le_trans, lt_of_lt_of_le, not-suc-le-zero}
use native.Mathlib.Omega.{arith}
use lib.Dec.{ltb, eqb}
use borrow.Author.Tests.{eq-eqb, ltb-true, ltb-false, leb-true, le-leb}
use Rattle.finite.specs.Finite.{sum, count, every}
use Rattle.finite.proofs.Tests.{both_right, all_of, every_of, joint_of, one_more}
use Rattle.finite.proofs.Sums.{sum_eq, sum_zero, count_below}
use Rattle.sets.specs.Set.{member, size, within}
use Rattle.sets.proofs.Bounds.{within_not_member, within_without}
use Rattle.campaigns.specs.declared.Campaign.{Campaign}
use Rattle.campaigns.specs.declared.Head.{Head}
use Rattle.campaigns.specs.declared.Phase.{Phase}
use Rattle.campaigns.specs.declared.Phase.TheVariants.{Filling, Running, Closed}
use Rattle.campaigns.specs.declared.Plan.{Plan}
use Rattle.campaigns.specs.declared.Terms.{Terms}
use Rattle.campaigns.specs.declared.View.{View}
use Rattle.campaigns.specs.Limits.{max_campaigns, max_budget, max_views}
use Rattle.campaigns.specs.Choice.{is, role_of}
use Rattle.campaigns.specs.Campaign.{spending, aged, after, fresh, depth_fits, width_fits, power_fits, sound_plan}
use Rattle.campaigns.specs.Campaign.{uncounted, empty, untouched, sound_campaign}
use Rattle.campaigns.specs.View.{names, pays, becomes, able, takings, claims, full}
use Rattle.campaigns.proofs.Laws.{Sized, plan_sized}
use Rattle.campaigns.proofs.Meanings.{filling_means}
use Rattle.day.specs.declared.Day.{Day}
use Rattle.day.specs.declared.Outcome.{Outcome}
use Rattle.day.specs.Day.{campaign, state_with, in_phase, no_terms, empty_plan, blank_plan, blank, total_takings}
use Rattle.day.specs.Day.{total_claim, total_budgets}
use Rattle.audit.specs.Sound.{marks_hold, sound_entry, sound_tests, sound_record}
use Rattle.day.specs.Day.{head_of, sound}
use Rattle.campaigns.specs.Phase.{is_filling, phase_holds}
use Rattle.questions.specs.Questions.{width_holds}
use Rattle.day.specs.Calls.{Call, questions, result, with_campaign, found, player, shown, marked, call}
use Rattle.day.specs.Calls.{head_joined, head_shown, head_marked}
use Rattle.day.specs.Calls.Call.{open_plan, add_campaign, start_day, show_view, ask_tally, close_day, mark_campaign}
use Rattle.day.proofs.Questions.{Yes, call_elim}
use Rattle.day.proofs.State.{Sound, sound_facts, sound_at, held_at, empty_at, campaign_of_state}
use Rattle.demands.proofs.Laws.{claim_of, claim_fresh}
use Rattle.demands.proofs.Step.{able_few, takings_step, claims_step}
use Rattle.demands.proofs.States.{sum_state_with, with_campaign_old, with_campaign_new, sum_with_campaign}
use Rattle.demands.proofs.States.{takings_with_campaign}
use Rattle.demands.proofs.Marks.{running_not_filling, marks_within, marks_of, within_more, within_marked}
use Rattle.demands.proofs.SoundCampaign.{campaign_sound, becomes_sound, fresh_sound}

-- all that makes the state of a head that holds f i at entry i a sound one
pub record Whole (h : Head) (f : ℕ → Campaign) : Type 0 where
  pub plan_sound : sound_plan h.plan ≡ true
  pub few : h.count ≤ max_campaigns
  pub views : h.accepted ≤ max_views
  pub marks : marks_hold h ≡ true
  pub entry : (i : ℕ) → i < h.count → sound_campaign h.phase h.plan h.accepted (f i) ≡ true
  pub past : (i : ℕ) → h.count ≤ i → i < 64 → empty (f i) ≡ true
  pub budgets : sum h.count (λ i. (f i).budget) ≤ max_budget
  pub phased : phase_holds h.phase h.accepted (takings h.plan h.count f) ≡ true
  pub covered : claims h.plan h.count f ≤ full h.plan (takings h.plan h.count f)

pub whole_sound : (s : Day) → Whole (head_of s) (campaign s) → sound s ≡ true
unfolding sound sound_record
whole_sound s h =
    all_of (sound_tests (head_of s) (campaign s)) (
      h.plan_sound,
      (
        le-leb _ _ h.few,
        (
          le-leb _ _ h.views,
          (
            h.marks,
            (
              every_of 64 (sound_entry (head_of s) (campaign s)) (λ i l. go i l (ltb i s.count) refl),
              (le-leb _ _ h.budgets, (h.phased, (le-leb _ _ h.covered, tt))),
            ),
          ),
        ),
      ),
    )
  where
    go : (i : ℕ) → i < 64 → (b : Bool) → ltb i s.count ≡ b → sound_entry (head_of s) (campaign s) i ≡ true
    go i l true e = rw e (h.entry i (ltb-true i s.count e))
    go i l false e = rw e (h.past i (ltb-false i s.count e) l)

sound_state_with : (h : Head) (f : ℕ → Campaign) → Whole h f → sound (state_with h f) ≡ true
sound_state_with h f w =
    let n = h.count in
    let pl = h.plan in
    let ta : takings pl n (campaign (state_with h f)) ≡ takings pl n f = sum_state_with h f spending w.few in
    let cl : claims pl n (campaign (state_with h f)) ≡ claims pl n f = sum_state_with h f (claim_of pl) w.few in
    whole_sound (state_with h f) (record {
      plan_sound = w.plan_sound;
      few = w.few;
      views = w.views;
      marks = w.marks;
      entry = λ i l. rw (campaign_of_state h f i (lt_of_lt_of_le l w.few)) (w.entry i l);
      past = λ i l m. rw (campaign_of_state h f i m) (w.past i l m);
      budgets = rw (sum_state_with h f (λ c. c.budget) w.few) w.budgets;
      phased = rw ta w.phased;
      covered = rw (ta, cl) w.covered;
    })

-- a plan with no campaigns
sound_empty_plan : (p : Phase) (pl : Plan) → sound_plan pl ≡ true → phase_holds p 0 0 ≡ true
    → sound (empty_plan p pl) ≡ true
unfolding empty uncounted within every member
sound_empty_plan p pl e h = sound_state_with (head_of (empty_plan p pl)) (λ i. fresh no_terms) (record {
  plan_sound = e;
  few = omega arith;
  views = omega arith;
  marks = refl;
  entry = λ i l. absurd (not-suc-le-zero l);
  past = λ i l m. refl;
  budgets = omega (arith, sum_zero (λ i. 0));
  phased = rw (sum_zero (λ i. 0)) h;
  covered = omega (arith, sum_zero (λ i. claim_of pl (fresh no_terms)));
})

pub blank_sound : sound blank ≡ true
unfolding blank sound_plan
blank_sound = sound_empty_plan (Closed 0) blank_plan refl refl

budget_aged : (b : Bool) (c : Campaign) → (aged b c).budget ≡ c.budget
budget_aged true c = refl
budget_aged false c = refl

budget_after : (k : ℕ) (m p q : Bool) (c : Campaign) → (after k (role_of m p q) c).budget ≡ c.budget
budget_after k false p q c = refl
budget_after k true false q c = refl
budget_after k true true true c = refl
budget_after k true true false c = budget_aged (eqb (c.age + 1) k) c

absent_becomes : (pl : Plan) (w : View) (i : ℕ) (m p q : Bool) (c : Campaign) → m ≡ false
    → becomes pl w i (role_of m p q) c ≡ c
absent_becomes pl w i m p q c e = rw e

module _ (s : Day) (h : Sound s) where
  sized : Sized s.plan
  sized = plan_sized s.plan h.plan_sound

  covered_claims : claims s.plan s.count (campaign s) ≤ full s.plan (takings s.plan s.count (campaign s))
  unfolding total_takings total_claim
  covered_claims = h.covered

  inside : within s.count s.paused ≡ true
  inside = marks_within (head_of s) h.marks

  -- another phase than Filling
  sound_phase : (p : Phase) → is_filling p ≡ false → ((c : Campaign) → untouched p c ≡ true)
      → phase_holds p s.accepted (total_takings s) ≡ true → sound (in_phase s p) ≡ true
  unfolding total_takings total_budgets
  sound_phase p f u e = whole_sound (in_phase s p) (record {
    plan_sound = h.plan_sound;
    few = h.few;
    views = h.views;
    marks = marks_of (head_of (in_phase s p)) inside f;
    entry = λ i l. let o = held_at s h i l in
        campaign_sound p s.plan s.accepted (campaign s i) o.is_priced o.young o.within_whole
        o.plays_turns o.turns_named o.named_accepted (u (campaign s i));
    past = empty_at s h;
    budgets = h.budgets;
    phased = e;
    covered = covered_claims;
  })

  module _ (t : Terms) where
    sound_joined : Yes (questions s (add_campaign t))
        → sound (state_with (head_joined s) (with_campaign s t)) ≡ true
    unfolding total_budgets total_takings
    sound_joined (e1, (e6, (e7, (e8, (e9, (e10, _)))))) =
        let f : s.phase ≡ Filling = (filling_means s.phase).0 e6 in
        let room : s.count < 64 = ltb-true s.count 64 e7 in
        let next : s.count + 1 ≡ suc s.count = omega arith in
        sound_state_with (head_joined s) (with_campaign s t) (record {
          plan_sound = h.plan_sound;
          few = omega arith;
          views = h.views;
          marks =
              rw (within_more s.count (s.count + 1) s.paused (omega arith) inside)
              (subst (λ (b : Bool). (eqb s.paused 0 || not b) ≡ true) e6
              (both_right (within s.count s.paused) _ h.marks));
          entry =
              λ i l.
              one_more (λ j. sound_campaign Filling s.plan s.accepted (with_campaign s t j) ≡ true) s.count
              (λ j m. rw (with_campaign_old s t j (λ e. omega arith), ← f) (sound_at s h j m))
              (rw (with_campaign_new s t) (fresh_sound Filling s.plan s.accepted t sized.deep e8 e9))
              i (omega arith);
          past = λ i l m. rw (with_campaign_old s t i (λ e. omega arith)) (empty_at s h i (omega arith) m);
          budgets =
              omega (
                arith,
                sum_with_campaign s t (λ c. c.budget),
                leb-true (sum s.count (λ i. (campaign s i).budget) + t.budget) max_budget e10,
              );
          phased =
              subst (λ (p : Phase). phase_holds p s.accepted (takings s.plan s.count (campaign s)) ≡ true) f
              h.phased;
          covered =
              omega (
                arith,
                covered_claims,
                sum_with_campaign s t (claim_of s.plan),
                claim_fresh s.plan sized t,
                ap (full s.plan) (takings_with_campaign s t),
              );
        })

  module _ (w : View) where
    v : View
    v = found s w

    few_able : width_holds (head_of s) v ≡ true → count s.count (able s.plan v (campaign s)) ≤ s.plan.width
    unfolding width_holds size v
    few_able e =
        le_trans (able_few s.count s.plan v (campaign s))
        (le_trans (count_below s.count 64 (names v) h.few)
        (leb-true (size v.set) s.plan.width e))

    -- a name past the last campaign is found by no view that passes question 13
    past_absent : within s.count w.set ≡ true → (i : ℕ) → s.count ≤ i → i < 64 → names v i ≡ false
    unfolding v
    past_absent e i l m =
        within_not_member s.count v.set i (within_without s.count w.set s.paused e) l m

    sound_shown : Yes (questions s (show_view w)) → sound (state_with (head_shown s) (shown s w)) ≡ true
    unfolding total_budgets v
    sound_shown (e1, (e11, (e12, (e13, (e14, _))))) =
        sound_state_with (head_shown s) (shown s w) (record {
          plan_sound = h.plan_sound;
          few = h.few;
          views = omega (arith, ltb-true s.accepted max_views e12);
          marks = marks_of (head_shown s) inside refl;
          entry = λ i l. becomes_sound s.plan s.accepted (campaign s i) (held_at s h i l) v i (is (player s w) i);
          past =
              λ i l m.
              rw (absent_becomes s.plan v i (names v i) (pays s.plan v i (campaign s i)) (is (player s w) i)
              (campaign s i) (past_absent e13 i l m)) (empty_at s h i l m);
          budgets =
              rw (sum_eq s.count (λ i. (shown s w i).budget) (λ i. (campaign s i).budget)
              (λ i l.
              budget_after s.plan.depth (names v i) (pays s.plan v i (campaign s i)) (is (player s w) i)
              (campaign s i))) h.budgets;
          phased = refl;
          covered =
              omega (
                arith,
                covered_claims,
                claims_step s.count s.plan v (campaign s) sized (λ i l. (held_at s h i l).young) (few_able e14),
                ap (full s.plan) (takings_step s.count s.plan v (campaign s)),
              );
        })

  -- a mark set or cleared
  sound_marked : (b : Bool) (i : ℕ) → Yes (questions s (mark_campaign b i))
      → sound (result s (mark_campaign b i)).day ≡ true
  unfolding total_takings total_budgets
  sound_marked b i (e1, (e11, (e15, _))) =
      whole_sound (result s (mark_campaign b i)).day (record {
        plan_sound = h.plan_sound;
        few = h.few;
        views = h.views;
        marks =
            marks_of (head_marked s (marked b i s.paused))
            (within_marked b s.count i s.paused inside (ltb-true i s.count e15))
            (running_not_filling s.phase e11);
        entry = sound_at s h;
        past = empty_at s h;
        budgets = h.budgets;
        phased = h.phased;
        covered = covered_claims;
      })

-- an opening that is accepted gives a sound state
pub opened_sound : (s : Day) (pl : Plan) → Yes (questions s (open_plan pl)) → sound (empty_plan Filling pl) ≡ true
unfolding sound_plan
opened_sound s pl (e1, (e2, (e3, (e4, (e5, _))))) =
    sound_empty_plan Filling pl
    (joint_of (depth_fits pl) (width_fits pl ∷ power_fits pl ∷ []) (e3, (e4, (e5, tt)))) refl

-- every accepted call keeps a sound state sound
pub sound_result : (s : Day) (c : Call) → sound s ≡ true → Yes (questions s c) → sound (result s c).day ≡ true
sound_result s c e = go c
  where
    h : Sound s
    h = sound_facts s e

    go : (c : Call) → Yes (questions s c) → sound (result s c).day ≡ true
    go (open_plan pl) y = opened_sound s pl y
    go (add_campaign t) y = sound_joined s h t y
    go start_day y = sound_phase s h Running refl (λ x. refl) refl
    go (show_view w) y = sound_shown s h w y
    go (ask_tally i) y = e
    go close_day y =
        sound_phase s h (Closed (total_takings s)) refl (λ x. refl) (eq-eqb (total_takings s) (total_takings s) refl)
    go (mark_campaign b i) y = sound_marked s h b i y

-- and so does every call
pub sound_kept : (s : Day) (c : Call) → sound s ≡ true → sound (call s c).day ≡ true
sound_kept s c e = call_elim (λ (o : Outcome). sound o.day ≡ true) s c (λ q. e) (sound_result s c e)
