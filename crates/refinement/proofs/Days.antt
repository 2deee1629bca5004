-- Every list of calls keeps its day beside Algorithm 4 (`Alongside`): by the induction of `floor`, and an accepted view
-- is one slot more of the state that it is shown (`Slot`).
use mathlib.Core.Path.{◌≡◌, refl, ap, sym, subst, subst⁻¹, ◌∙◌}
use mathlib.Core.Bool.{Bool, true, false}
use mathlib.Core.List.{List, [], ◌∷◌, ◌++◌, map, map-append}
use Prim.Native.Nat.{ℕ, suc, ◌+◌, ◌<◌}
use native.Mathlib.Nat.{not-suc-le-zero}
use native.Mathlib.Numerals.{add-one}
use native.Mathlib.Omega.{arith}
use lib.ListN.{get_or, length, length-append, length-map, get_or-append}
use lib.Seq.{get_or-append_seam}
use borrow.Author.Tests.{ltb-true}
use Rattle.finite.proofs.Sums.{sum_zero}
use Rattle.finite.proofs.Tests.{never, one_more}
use Rattle.day.specs.declared.Day.{Day}
use Rattle.campaigns.specs.declared.Campaign.{Campaign}
use Rattle.campaigns.specs.declared.Phase.{Phase}
use Rattle.campaigns.specs.declared.Phase.TheVariants.{Filling, Running, Closed}
use Rattle.campaigns.specs.declared.Plan.{Plan}
use Rattle.campaigns.specs.declared.Terms.{Terms}
use Rattle.campaigns.specs.declared.View.{View}
use Rattle.campaigns.specs.Campaign.{whole, fresh}
use Rattle.campaigns.specs.View.{names}
use Rattle.day.specs.Day.{campaign, in_phase, empty_plan, no_terms, blank_plan, blank, total_takings}
use Rattle.campaigns.specs.Phase.{is_filling}
use Rattle.day.specs.Calls.{Call, questions, with_campaign, player, offers, view_answer, result}
use Rattle.day.specs.Calls.{found, head_joined}
use Rattle.day.specs.declared.Answer.TheVariants.{Done}
use Rattle.day.specs.Calls.Call.{open_plan, add_campaign, start_day, show_view, ask_tally, close_day, mark_campaign}
use Rattle.day.proofs.Questions.{Yes}
use Rattle.campaigns.proofs.Laws.{plan_sized}
use Rattle.audit.proofs.Totals.{Held}
use Rattle.day.proofs.State.{sound_facts, held_at, campaign_of_state}
use Rattle.demands.specs.Transcript.{transcript, final}
use Rattle.demands.proofs.States.{with_campaign_old, with_campaign_new}
use Rattle.floor.specs.History.{Starts, History, opening, with_call, history}
use Rattle.floor.specs.Floor.{terms_of, price_of}
use Rattle.floor.proofs.Reach.{with_view, view_found, Reached, result_reached, reached, of_every_reached}
use Rattle.refinement.specs.Algorithm4.{Instance, Neighbors, Variables, line_1, line_2, line_4, lines_3_to_11}
use Rattle.refinement.specs.Algorithm4.{matches_from, algorithm_4, matches}
use Rattle.refinement.specs.Correspondence.{BuysAlike, slots, Represents, Valid}
use Rattle.refinement.specs.Days.{instance_of, DayAgrees, DaysAsAlgorithm4}
use Rattle.refinement.specs.Slot.{RepresentsState}
use Rattle.refinement.proofs.Simulation.{proper, simulates_fresh, simulates_represents, injective_of}
use Rattle.refinement.proofs.Slot.{priced_funded, proper_at, same_answer, same_state}

-- one slot more
line_2_snoc : (I : Instance) (Ns : List Neighbors) (N : Neighbors) (j : ℕ) (v : Variables)
    → line_2 I j (Ns ++ (N ∷ [])) v ≡ lines_3_to_11 I (length Ns + j) N (line_2 I j Ns v)
unfolding line_2
line_2_snoc I [] N j v = ap (λ m. lines_3_to_11 I m N v) (omega arith)
line_2_snoc I (M ∷ Ns) N j v =
    line_2_snoc I Ns N (suc j) (lines_3_to_11 I j M v)
    ∙ ap (λ m. lines_3_to_11 I m N (line_2 I (suc j) Ns (lines_3_to_11 I j M v))) (omega arith)

matches_snoc : (I : Instance) (Ns : List Neighbors) (N : Neighbors) (j : ℕ) (v : Variables)
    → matches_from I j (Ns ++ (N ∷ [])) v ≡ matches_from I j Ns v ++ (line_4 I (length Ns + j) N (line_2 I j Ns v) ∷ [])
unfolding line_2 matches_from
matches_snoc I [] N j v = ap (λ m. line_4 I m N v ∷ []) (omega arith)
matches_snoc I (M ∷ Ns) N j v =
    ap (λ ms. line_4 I j M v ∷ ms)
    (matches_snoc I Ns N (suc j) (lines_3_to_11 I j M v)
    ∙ ap (λ m.
    matches_from I (suc j) Ns (lines_3_to_11 I j M v) ++
    (line_4 I m N (line_2 I (suc j) Ns (lines_3_to_11 I j M v)) ∷ [])) (omega arith))

-- what holds of the terms of a list and of one more
snoc_all : (P : ℕ → Terms → Type 0) (ts : List Terms) (t : Terms) → ((i : ℕ) → i < length ts → P i (get_or ts i no_terms))
    → P (length ts) t
    → (i : ℕ) → i < length (ts ++ (t ∷ [])) → P i (get_or (ts ++ (t ∷ [])) i no_terms)
snoc_all P ts t old new i l =
    one_more (λ j. P j (get_or (ts ++ (t ∷ [])) j no_terms)) (length ts)
    (λ j m. subst (P j) (sym (get_or-append ts (t ∷ []) no_terms j m)) (old j m))
    (subst (P (length ts)) (sym (get_or-append_seam ts t [] no_terms)) new) i (omega (arith, length-append ts (t ∷ [])))

-- before the first view the variables are those of line 1
module _
    (B : Terms → ℕ) (buys : BuysAlike B) (s : Day) (h : History) (r : Reached s h)
    (unplayed : (i : ℕ) → i < length h.terms → campaign s i ≡ fresh (terms_of h i))
  where
    n : ℕ
    n = length h.terms

    held : (i : ℕ) → i < length h.terms → Held s.plan s.accepted (fresh (terms_of h i))
    held i l =
        subst (Held s.plan s.accepted) (unplayed i l)
        (held_at s (sound_facts s r.is_sound) i (omega (arith, r.tracks.many)))

    valid : 1 < h.plan.width → Valid h.plan n (terms_of h)
    unfolding n
    valid wide = record {
      deep = omega (
        arith,
        (plan_sized s.plan (sound_facts s r.is_sound).plan_sound).deep,
        ap (λ (pl : Plan). pl.depth) r.tracks.plan_is,
      );
      wide = wide;
      priced = λ i l. (held i l).price_least;
      funded = λ i l. priced_funded (fresh (terms_of h i)) (held i l).is_priced;
    }

    counts_fresh : (i : ℕ) → i < n → Represents (instance_of B h) 0 line_1 i (fresh (terms_of h i))
    unfolding n
    counts_fresh i l =
        let at : 1 < h.plan.width → Represents (instance_of B h) 0 line_1 i (fresh (terms_of h i)) =
        λ wide.
        simulates_represents (instance_of B h) (proper B buys h.plan n (terms_of h) (valid wide)) 0 line_1 i _ l
        (simulates_fresh B buys h.plan n (terms_of h) (valid wide) i l) in
        record {
          plays_are = sum_zero _;
          age_is = λ wide. (at wide).age_is wide;
          turns_are = λ wide. (at wide).turns_are wide;
          quantity_is = λ wide. (at wide).quantity_is wide;
        }

    represents_fresh : RepresentsState (instance_of B h) 0 line_1 s
    unfolding n whole
    represents_fresh = record {
      depth_is = ap (λ (pl : Plan). pl.depth) (sym r.tracks.plan_is);
      width_is = ap (λ (pl : Plan). pl.width) (sym r.tracks.plan_is);
      count_is = r.tracks.many;
      bid_is = λ i l. ap (λ (c : Campaign). c.price) (sym (same i l));
      copies_are = λ i l. buys (terms_of h i) ∙ ap whole (sym (same i l));
      counts_are = λ i l.
          subst⁻¹ (Represents (instance_of B h) 0 line_1 i) (same i l)
          (counts_fresh i (omega (arith, r.tracks.many)));
      unmatched = λ i j l q. refl;
    }
      where
        same : (i : ℕ) → i < s.count → campaign s i ≡ fresh (terms_of h i)
        same i l = unplayed i (omega (arith, r.tracks.many))

module _ (B : Terms → ℕ) (buys : BuysAlike B) where
  abbrev pub Beside : History → Day → Type 0
  Beside h s =
      RepresentsState (instance_of B h) (length h.views) (algorithm_4 (instance_of B h) (slots h.views)) s

  abbrev pub Answered : History → Type 0
  Answered h = h.answers ≡ map (view_answer (price_of h)) (matches (instance_of B h) (slots h.views))

  -- Algorithm 4 runs beside the day h, which the state s holds
  pub record Alongside (s : Day) (h : History) : Type 0 where
    pub unplayed : is_filling s.phase ≡ true → (i : ℕ) → i < length h.terms → campaign s i ≡ fresh (terms_of h i)
    pub beside : Beside h s
    pub answered : Answered h

  alongside_opening : (p : Phase) (pl : Plan) → Alongside (empty_plan p pl) (opening pl)
  unfolding line_2 matches_from
  alongside_opening p pl = record {
    unplayed = λ _ i l. absurd (not-suc-le-zero l);
    beside = record {
      depth_is = refl;
      width_is = refl;
      count_is = refl;
      bid_is = λ i l. absurd (not-suc-le-zero l);
      copies_are = λ i l. absurd (not-suc-le-zero l);
      counts_are = λ i l. absurd (not-suc-le-zero l);
      unmatched = λ i j l q. refl;
    };
    answered = refl;
  }

  module _ (s : Day) (h : History) (r : Reached s h) (k : Alongside s h) where
    module _ (t : Terms) (y : Yes (questions s (add_campaign t))) where
      more : History
      more = with_call h (add_campaign t) (result s (add_campaign t)).answer

      more_fresh : (i : ℕ) → i < length more.terms
          → campaign (result s (add_campaign t)).day i ≡ fresh (terms_of more i)
      unfolding more
      more_fresh =
          let room : s.count < 64 = ltb-true s.count 64 y.1.1.0 in
          snoc_all (λ i u. campaign (result s (add_campaign t)).day i ≡ fresh u) h.terms t
          (λ i l.
          campaign_of_state (head_joined s) (with_campaign s t) i
          (omega (arith, r.tracks.many)) ∙ with_campaign_old s t i (λ e. omega (arith, r.tracks.many))
          ∙ k.unplayed y.1.0 i l)
          (campaign_of_state (head_joined s) (with_campaign s t) (length h.terms)
          (omega (arith, r.tracks.many)) ∙ ap (with_campaign s t) r.tracks.many ∙ with_campaign_new s t)

      alongside_add : Alongside (result s (add_campaign t)).day more
      unfolding more line_2 matches_from
      alongside_add =
          let none : h.views ≡ [] = r.tracks.unviewed y.1.0 in
          record {
            unplayed = λ _. more_fresh;
            beside = rw none
                (represents_fresh B buys (result s (add_campaign t)).day more
                (result_reached s h r (add_campaign t) y) more_fresh);
            answered = rw none (rw none at k.answered);
          }

    module _ (w : View) (y : Yes (questions s (show_view w))) where
      I : Instance
      I = instance_of B h

      so_far : Variables
      so_far = algorithm_4 I (slots h.views)

      slots_snoc : slots (h.views ++ (found s w ∷ [])) ≡ slots h.views ++ (names (found s w) ∷ [])
      slots_snoc = map-append names h.views (found s w ∷ [])

      slots_many : length (slots h.views) + 0 ≡ length h.views
      slots_many = omega (arith, length-map h.views names)

      beside_view : RepresentsState I (suc (length h.views))
          (lines_3_to_11 I (length h.views) (names (found s w)) so_far) (result s (show_view w)).day
      unfolding I so_far
      beside_view = same_state s r.is_sound I (length h.views) so_far k.beside w y.1.1.1.1.0

      answers_as : view_answer (offers s w) (player s w)
          ≡ view_answer (price_of h) (line_4 I (length h.views) (names (found s w)) so_far)
      unfolding I so_far
      answers_as = same_answer s r.is_sound I (length h.views) so_far k.beside w y.1.1.1.1.0

      alongside_found : Alongside (result s (show_view w)).day
          (with_view h (found s w) (result s (show_view w)).answer)
      unfolding I so_far
      alongside_found = record {
        unplayed = λ e. absurd (never false refl e);
        beside =
            rw (
              length-append h.views (found s w ∷ []),
              add-one,
              slots_snoc,
              line_2_snoc I (slots h.views) (names (found s w)) 0 line_1,
              slots_many,
            )
            beside_view;
        answered =
            rw (
              slots_snoc,
              matches_snoc I (slots h.views) (names (found s w)) 0 line_1,
              slots_many,
              map-append,
              k.answered,
              answers_as,
            );
      }

      alongside_view : Alongside (result s (show_view w)).day
          (with_call h (show_view w) (result s (show_view w)).answer)
      alongside_view =
          subst (Alongside (result s (show_view w)).day)
          (view_found s h r.tracks w (result s (show_view w)).answer) alongside_found

    -- a state of the same plan and campaigns
    beside_same : (s' : Day) → s.plan ≡ s'.plan → s.count ≡ s'.count → ((i : ℕ) → campaign s i ≡ campaign s' i)
        → Beside h s'
    unfolding whole
    beside_same s' plan_is count_is same = record {
      depth_is = k.beside.depth_is ∙ ap (λ (pl : Plan). pl.depth) plan_is;
      width_is = k.beside.width_is ∙ ap (λ (pl : Plan). pl.width) plan_is;
      count_is = k.beside.count_is ∙ count_is;
      bid_is = λ i l. k.beside.bid_is i (omega (arith, count_is)) ∙ ap (λ (c : Campaign). c.price) (same i);
      copies_are = λ i l. k.beside.copies_are i (omega (arith, count_is)) ∙ ap whole (same i);
      counts_are = λ i l. subst (Represents _ _ _ i) (same i) (k.beside.counts_are i (omega (arith, count_is)));
      unmatched = λ i j l q. k.beside.unmatched i j (omega (arith, count_is)) q;
    }

    -- a phase that is not Filling
    alongside_phase : (p : Phase) → is_filling p ≡ false → Alongside (in_phase s p) h
    alongside_phase p e = record {
      unplayed = λ f. absurd (never (is_filling p) e f);
      beside = beside_same (in_phase s p) refl refl (λ i. refl);
      answered = k.answered;
    }

    alongside_marked : (b : Bool) (i : ℕ)
        → Alongside (result s (mark_campaign b i)).day (with_call h (mark_campaign b i) Done)
    alongside_marked b i = record {
      unplayed = k.unplayed;
      beside = beside_same (result s (mark_campaign b i)).day refl refl (λ j. refl);
      answered = k.answered;
    }

    alongside_result : (c : Call) → Yes (questions s c)
        → Alongside (result s c).day (with_call h c (result s c).answer)
    unfolding more
    alongside_result (open_plan pl) y = alongside_opening Filling pl
    alongside_result (add_campaign t) y = alongside_add t y
    alongside_result start_day y = alongside_phase Running refl
    alongside_result (show_view w) y = alongside_view w y
    alongside_result (ask_tally i) y = k
    alongside_result close_day y = alongside_phase (Closed (total_takings s)) refl
    alongside_result (mark_campaign b i) y = alongside_marked b i

  alongside_blank : Alongside blank (opening blank_plan)
  unfolding blank
  alongside_blank = alongside_opening (Closed 0) blank_plan

  alongside : (s : Day) (cs : List Call) → Starts s cs → Alongside (final s cs) (history (transcript s cs))
  alongside = of_every_reached Alongside alongside_blank (λ s pl y. alongside_opening Filling pl) alongside_result

  agrees_of : (s : Day) (h : History) → Reached s h → Alongside s h → DayAgrees B h s
  agrees_of s h r k =
      let I : Instance = instance_of B h in
      record {
        same_answers = k.answered;
        same_tallies = λ i l. k.beside.counts_are i (omega (arith, r.tracks.many));
        injective = λ wide i l.
            injective_of I
            (proper_at s r.is_sound I (length h.views) (algorithm_4 I (slots h.views)) k.beside wide) i l;
      }

pub days_as_algorithm_4 : DaysAsAlgorithm4
days_as_algorithm_4 B buys s cs st =
    agrees_of B buys (final s cs) (history (transcript s cs)) (reached s cs st) (alongside B buys s cs st)
