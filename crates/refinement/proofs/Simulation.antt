-- Algorithm 4 and our rule side by side over a list of views: by induction on it, with the relation of a campaign's
-- counts and its variables that one slot keeps (`Simulates`).
use mathlib.Core.Path.{◌≡◌, refl, ap, ap₂, sym, subst, subst⁻¹, ◌∙◌}
use mathlib.Core.Bool.{Bool, true, false}
use mathlib.Core.List.{List, [], ◌∷◌}
use Prim.Native.Nat.{ℕ, suc, ◌+◌, ◌*◌, ◌/◌, ◌<◌}
use native.Mathlib.Nat.{le-div_iff_mul-le, pos_of_div-pos}
use native.Mathlib.Omega.{arith}
use lib.Dec.{ltb}
use lib.ListN.{length}
use borrow.Author.Tests.{ltb-true, ltb-false, lt-ltb, le-ltb}
use Rattle.finite.proofs.Tests.{never}
use Rattle.finite.proofs.Sums.{sum_zero}
use Rattle.powers.specs.Power.{weight}
use Rattle.campaigns.specs.declared.Campaign.{Campaign}
use Rattle.campaigns.specs.declared.Plan.{Plan}
use Rattle.campaigns.specs.declared.Terms.{Terms}
use Rattle.campaigns.specs.declared.View.{View}
use Rattle.campaigns.specs.Choice.{Choice, choice, is, role_of}
use Rattle.campaigns.specs.Choice.Choice.{nobody, plays}
use Rattle.campaigns.specs.Campaign.{whole, can_pay, after, fresh}
use Rattle.campaigns.specs.View.{names, figure, able, chosen_of, viewed}
use Rattle.demands.specs.Choice.{Right}
use Rattle.demands.proofs.Choice.{choice_right}
use Rattle.refinement.specs.Fraction.{less}
use Rattle.refinement.specs.Algorithm4.{Instance, Neighbors, Variables, feasible_neighbor, quantity, displaces}
use Rattle.refinement.specs.Algorithm4.{line_1, line_2, line_3, line_4, lines_9_to_11, lines_3_to_11}
use Rattle.refinement.specs.Algorithm4.{matches_from, algorithm_4}
use Rattle.refinement.specs.Correspondence.{BuysAlike, instance, slots, Represents, Maximizes, Arrives, choices}
use Rattle.refinement.specs.Correspondence.{Injective, campaigns_after, Valid, Agrees, AsAlgorithm4}
use Rattle.campaigns.proofs.Choices.{best_fits}
use Rattle.refinement.proofs.Choices.{best_eq}
use Rattle.refinement.proofs.Copies.{value_zero, value_copy, copy_complete, one_age, one_turns, displaced}
use Rattle.refinement.proofs.Copies.{value_quantity}
use Rattle.refinement.proofs.Slots.{Simulates, unfinished, able_alike, after_slot}

-- line 4's words pick out one match at most
one_maximizes : (I : Instance) (j : ℕ) (N : Neighbors) (v : Variables) (a b : Choice) → Maximizes I j N v a
    → Maximizes I j N v b → a ≡ b
one_maximizes I j N v nobody nobody p q = refl
one_maximizes I j N v nobody (plays n) p q = absurd (never (feasible_neighbor I v j N n) (p n q.0) q.1)
one_maximizes I j N v (plays m) nobody p q = absurd (never (feasible_neighbor I v j N m) (q m p.0) p.1)
one_maximizes I j N v (plays m) (plays n) p q = go (ltb m n) refl (ltb n m) refl
  where
    go : (t : Bool) → ltb m n ≡ t → (u : Bool) → ltb n m ≡ u → plays m ≡ plays n
    go true e u e' =
        absurd
        (never (less (quantity I v m) (quantity I v n)) (p.2 n q.0 q.1).0
        ((q.2 m p.0 p.1).1 (ltb-true m n e)))
    go false e true e' =
        absurd
        (never (less (quantity I v n) (quantity I v m)) (q.2 m p.0 p.1).0
        ((p.2 n q.0 q.1).1 (ltb-true n m e')))
    go false e false e' = let same : m ≡ n = omega (arith, ltb-false m n e, ltb-false n m e') in ap plays same

-- an instance on which the paper's fractions are proper
pub record Proper (I : Instance) : Type 0 where
  pub deep : 0 < I.k
  pub wide : 1 < I.d
  pub bids : (i : ℕ) → i < I.n → 0 < I.b i
  pub budgets : (i : ℕ) → i < I.n → 0 < I.B i

abbrev pub plan_of : Instance → Plan
plan_of I = record { depth = I.k; width = I.d }

module _ (I : Instance) (ok : Proper I) where
  abbrev pub All : ℕ → Variables → (ℕ → Campaign) → Type 0
  All j v f = (i : ℕ) → i < I.n → Simulates I j v i (f i)

  pub simulates_represents : (j : ℕ) (v : Variables) (i : ℕ) (c : Campaign) → i < I.n → Simulates I j v i c
      → Represents I j v i c
  simulates_represents j v i c l h = record {
    plays_are = h.spends.matched;
    age_is = λ _.
        value_copy I i ok.deep ok.wide (ok.bids i l) (ok.budgets i l) (v.zᶜ i) c.age h.young
        h.current;
    turns_are = λ _. h.finished;
    quantity_is = λ _.
        value_quantity I ok.deep ok.wide v i c.age (omega (arith, h.young)) h.current;
  }

  pub injective_of : (i : ℕ) → i < I.n → Injective I i
  injective_of i l = record {
    one_age = one_age I i ok.deep ok.wide (ok.bids i l) (ok.budgets i l);
    one_turns = one_turns I i ok.deep ok.wide (ok.bids i l) (ok.budgets i l);
    complete = copy_complete I i ok.deep ok.wide (ok.bids i l) (ok.budgets i l);
  }

  module _ (j : ℕ) (w : View) (v : Variables) (f : ℕ → Campaign) (h : All j v f) where
    compares : (m i : ℕ) → m < I.n → i < I.n
        → displaces I v m i
        ≡ ltb ((f m).price * weight I.k I.d (f m).age) ((f i).price * weight I.k I.d (f i).age)
    compares m i l l' =
        displaced I ok.deep ok.wide v m i (weight I.k I.d (f m).age) (weight I.k I.d (f i).age)
        (h m l).current (h i l').current
        ∙ rw ((h m l).spends.bid, (h i l').spends.bid)

    ables : (i : ℕ) → i < I.n → feasible_neighbor I v j (names w) i ≡ able (plan_of I) w f i
    ables i l = able_alike I j i (names w) v (f i) (h i l).spends (ok.bids i l)

    pub same_choice : line_4 I j (names w) v ≡ chosen_of I.n (plan_of I) w f
    unfolding line_4 choice
    same_choice = best_eq I.n _ _ _ _ ables (λ m i l l' _ _. compares m i (omega arith) l')

    maximizes : Maximizes I j (names w) v (line_4 I j (names w) v)
    maximizes =
        subst⁻¹ (Maximizes I j (names w) v) same_choice
        (go (chosen_of I.n (plan_of I) w f) (choice_right I.n _ _))
      where
        go : (m : Choice) → Right I.n (able (plan_of I) w f) (λ i. figure (plan_of I) w i (f i)) m
            → Maximizes I j (names w) v m
        go nobody r = λ i l. ables i l ∙ r i l
        go (plays m) r = (
          r.below,
          ables m r.below ∙ r.is_able,
          λ i l a. (
            compares m i r.below l ∙ le-ltb _ _ (r.top i l (sym (ables i l) ∙ a)),
            λ b. compares i m l r.below
                ∙ lt-ltb _ _ (r.lowest i b (sym (ables i l) ∙ a)),
          ),
        )

    pub next_slot : Arrives I j (names w) v
    next_slot = record {
      maximizing = maximizes;
      only_one = λ m h'. one_maximizes I j (names w) v m (line_4 I j (names w) v) h' maximizes;
      none_waits =
          λ i l.
          unfinished I ok.deep ok.wide i (ok.bids i l) (ok.budgets i l) (names w) v (f i).age (h i l).young
          (h i l).current;
    }

    pub same_step : All (suc j) (lines_3_to_11 I j (names w) v) (viewed I.n (plan_of I) w f)
    unfolding lines_3_to_11 line_4
    same_step i l =
        subst
        (λ m.
        Simulates I (suc j) (lines_9_to_11 I (names w) (line_3 I j (names w) (line_4 I j (names w) v) v)) i
        (after I.k (role_of (names w i) (can_pay (f i)) (is m i)) (f i))) same_choice
        (after_slot I ok.deep ok.wide i (ok.bids i l) (ok.budgets i l) j (names w) v (f i) (h i l)
        (line_4 I j (names w) v) (best_fits I.n _ _) l)

  pub run_choices : (ws : List View) (j : ℕ) (v : Variables) (f : ℕ → Campaign) → All j v f
      → matches_from I j (slots ws) v ≡ choices I.n (plan_of I) ws f
  unfolding matches_from choices
  run_choices [] j v f h = refl
  run_choices (w ∷ ws) j v f h =
      ap₂ ◌∷◌ (same_choice j w v f h)
      (run_choices ws (suc j) (lines_3_to_11 I j (names w) v) (viewed I.n (plan_of I) w f) (same_step j w v f h))

  pub run_simulates : (ws : List View) (j : ℕ) (v : Variables) (f : ℕ → Campaign) → All j v f
      → All (length ws + j) (line_2 I j (slots ws) v) (campaigns_after I.n (plan_of I) ws f)
  unfolding line_2 campaigns_after
  run_simulates [] j v f h = let e : j ≡ 0 + j = omega arith in subst (λ m. All m v f) e h
  run_simulates (w ∷ ws) j v f h =
      let e : length ws + suc j ≡ suc (length ws) + j = omega arith in
      subst
      (λ m.
      All m (line_2 I (suc j) (slots ws) (lines_3_to_11 I j (names w) v))
      (campaigns_after I.n (plan_of I) ws (viewed I.n (plan_of I) w f))) e
      (run_simulates ws (suc j) (lines_3_to_11 I j (names w) v) (viewed I.n (plan_of I) w f) (same_step j w v f h))

-- the paper's instance for terms that are taken
module _ (B : Terms → ℕ) (buys : BuysAlike B) (pl : Plan) (n : ℕ) (t : ℕ → Terms) (valid : Valid pl n t) where
  whole_play : (i : ℕ) → i < n → 0 < (t i).budget / (t i).price
  whole_play i l = (le-div_iff_mul-le (valid.priced i l)).1 (omega (arith, valid.funded i l))

  pub proper : Proper (instance B pl n t)
  proper = record {
    deep = valid.deep;
    wide = valid.wide;
    bids = valid.priced;
    budgets = λ i l. pos_of_div-pos (t i).price (omega (arith, whole_play i l, buys (t i)));
  }

  pub simulates_fresh : All (instance B pl n t) proper 0 line_1 (λ i. fresh (t i))
  unfolding whole
  simulates_fresh i l = record {
    spends = record { bid = refl; copies = sym (buys (t i)); matched = sum_zero _; later = λ j h. refl };
    finished = record { left = omega arith; right = omega (arith, proper.budgets i l); cross = omega arith };
    young = valid.deep;
    current = value_zero (instance B pl n t) i valid.deep valid.wide (proper.bids i l) (proper.budgets i l);
  }

  pub agrees : (ws : List View) → Agrees (instance B pl n t) pl t ws
  agrees ws =
      let I : Instance = instance B pl n t in
      let h : All I proper (length ws) (algorithm_4 I (slots ws)) (campaigns_after n pl ws (λ i. fresh (t i))) =
      subst (λ j. All I proper j (algorithm_4 I (slots ws)) (campaigns_after n pl ws (λ i. fresh (t i)))) (omega arith)
      (run_simulates I proper ws 0 line_1 (λ i. fresh (t i)) simulates_fresh) in
      record {
        same_choices = run_choices I proper ws 0 line_1 (λ i. fresh (t i)) simulates_fresh;
        injective = injective_of I proper;
        same_counts =
            λ i l.
            simulates_represents I proper (length ws) (algorithm_4 I (slots ws)) i
            (campaigns_after n pl ws (λ i'. fresh (t i')) i) l (h i l);
        next =
            λ w.
            next_slot I proper (length ws) w (algorithm_4 I (slots ws)) (campaigns_after n pl ws (λ i. fresh (t i))) h;
      }

pub as_algorithm_4 : AsAlgorithm4
as_algorithm_4 B buys pl n t valid ws = agrees B buys pl n t valid ws
