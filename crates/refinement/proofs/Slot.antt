-- One view of any sound state is one slot of Algorithm 4. The counts of a sound state, through what they represent, are
-- in the relation that a slot keeps (`Simulates`), so that the step from it needs nothing of how the state came about.
use mathlib.Core.Path.{◌≡◌, refl, ap, ap₂, sym, subst, subst⁻¹, ◌∙◌}
use mathlib.Core.Bool.{Bool, true, false, cond}
use Prim.Native.Nat.{ℕ, zero, suc, ◌+◌, min, ◌≤◌, ◌<◌}
use native.Mathlib.Nat.{le-div_iff_mul-le, pos_of_div-pos}
use native.Mathlib.Omega.{arith}
use lib.Dec.{leb, ltb, eqb}
use borrow.Author.Tests.{leb-true, eqb-true, le-ltb, ltb-true, ltb-false}
use Rattle.finite.specs.Finite.{sum, count, every, table, one_if}
use Rattle.finite.proofs.Sums.{hide, sum_split, sum_term}
use Rattle.finite.proofs.Tests.{both_left, both_right}
use Rattle.sets.specs.Set.{member, size, within, collect, without, including}
use Rattle.powers.specs.Power.{weight, share}
use Rattle.campaigns.specs.declared.Campaign.{Campaign}
use Rattle.campaigns.specs.declared.Terms.{Terms}
use Rattle.campaigns.specs.declared.View.{View}
use Rattle.campaigns.specs.Choice.{Choice, best, choice, is, role_of}
use Rattle.campaigns.specs.Choice.Choice.{nobody, plays}
use Rattle.campaigns.specs.Campaign.{whole, claim, price_fits, budget_fits, sound_plan, sound_campaign, priced, counted}
use Rattle.campaigns.specs.Campaign.{uncounted, empty, can_pay}
use Rattle.campaigns.specs.View.{names, able, becomes, chosen_of, viewed}
use Rattle.campaigns.proofs.Choices.{Fits, best_fits}
use Rattle.campaigns.proofs.Laws.{plan_sized}
use Rattle.audit.specs.Sound.{sound_record}
use Rattle.audit.proofs.Totals.{Held}
use Rattle.day.specs.declared.Answer.TheVariants.{Played}
use Rattle.day.specs.declared.Day.{Day}
use Rattle.day.specs.declared.Outcome.{Outcome}
use Rattle.day.specs.Day.{head_of, campaign, sound}
use Rattle.questions.specs.Questions.{first_failed, width_holds}
use Rattle.day.specs.Calls.{number, questions, found, player, offers, head_shown, shown, view_answer, marked, result}
use Rattle.day.specs.Calls.{call}
use Rattle.day.specs.Calls.Call.{show_view}
use Rattle.day.proofs.State.{Sound, sound_facts, held_at, campaign_of_state}
use Rattle.day.proofs.Questions.{asked_yes}
use Rattle.demands.proofs.Refusals.{call_number, accepted_result}
use Rattle.floor.specs.History.{accepted}
use Rattle.floor.specs.Paused.{both}
use Rattle.refinement.specs.Fraction.{◌≈◌}
use Rattle.refinement.specs.Algorithm4.{Instance, Variables, C, feasible, feasible_neighbor, line_4}
use Rattle.refinement.specs.Algorithm4.{lines_3_to_11}
use Rattle.refinement.specs.Correspondence.{BuysAlike, copy, Represents}
use Rattle.refinement.specs.Slot.{RepresentsState, OneSlot, terms_at, instance_at}
use Rattle.refinement.specs.Slot.{variables_at, Represented, made_up, made_up_instance, MadeUp}
use Rattle.refinement.proofs.Budgets.{budget_buys}
use Rattle.refinement.proofs.Copies.{copy_value, copy_proper, value_quantity}
use Rattle.refinement.proofs.Choices.{best_eq}
use Rattle.refinement.proofs.Slots.{Spends, Simulates, able_alike, spends_slot}
use Rattle.refinement.proofs.Simulation.{Proper, plan_of, All, same_choice, same_step, simulates_represents}

-- the answer to a match, with the prices that the matched one's candidates have on both sides
pub view_answer_eq : (n : ℕ) (able : ℕ → Bool) (x y : ℕ → ℕ) → ((i : ℕ) → i < n → x i ≡ y i) → (m : Choice)
    → Fits n able m → view_answer x m ≡ view_answer y m
view_answer_eq n able x y e nobody f = refl
view_answer_eq n able x y e (plays m) f = rw (e m f.0)

-- two members of a set of at most one are the same
one_member : (set i j : ℕ) → size set ≤ 1 → i < 64 → j < 64 → member set i ≡ true → member set j ≡ true → j ≡ i
unfolding size count
one_member set i j few l k p q = go (eqb j i) refl
  where
    f : ℕ → ℕ
    f x = one_if (member set x)

    go : (t : Bool) → eqb j i ≡ t → j ≡ i
    go true e = eqb-true j i e
    go false e =
        absurd
        (omega (
          arith,
          sum_split 64 i f l,
          sum_term 64 (hide i f) j k,
          ap (λ (t : Bool). cond {A = ℕ} t 0 (f j)) e,
          ap one_if p,
          ap one_if q,
        ))

pub priced_funded : (c : Campaign) → priced c ≡ true → c.price ≤ c.budget
unfolding priced
priced_funded c e =
    let fits : budget_fits c.price c.budget ≡ true = both_right (price_fits c.price) _ e in
    leb-true c.price c.budget (both_left (leb c.price c.budget) _ fits)

whole_play : (c : Campaign) → priced c ≡ true → 1 ≤ c.price → 0 < whole c
unfolding whole
whole_play c e l = (le-div_iff_mul-le l).1 (omega (arith, priced_funded c e))

-- a sound state that the variables represent
module _ (s : Day) (e : sound s ≡ true) (I : Instance) (j : ℕ) (v : Variables) (r : RepresentsState I j v s) where
  facts : Sound s
  facts = sound_facts s e

  inside : (i : ℕ) → i < I.n → i < s.count
  inside i l = omega (arith, r.count_is)

  bids : (i : ℕ) → i < I.n → 0 < I.b i
  bids i l = omega (arith, r.bid_is i (inside i l), (held_at s facts i (inside i l)).price_least)

  spends : (i : ℕ) → i < I.n → Spends I j i (campaign s i) (v.x i)
  spends i l =
      let m : i < s.count = inside i l in
      record {
        bid = sym (r.bid_is i m);
        copies = sym (r.copies_are i m);
        matched = (r.counts_are i m).plays_are;
        later = λ j' q. r.unmatched i j' m q;
      }

  plan_is : plan_of I ≡ s.plan
  plan_is = ap₂ (λ (k d : ℕ). record { depth = k; width = d }) r.depth_is r.width_is

  module _ (wide : 1 < I.d) where
    pub proper_at : Proper I
    proper_at = record {
      deep = omega (arith, r.depth_is, (plan_sized s.plan facts.plan_sound).deep);
      wide = wide;
      bids = bids;
      budgets = λ i l.
          let c = held_at s facts i (inside i l) in
          pos_of_div-pos (I.b i)
          (omega (arith, r.copies_are i (inside i l), whole_play (campaign s i) c.is_priced c.price_least));
    }

    simulates : All I proper_at j v (campaign s)
    simulates i l =
        let m : i < s.count = inside i l in
        let young : (campaign s i).age < I.k = omega (arith, r.depth_is, (held_at s facts i m).young) in
        record {
          spends = spends i l;
          finished = (r.counts_are i m).turns_are wide;
          young = young;
          current = copy_value I i proper_at.deep wide (bids i l) (proper_at.budgets i l) (v.zᶜ i)
              (campaign s i).age (omega arith) ((r.counts_are i m).age_is wide);
        }

  -- and a view of which question 14 is answered yes
  module _ (w : View) (few : width_holds (head_of s) (found s w) ≡ true) where
    ables : (i : ℕ) → i < I.n
        → feasible_neighbor I v j (names (found s w)) i ≡ able s.plan (found s w) (campaign s) i
    ables i l = able_alike I j i (names (found s w)) v (campaign s i) (spends i l) (bids i l)

    -- at width 1 it finds no two campaigns
    alone : I.d ≤ 1 → (m i : ℕ) → m < i → i < I.n → names (found s w) m ≡ true → names (found s w) i ≡ true → ⊥
    unfolding width_holds
    alone narrow m i l l' p q =
        let one : size (found s w).set ≤ 1 =
        omega (arith, r.width_is, leb-true (size (found s w).set) s.plan.width few) in
        let n : i < 64 = omega (arith, facts.few, inside i l') in
        omega (arith, one_member (found s w).set m i one (omega arith) n p q)

    -- so that line 4 matches the player, whatever is compared
    pub same_player : line_4 I j (names (found s w)) v ≡ player s w
    unfolding line_4 choice
    same_player = go (ltb 1 I.d) refl
      where
        go : (t : Bool) → ltb 1 I.d ≡ t → line_4 I j (names (found s w)) v ≡ player s w
        go true q =
            let wide : 1 < I.d = ltb-true 1 I.d q in
            same_choice I (proper_at wide) j (found s w) v (campaign s) (simulates wide)
            ∙ ap₂ (λ n pl. chosen_of n pl (found s w) (campaign s)) r.count_is plan_is
        go false q =
            best_eq I.n _ _ _ _ ables
            (λ m i l l' a b.
            absurd
            (alone (ltb-false 1 I.d q) m i l l' (both_left (names (found s w) m) _ a)
            (both_left (names (found s w) i) _ b)))
            ∙ ap (λ n. chosen_of n s.plan (found s w) (campaign s)) r.count_is

    -- the price of the one matched is its bid
    pub same_answer : view_answer (offers s w) (player s w) ≡ view_answer I.b (line_4 I j (names (found s w)) v)
    unfolding line_4
    same_answer =
        ap (view_answer (offers s w)) (sym same_player)
        ∙ view_answer_eq I.n (feasible_neighbor I v j (names (found s w))) (offers s w) I.b
        (λ i l. (spends i l).bid)
        (line_4 I j (names (found s w)) v) (best_fits _ _ _)

    after : Variables
    after = lines_3_to_11 I j (names (found s w)) v

    spends_view : (i : ℕ) → i < I.n → Spends I (suc j) i (shown s w i) (after.x i)
    unfolding after lines_3_to_11 line_4
    spends_view i l =
        subst (λ (c : Campaign). Spends I (suc j) i c (after.x i))
        (ap₂
        (λ (k : ℕ) (m : Choice).
        becomes (record { depth = k; width = s.plan.width }) (found s w) i
        (role_of (names (found s w) i) (can_pay (campaign s i)) (is m i)) (campaign s i)) r.depth_is same_player)
        (spends_slot I j i (names (found s w)) v (campaign s i) (spends i l) (bids i l)
        (line_4 I j (names (found s w)) v) (best_fits I.n _ _))

    simulates_view : (wide : 1 < I.d) (i : ℕ) → i < I.n → Simulates I (suc j) after i (shown s w i)
    unfolding after
    simulates_view wide i l =
        subst (λ (c : Campaign). Simulates I (suc j) (lines_3_to_11 I j (names (found s w)) v) i c)
        (ap₂ (λ n pl. viewed n pl (found s w) (campaign s) i) r.count_is plan_is)
        (same_step I (proper_at wide) j (found s w) v (campaign s) (simulates wide) i l)

    counts_view : (i : ℕ) → i < I.n → Represents I (suc j) after i (shown s w i)
    counts_view i l =
        let at : (wide : 1 < I.d) → Represents I (suc j) after i (shown s w i) =
        λ wide.
        simulates_represents I (proper_at wide) (suc j) after i (shown s w i) l (simulates_view wide i l) in
        record {
          plays_are = (spends_view i l).matched;
          age_is = λ wide. (at wide).age_is wide;
          turns_are = λ wide. (at wide).turns_are wide;
          quantity_is = λ wide. (at wide).quantity_is wide;
        }

    pub same_state : RepresentsState I (suc j) (lines_3_to_11 I j (names (found s w)) v) (result s (show_view w)).day
    unfolding after
    same_state = record {
      depth_is = r.depth_is;
      width_is = r.width_is;
      count_is = r.count_is;
      bid_is = λ i l. sym (new i l).bid;
      copies_are = λ i l. sym (new i l).copies;
      counts_are = λ i l. subst⁻¹ (Represents I (suc j) after i) (here i l) (counts_view i (back i l));
      unmatched = λ i j' l q. (new i l).later j' q;
    }
      where
        back : (i : ℕ) → i < s.count → i < I.n
        back i l = omega (arith, r.count_is)

        here : (i : ℕ) → i < s.count → campaign (result s (show_view w)).day i ≡ shown s w i
        here i l = campaign_of_state (head_shown s) (shown s w) i (omega (arith, facts.few))

        new : (i : ℕ) → i < s.count → Spends I (suc j) i (campaign (result s (show_view w)).day i) (after.x i)
        new i l = subst⁻¹ (λ (c : Campaign). Spends I (suc j) i c (after.x i)) (here i l) (spends_view i (back i l))

pub one_slot : OneSlot
one_slot s e I j v r w a =
    let accepted = eqb-true (number (call s (show_view w)).answer) 0 a in
    let yes = asked_yes s (show_view w) (first_failed (questions s (show_view w))) refl
    (sym (call_number s (show_view w)) ∙ accepted) in
    let few = yes.1.1.1.1.0 in
    subst⁻¹
    (λ (o : Outcome).
    (o.answer ≡ view_answer I.b (line_4 I j (names (found s w)) v))
    × RepresentsState I (suc j) (lines_3_to_11 I j (names (found s w)) v) o.day)
    (accepted_result s (show_view w) accepted)
    (same_answer s e I j v r w few, same_state s e I j v r w few)

-- of the first j slots, the first p are matched
first_slots : (j p : ℕ) → sum j (λ j'. one_if (ltb j' p)) ≡ min j p
unfolding sum
first_slots zero p = omega arith
first_slots (suc j) p = go (ltb j p) refl (first_slots j p)
  where
    go : (b : Bool) → ltb j p ≡ b → sum j (λ j'. one_if (ltb j' p)) ≡ min j p
        → sum j (λ j'. one_if (ltb j' p)) + one_if b ≡ min (suc j) p
    go true e q = omega (arith, q, ltb-true j p e)
    go false e q = omega (arith, q, ltb-false j p e)

-- the variables of a sound state
module _ (B : Terms → ℕ) (buys : BuysAlike B) (s : Day) (e : sound s ≡ true) where
  I : Instance
  I = instance_at B s

  v : Variables
  unfolding I
  v = variables_at I s

  module _ (i : ℕ) (l : i < s.count) where
    held : Held s.plan s.accepted (campaign s i)
    held = held_at s (sound_facts s e) i l

    deep : 0 < s.plan.depth
    deep = omega (arith, held.young)

    budget_positive : 0 < I.B i
    unfolding I whole
    budget_positive =
        pos_of_div-pos (campaign s i).price
        (omega (arith, whole_play (campaign s i) held.is_priced held.price_least, buys (terms_at s i)))

    counts : Represents I s.accepted v i (campaign s i)
    unfolding I v
    counts =
        let c = campaign s i in
        let same : 1 < I.d → copy I i c.age ≈ copy I i c.age =
        λ wide.
        let proper : 0 < (copy I i c.age).denominator =
        copy_proper I i deep wide held.price_least budget_positive c.age in
        record { left = proper; right = proper; cross = refl } in
        let young : c.age ≤ I.k = omega (arith, held.young) in
        record {
          plays_are = first_slots s.accepted c.plays
              ∙ omega (arith, held.plays_turns, held.turns_named, held.named_accepted);
          age_is = same;
          turns_are = λ _. record {
            left = omega (arith, budget_positive);
            right = omega (arith, budget_positive);
            cross = refl;
          };
          quantity_is = λ wide.
              value_quantity I deep wide v i c.age young
              (copy_value I i deep wide held.price_least budget_positive (copy I i c.age) c.age young
              (same wide));
        }

    later : (j : ℕ) → s.accepted ≤ j → one_if (ltb j (campaign s i).plays) ≡ 0
    later j q =
        ap one_if
        (le-ltb j (campaign s i).plays (omega (arith, held.plays_turns, held.turns_named, held.named_accepted)))

  represents : RepresentsState (instance_at B s) s.accepted (variables_at (instance_at B s) s) s
  unfolding I v whole
  represents = record {
    depth_is = refl;
    width_is = refl;
    count_is = refl;
    bid_is = λ i l. refl;
    copies_are = λ i l. buys (terms_at s i);
    counts_are = counts;
    unmatched = λ i j l q. later i l j q;
  }

pub represented : Represented
represented B buys s e = represents B buys s e

made_up_sound : sound made_up ≡ true
unfolding sound sound_record sound_plan sound_campaign priced counted uncounted empty weight share whole claim sum
    every table within member collect without
made_up_sound = refl

made_up_answered : (call made_up (show_view both)).answer ≡ Played 1 3
unfolding call first_failed sound sound_record sound_plan sound_campaign priced counted uncounted empty weight share
    whole claim sum count every table width_holds size within member choice best collect without including marked
made_up_answered = refl

made_up_matched : line_4 made_up_instance 5 (names (found made_up both)) (variables_at made_up_instance made_up)
    ≡ plays 1
unfolding line_4 feasible C best member sum table collect without
made_up_matched = refl

-- so the theorem speaks of this state
pub made_up_agrees : MadeUp
made_up_agrees =
    let r : RepresentsState made_up_instance 5 (variables_at made_up_instance made_up) made_up =
    represented (λ t. t.budget) budget_buys made_up made_up_sound in
    record {
      is_sound = made_up_sound;
      answered = made_up_answered;
      matched = made_up_matched;
      after =
          (one_slot made_up made_up_sound made_up_instance 5 (variables_at made_up_instance made_up) r both
          (rw made_up_answered)).1;
    }
