-- What an accepted call does. Rule 1 is what is proved of the choice, with the tests of `View` read as propositions;
-- rules 2 to 4 go by the role of a campaign, which its tests decide.
use mathlib.Core.Path.{◌≡◌, refl, sym, ap, ◌∙◌, subst, subst⁻¹}
use mathlib.Core.Bool.{Bool, true, false, not, ◌&&◌, not-eq-not}
use mathlib.Core.Logic.{inl, inr}
use Prim.Native.Nat.{ℕ, ◌+◌, ◌*◌, ◌<◌}
use native.Mathlib.Omega.{arith}
use lib.Dec.{leb, eqb}
use borrow.Author.Tests.{not-true, leb-true, le-leb, ltb-true, eqb-true, eq-eqb, ne_eqb}
use Rattle.finite.proofs.Tests.{never, both_left, both_right, both_join}
use Rattle.powers.specs.Power.{weight, share}
use Rattle.sets.specs.Set.{member, within}
use Rattle.sets.proofs.Algebra.{without_member}
use Rattle.sets.proofs.Bounds.{within_member}
use Rattle.campaigns.specs.declared.View.{View}
use Rattle.campaigns.specs.Choice.{Choice, is, role_of}
use Rattle.campaigns.specs.Choice.Choice.{nobody, plays}
use Rattle.campaigns.specs.Campaign.{can_pay, claim, aged, after, fresh}
use Rattle.campaigns.specs.View.{names, able, figure}
use Rattle.campaigns.proofs.Laws.{plays_below}
use Rattle.campaigns.proofs.Meanings.{filling_means, running_means}
use Rattle.day.specs.declared.Answer.{Answer}
use Rattle.day.specs.declared.Answer.TheVariants.{Refused, Done, Played, Nobody, Tallied, Closing}
use Rattle.day.specs.declared.Day.{Day}
use Rattle.day.specs.declared.Outcome.{Outcome}
use Rattle.day.specs.Day.{head_of, campaign, no_terms, total_takings, total_claim}
use Rattle.day.specs.Calls.{number, Call, questions, found, player, offers, shown, view_answer, result}
use Rattle.day.specs.Calls.{head_shown, head_joined, with_campaign}
use Rattle.day.specs.Calls.Call.{open_plan, add_campaign, start_day, show_view, ask_tally, close_day, mark_campaign}
use Rattle.day.proofs.Questions.{Yes, call_elim}
use Rattle.day.proofs.State.{Sound, sound_facts, held_at, campaign_of_state}
use Rattle.demands.specs.Choice.{Right}
use Rattle.demands.specs.Effects.{Named, Pays, Rule1, counting, Rules2To4, Does, AlwaysDoes}
use Rattle.demands.proofs.Choice.{player_right}
use Rattle.demands.proofs.Marks.{marks_one}
use Rattle.demands.proofs.States.{with_campaign_old, with_campaign_new}

-- who plays, by the answer: one more than its number, or 0
abbrev who : Answer → ℕ
who (Refused q) = 0
who Done = 0
who (Played m p) = m + 1
who Nobody = 0
who (Tallied p t a n) = 0
who (Closing t c f) = 0

-- the answer names the one that is chosen
played_is : (x : ℕ → ℕ) (ch : Choice) (i p : ℕ) → view_answer x ch ≡ Played i p → is ch i ≡ true
played_is x nobody i p e = let z : 0 ≡ i + 1 = ap who e in absurd (omega (arith, z))
played_is x (plays m) i p e = let z : m + 1 ≡ i + 1 = ap who e in eq-eqb i m (omega (arith, z))

not_played : (x : ℕ → ℕ) (ch : Choice) (i : ℕ) → ((p : ℕ) → view_answer x ch ≡ Played i p → ⊥) → is ch i ≡ false
not_played x nobody i n = refl
not_played x (plays m) i n = ne_eqb i m (λ e. n (x m) (ap (λ (j : ℕ). Played j (x m)) (sym e)))

-- A view that is accepted.
module _ (s : Day) (h : Sound s) (w : View) (inside : within s.count w.set ≡ true) where
  abbrev v : View
  v = found s w

  named_of : (i : ℕ) → i < 64 → names v i ≡ true → Named s w i
  named_of i l e =
      let m = member w.set i in
      let b : (m && not (member s.paused i)) ≡ true = sym (without_member w.set s.paused i l) ∙ e in
      (both_left m _ b, not-true (member s.paused i) (both_right m _ b))

  names_of : (i : ℕ) → i < 64 → Named s w i → names v i ≡ true
  names_of i l n = without_member w.set s.paused i l ∙ rw (n.0, n.1)

  below : (i : ℕ) → i < 64 → Named s w i → i < s.count
  below i l n = within_member s.count w.set i inside l n.0

  pays_is : (i : ℕ) → i < s.count → leb ((campaign s i).price * ((campaign s i).plays + 1)) (campaign s i).budget
      ≡ can_pay (campaign s i)
  pays_is i l = plays_below (campaign s i) (held_at s h i l).price_least

  able_of : (i : ℕ) → i < 64 → Named s w i → Pays (campaign s i) → able s.plan v (campaign s) i ≡ true
  able_of i l n p =
      both_join _ _ (names_of i l n) (sym (pays_is i (below i l n)) ∙ le-leb _ _ p)

  rule_1 : (ch : Choice)
      → Right s.count (able s.plan v (campaign s)) (λ i. figure s.plan v i (campaign s i)) ch
      → Rule1 s w (view_answer (offers s w) ch)
  unfolding weight
  rule_1 nobody r = inl (refl, λ j l n p. never _ (r j (below j l n)) (able_of j l n p))
  rule_1 (plays m) b =
      let l : m < 64 = omega (arith, b.below, h.few) in
      let n = named_of m l (both_left (names v m) _ b.is_able) in
      inr (
        m,
        offers s w m,
        refl,
        record {
          below = b.below;
          named = n;
          pays = leb-true _ _ (pays_is m b.below ∙ both_right (names v m) _ b.is_able);
          price_is = refl;
          greatest = λ j k o p. b.top j (below j k o) (able_of j k o p);
          lowest = λ j k o p. b.lowest j k (able_of j (omega (arith, k, l)) o p);
        },
      )

  -- the role of campaign i, by its tests
  in_role : (i : ℕ) (n p q : Bool) → names v i ≡ n → can_pay (campaign s i) ≡ p → is (player s w) i ≡ q
      → shown s w i ≡ after s.plan.depth (role_of n p q) (campaign s i)
  in_role i n p q e f g = rw (e, f, g)

  rules_2_to_4 : (i : ℕ) → i < 64
      → Rules2To4 s w (view_answer (offers s w) (player s w)) i (campaign s i) (shown s w i)
  rules_2_to_4 i l = record {
    unnamed = λ n. absent ((not-eq-not {b = false}).0 (λ e. n (named_of i l e)));
    player = λ p e. won (played_is (offers s w) (player s w) i p e);
    spent = λ n p. in_role i true false _ (names_of i l n)
        (sym (pays_is i (below i l n)) ∙ (not-eq-not {b = false}).0 (λ e. p (leb-true _ _ e))) refl;
    older = λ n p o d. passed n p o ∙ ap (λ (b : Bool). aged b (campaign s i)) (ne_eqb _ _ d);
    turned = λ n p o d. passed n p o ∙ ap (λ (b : Bool). aged b (campaign s i)) (eq-eqb _ _ d);
  }
    where
      absent : names v i ≡ false → shown s w i ≡ campaign s i
      absent e = in_role i false _ _ e refl refl

      passed : Named s w i → Pays (campaign s i)
          → ((p : ℕ) → view_answer (offers s w) (player s w) ≡ Played i p → ⊥)
          → shown s w i ≡ aged (eqb ((campaign s i).age + 1) s.plan.depth) (campaign s i)
      passed n p o =
          in_role i true true false (names_of i l n) (sym (pays_is i (below i l n)) ∙ le-leb _ _ p)
          (not_played (offers s w) (player s w) i o)

      won : is (player s w) i ≡ true
          → shown s w i ≡ counting (campaign s i) ((campaign s i).plays + 1) ((campaign s i).turns + 1) 0
          ((campaign s i).named + 1)
      won e = go (player s w) refl (player_right s w)
        where
          go : (ch : Choice) → player s w ≡ ch
              → Right s.count (able s.plan v (campaign s)) (λ j. figure s.plan v j (campaign s j)) ch
              → shown s w i ≡ counting (campaign s i) ((campaign s i).plays + 1) ((campaign s i).turns + 1) 0
              ((campaign s i).named + 1)
          go nobody q r = absurd (never (is (player s w) i) (ap (λ (c : Choice). is c i) q) e)
          go (plays m) q b =
              let z : i ≡ m = eqb-true i m (sym (ap (λ (c : Choice). is c i) q) ∙ e) in
              let a = subst (λ (j : ℕ). able s.plan v (campaign s) j ≡ true) (sym z) b.is_able in
              in_role i true true true (both_left (names v i) _ a) (both_right (names v i) _ a) e

-- Each call.

does : (s : Day) (c : Call) → Yes (questions s c) → Does c s (result s c).answer (result s c).day
unfolding total_takings total_claim claim share weight
does s (open_plan pl) y =
    (refl, refl, campaign_of_state (head_of (result s (open_plan pl)).day) (λ j. fresh no_terms))
does s (add_campaign t) (e1, (e6, (e7, y))) = (
  refl,
  rw ((filling_means s.phase).0 e6) refl,
  campaign_of_state (head_joined s) (with_campaign s t) s.count (ltb-true s.count 64 e7) ∙ with_campaign_new s t,
  λ i l n. campaign_of_state (head_joined s) (with_campaign s t) i l ∙ with_campaign_old s t i n,
)
does s start_day y = (refl, refl, λ i l. refl)
does s (show_view w) (e1, (e11, (e12, (e13, y)))) =
    let h = sound_facts s e1 in (
      rule_1 s h w e13 (player s w) (player_right s w),
      rw ((running_means s.phase).0 e11) refl,
      λ i l. subst⁻¹ (Rules2To4 s w (view_answer (offers s w) (player s w)) i (campaign s i))
          (campaign_of_state (head_shown s) (shown s w) i l) (rules_2_to_4 s h w e13 i l),
    )
does s (ask_tally i) y = (refl, refl)
does s close_day y = (refl, refl, λ i l. refl)
does s (mark_campaign b i) y = (refl, refl, λ j l. marks_one b i s.paused j l, λ j l. refl)

-- an accepted call has its questions answered yes
pub always_does : AlwaysDoes
always_does s c e =
    call_elim (λ (o : Outcome). number o.answer ≡ 0 → Does c s o.answer o.day) s c
    (λ q z. absurd (omega (arith, z))) (λ y z. does s c y) e
