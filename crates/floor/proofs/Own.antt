-- The day's own answers are an allotment of its views. What every list of calls keeps between its day and its state
-- (`Answered`): beside each view stands its answer; who played it is nobody or a campaign that the view found; and
-- each campaign has as many plays as views that it played. Plays change only at an accepted view, where the player's
-- grow by one, and an accepted opening begins with none. That no campaign is given more than its whole plays is then
-- the state's soundness, and the takings are price × plays.
use mathlib.Core.Path.{◌≡◌, refl, ap, ap₂, sym, ◌∙◌, subst}
use mathlib.Core.Bool.{Bool, true, false, ◌&&◌}
use mathlib.Core.List.{List, [], ◌∷◌, ◌++◌}
use mathlib.Core.Logic.{◌⊎◌, inl, inr}
use Prim.Native.Nat.{ℕ, suc, ◌+◌, ◌*◌, ◌≤◌, ◌<◌}
use native.Mathlib.Nat.{lt_of_lt_of_le, not-suc-le-zero}
use native.Mathlib.Omega.{arith}
use lib.Dec.{eqb}
use lib.ListN.{get_or, length, length-append, get_or-append}
use lib.Seq.{get_or-append_seam}
use borrow.Author.Tests.{eqb-true, eqb-false, eq-eqb, ne_eqb, ltb-true}
use Rattle.finite.specs.Finite.{sum, one_if, count}
use Rattle.finite.proofs.Tests.{never, both_left, one_more}
use Rattle.finite.proofs.Sums.{sum_eq, sum_zero, count_suc}
use Rattle.sets.specs.Set.{member}
use Rattle.allotments.specs.Allotment.{times}
use Rattle.allotments.proofs.Takings.{by_campaign}
use Rattle.campaigns.specs.declared.Campaign.{Campaign}
use Rattle.campaigns.specs.declared.Head.{Head}
use Rattle.campaigns.specs.declared.Phase.{Phase}
use Rattle.campaigns.specs.declared.Phase.TheVariants.{Filling, Closed}
use Rattle.campaigns.specs.declared.Plan.{Plan}
use Rattle.campaigns.specs.declared.Terms.{Terms}
use Rattle.campaigns.specs.declared.View.{View}
use Rattle.campaigns.specs.Choice.{Choice, is, role_of}
use Rattle.campaigns.specs.Choice.Choice.{nobody, plays}
use Rattle.campaigns.specs.Campaign.{spending, after}
use Rattle.campaigns.specs.View.{names, pays, figure}
use Rattle.day.specs.declared.Answer.{Answer}
use Rattle.day.specs.declared.Answer.TheVariants.{Done, Nobody}
use Rattle.day.specs.declared.Day.{Day}
use Rattle.day.specs.Day.{campaign, state_with, empty_plan, blank_plan, blank, total_takings}
use Rattle.day.specs.Calls.{Call, questions, with_campaign, player, offers, shown, view_answer, result}
use Rattle.day.specs.Calls.{found, head_joined, head_shown}
use Rattle.day.specs.Calls.Call.{open_plan, add_campaign, start_day, show_view, ask_tally, close_day, mark_campaign}
use Rattle.day.proofs.Questions.{Yes}
use Rattle.day.proofs.State.{Sound, sound_facts, held_at, campaign_of_state}
use Rattle.demands.specs.Choice.{Right}
use Rattle.demands.specs.Transcript.{transcript, final}
use Rattle.demands.proofs.Choice.{player_right}
use Rattle.demands.proofs.States.{with_campaign_old, with_campaign_new}
use Rattle.demands.proofs.OnePrice.{by_play}
use Rattle.floor.specs.History.{Starts, History, day_takings, opening, with_call}
use Rattle.floor.specs.History.{history}
use Rattle.floor.specs.Floor.{price_of, no_view, names_at, Allotted, takings_of}
use Rattle.floor.specs.Own.{player_in, own_allotment, OwnAllotted}
use Rattle.floor.proofs.Reach.{with_view, view_found, Reached, reached, of_every_reached, whole_is}

-- nobody, or a campaign of the set v
abbrev OneOf : (v x : ℕ) → Type 0
OneOf v x = (x ≡ 64) ⊎ (member v x ≡ true)

-- the answers of the day h stand beside its views, and the state s counts them
record Answered (s : Day) (h : History) : Type 0 where
  beside : length h.answers ≡ length h.views
  given : (j : ℕ) → j < length h.views → OneOf (names_at h j) (own_allotment h j)
  counted : (i : ℕ) → i < s.count → times (length h.views) (own_allotment h) i ≡ (campaign s i).plays

answered_opening : (p : Phase) (pl : Plan) → Answered (empty_plan p pl) (opening pl)
answered_opening p pl = record {
  beside = refl;
  given = λ j l. absurd (not-suc-le-zero l);
  counted = λ i l. absurd (not-suc-le-zero l);
}

answered_blank : Answered blank (opening blank_plan)
unfolding blank
answered_blank = answered_opening (Closed 0) blank_plan

-- one answer more
module _ (xs : List Answer) (a : Answer) where
  old_answer : (j : ℕ) → j < length xs → get_or (xs ++ (a ∷ [])) j Nobody ≡ get_or xs j Nobody
  old_answer j l = get_or-append xs (a ∷ []) Nobody j l

  new_answer : (n : ℕ) → length xs ≡ n → get_or (xs ++ (a ∷ [])) n Nobody ≡ a
  new_answer n e = subst (λ (m : ℕ). get_or (xs ++ (a ∷ [])) m Nobody ≡ a) e (get_or-append_seam xs a [] Nobody)

  times_more : (n i : ℕ) → length xs ≡ n → times (suc n) (λ j. player_in (get_or (xs ++ (a ∷ [])) j Nobody)) i
      ≡ times n (λ j. player_in (get_or xs j Nobody)) i + one_if (eqb (player_in a) i)
  unfolding times count
  times_more n i e =
      count_suc n (λ j. eqb (player_in (get_or (xs ++ (a ∷ [])) j Nobody)) i)
      ∙ ap₂ ◌+◌
      (sum_eq n (λ j. one_if (eqb (player_in (get_or (xs ++ (a ∷ [])) j Nobody)) i))
      (λ j. one_if (eqb (player_in (get_or xs j Nobody)) i))
      (λ j l. ap (λ (b : Answer). one_if (eqb (player_in b) i)) (old_answer j (omega arith))))
      (ap (λ (b : Answer). one_if (eqb (player_in b) i)) (new_answer n e))

-- a view adds one play to the player alone
module _ (k : ℕ) (c : Campaign) where
  plays_after : (m e q : Bool) → (q ≡ true → (m && e) ≡ true)
      → (after k (role_of m e q) c).plays ≡ c.plays + one_if q
  plays_after = by_play k c (λ x. x.plays) one_if refl refl refl refl refl

-- the answer to a view names the one that plays
answer_is : (offer : ℕ → ℕ) (ch : Choice) (i : ℕ) → i < 64 → eqb (player_in (view_answer offer ch)) i ≡ is ch i
answer_is offer nobody i l = ne_eqb 64 i (λ e. omega arith)
answer_is offer (plays m) i l = go (eqb i m) refl
  where
    go : (b : Bool) → eqb i m ≡ b → eqb m i ≡ b
    go true e = eq-eqb m i (sym (eqb-true i m e))
    go false e = ne_eqb m i (λ q. eqb-false i m e (sym q))

-- which is nobody, or one of the set v that can pay
module _ (n v : ℕ) (pay : ℕ → Bool) (figure offer : ℕ → ℕ) where
  answer_given : (ch : Choice) → Right n (λ i. member v i && pay i) figure ch
      → OneOf v (player_in (view_answer offer ch))
  answer_given nobody r = inl refl
  answer_given (plays m) r = inr (both_left (member v m) (pay m) r.is_able)

  player_able : (ch : Choice) → Right n (λ i. member v i && pay i) figure ch → (i : ℕ) → is ch i ≡ true
      → (member v i && pay i) ≡ true
  player_able nobody r i e = absurd (never false refl e)
  player_able (plays m) r i e = ap (λ (j : ℕ). member v j && pay j) (eqb-true i m e) ∙ r.is_able

same_one : {v v' x x' : ℕ} → v ≡ v' → x ≡ x' → OneOf v' x' → OneOf v x
same_one {v} {v'} {x} {x'} e f g =
    subst (λ (y : ℕ). OneOf v y) (sym f) (subst (λ (u : ℕ). OneOf u x') (sym e) g)

plays_held : (h : Head) (f : ℕ → Campaign) (i : ℕ) → i < 64 → (campaign (state_with h f) i).plays ≡ (f i).plays
plays_held h f i l = ap (λ (c : Campaign). c.plays) (campaign_of_state h f i l)

none_given : (to : ℕ → ℕ) (i : ℕ) → times 0 to i ≡ 0
unfolding times count
none_given to i = sum_zero (λ j. one_if (eqb (to j) i))

module _ (s : Day) (h : History) (r : Reached s h) (o : Answered s h) where
  p : Sound s
  p = sound_facts s r.is_sound

  -- a campaign more, before any view
  answered_add : (t : Terms) (a : Answer) → Yes (questions s (add_campaign t))
      → Answered (result s (add_campaign t)).day (with_call h (add_campaign t) a)
  answered_add t a y =
      let room : s.count < 64 = ltb-true s.count 64 y.1.1.0 in
      let few : s.count + 1 ≤ 64 = omega arith in
      record {
        beside = o.beside;
        given = o.given;
        counted =
            λ i l.
            one_more (λ j. times (length h.views) (own_allotment h) j ≡ (with_campaign s t j).plays) s.count
            old new i (omega arith)
            ∙ sym (plays_held (head_joined s) (with_campaign s t) i (lt_of_lt_of_le l few));
      }
    where
      old : (j : ℕ) → j < s.count → times (length h.views) (own_allotment h) j ≡ (with_campaign s t j).plays
      old j l = o.counted j l ∙ sym (ap (λ (c : Campaign). c.plays) (with_campaign_old s t j (λ q. omega arith)))

      new : times (length h.views) (own_allotment h) s.count ≡ (with_campaign s t s.count).plays
      new =
          ap (λ (vs : List View). times (length vs) (own_allotment h) s.count) (r.tracks.unviewed y.1.0)
          ∙ none_given (own_allotment h) s.count ∙ sym (ap (λ (c : Campaign). c.plays) (with_campaign_new s t))

  module _ (w : View) where
    v : View
    v = found s w

    a : Answer
    a = view_answer (offers s w) (player s w)

    -- the day with a view more that found v
    more : History
    more = with_view h v a

    pay : ℕ → Bool
    pay i = pays s.plan v i (campaign s i)

    compared : ℕ → ℕ
    compared i = figure s.plan v i (campaign s i)

    -- one view more for the player
    counted_view : (i : ℕ) → i < s.count → times (suc (length h.views)) (own_allotment more) i ≡ (shown s w i).plays
    unfolding v a more pay compared
    counted_view i l =
        omega (
          arith,
          times_more h.answers a (length h.views) i o.beside,
          o.counted i l,
          ap one_if (answer_is (offers s w) (player s w) i (lt_of_lt_of_le l p.few)),
          plays_after s.plan.depth (campaign s i) (names v i) (pay i) (is (player s w) i)
              (player_able s.count v.set pay compared (offers s w) (player s w) (player_right s w) i),
        )

    given_old : (j : ℕ) → j < length h.views → OneOf (names_at more j) (own_allotment more j)
    unfolding more
    given_old j l =
        same_one (ap (λ (u : View). u.set) (get_or-append h.views (v ∷ []) no_view j l))
        (ap player_in (old_answer h.answers a j (omega (arith, o.beside)))) (o.given j l)

    given_new : OneOf (names_at more (length h.views)) (own_allotment more (length h.views))
    unfolding v a more pay compared
    given_new =
        same_one (ap (λ (u : View). u.set) (get_or-append_seam h.views v [] no_view))
        (ap player_in (new_answer h.answers a (length h.views) o.beside))
        (answer_given s.count v.set pay compared (offers s w) (player s w) (player_right s w))

    answered_more : Answered (result s (show_view w)).day more
    unfolding more
    answered_more =
        let longer : length (h.views ++ (v ∷ [])) ≡ suc (length h.views) =
        length-append h.views (v ∷ []) ∙ omega arith in
        record {
          beside = omega (arith, length-append h.answers (a ∷ []), longer, o.beside);
          given =
              λ j l.
              one_more (λ i. OneOf (names_at more i) (own_allotment more i)) (length h.views) given_old given_new j
              (omega arith);
          counted =
              λ i l.
              ap (λ (n : ℕ). times n (own_allotment more) i) longer ∙ counted_view i l
              ∙ sym (plays_held (head_shown s) (shown s w) i (lt_of_lt_of_le l p.few));
        }

    answered_view : Answered (result s (show_view w)).day (with_call h (show_view w) a)
    unfolding v more
    answered_view = subst (Answered (result s (show_view w)).day) (view_found s h r.tracks w a) answered_more

  answered_result : (c : Call) → Yes (questions s c) → Answered (result s c).day (with_call h c (result s c).answer)
  unfolding a
  answered_result (open_plan pl) y = answered_opening Filling pl
  answered_result (add_campaign t) y = answered_add t Done y
  answered_result start_day y = record { beside = o.beside; given = o.given; counted = o.counted }
  answered_result (show_view w) y = answered_view w
  answered_result (ask_tally i) y = o
  answered_result close_day y = record { beside = o.beside; given = o.given; counted = o.counted }
  answered_result (mark_campaign b i) y = record { beside = o.beside; given = o.given; counted = o.counted }

-- what holds at the end of every list
answered : (s : Day) (cs : List Call) → Starts s cs → Answered (final s cs) (history (transcript s cs))
answered = of_every_reached Answered answered_blank (λ s pl y. answered_opening Filling pl) answered_result

module _ (s : Day) (h : History) (r : Reached s h) (o : Answered s h) where
  own_allotted_of : Allotted h (own_allotment h)
  own_allotted_of = record {
    given = o.given;
    bought = λ i l.
        let k : i < s.count = omega (arith, r.tracks.many) in
        omega (
          arith,
          o.counted i k,
          (held_at s (sound_facts s r.is_sound) i k).within_whole,
          whole_is s h r i k,
        );
  }

  -- price × views given is price × plays
  own_takings : takings_of h (price_of h) (own_allotment h) ≡ day_takings h
  unfolding total_takings
  own_takings =
      by_campaign (length h.terms) (price_of h) (length h.views) (own_allotment h)
      ∙ ap (λ (n : ℕ). sum n (λ i. price_of h i * times (length h.views) (own_allotment h) i)) r.tracks.many
      ∙ sum_eq s.count (λ i. price_of h i * times (length h.views) (own_allotment h) i)
      (λ i. spending (campaign s i))
      (λ i l. ap₂ ◌*◌ (sym (r.tracks.follows i l).price_is) (o.counted i l))
      ∙ r.tracks.paid_is

pub own_allotted : OwnAllotted
own_allotted s cs st =
    let h = history (transcript s cs) in
    let r = reached s cs st in
    let o = answered s cs st in
    record {
      allotted = own_allotted_of (final s cs) h r o;
      takings_are = own_takings (final s cs) h r o;
      plays_are = o.counted;
    }
