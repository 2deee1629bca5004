-- The state's allotments of the day's views are demand 3's. The greatest takings fall into those of the campaigns that
-- fall short and those of the others, and demand 3 covers the latter.
use mathlib.Core.Path.{◌≡◌, refl, ap, sym, ◌∙◌, subst, subst⁻¹}
use mathlib.Core.Bool.{Bool, true, false, cond, ◌&&◌}
use mathlib.Core.List.{List, [], ◌∷◌, map}
use mathlib.Core.Logic.{◌⊎◌}
use Prim.Native.Nat.{ℕ, zero, suc, ◌+◌, ◌-◌, ◌*◌, ◌≤◌, ◌<◌}
use native.Mathlib.Omega.{arith}
use lib.Dec.{leb}
use lib.ListN.{length, get_or, length-map}
use borrow.Author.Tests.{le-leb}
use Rattle.finite.specs.Finite.{every}
use Rattle.finite.proofs.Tests.{never, every_of}
use Rattle.sets.specs.Set.{member, within}
use Rattle.powers.specs.Power.{share}
use Rattle.allotments.specs.Allotment.{at, times, Allotment, takings}
use Rattle.allotments.proofs.Takings.{takings_eq, takings_add}
use Rattle.allotments.proofs.Attained.{most_is_most}
use Rattle.campaigns.specs.declared.View.{View}
use Rattle.campaigns.specs.Campaign.{whole}
use Rattle.campaigns.specs.View.{full}
use Rattle.day.specs.declared.Day.{Day}
use Rattle.day.specs.Day.{sound}
use Rattle.questions.specs.Questions.{first_failed}
use Rattle.day.proofs.State.{sound_facts}
use Rattle.demands.specs.Transcript.{transcript, final}
use Rattle.floor.specs.History.{History, day_takings, history}
use Rattle.floor.specs.Floor.{price_of, whole_of, falls_short, unstruck, no_view, Allotted, takings_of}
use Rattle.floor.specs.Floor.{Covered, Floor}
use Rattle.floor.specs.Own.{own_allotment}
use Rattle.floor.proofs.Reach.{Reached, reached}
use Rattle.floor.proofs.Floor.{demand_3}
use Rattle.floor.proofs.Own.{own_allotted}
use Rattle.allotments.specs.Limits.{max_handed_in}
use Rattle.optimum.specs.Optimum as optimum
use Rattle.optimum.specs.Optimum.{failed, most_of, checked}
use Rattle.std.specs.Prelude.{Ok}
use Rattle.optimum.proofs.Greatest.{accepted_is_best, search_accepted}
use Rattle.floor.specs.History.{own_views}
use Rattle.hindsight.specs.Hindsight.{given_short, TakesMost, AgainstGreatest, GreatestFigure}
use Rattle.hindsight.specs.Hindsight.{FloorAgainstGreatest, AlwaysGreatest, TakingsAtMost}
use Rattle.hindsight.specs.Hindsight.{FloorAgainstAccepted, OwnViewsTaken, Room, FloorAgainstSearched}

-- the day's views, as a list of sets
own_at : (vs : List View) (j : ℕ) → at (map (λ w. w.set) vs) j ≡ (get_or vs j no_view).set
own_at [] j = refl
own_at (v ∷ vs) zero = refl
own_at (v ∷ vs) (suc j) = own_at vs j

own_length : (h : History) → length (own_views h) ≡ length h.views
own_length h = length-map h.views (λ (w : View). w.set)

-- a price is either struck out or not
two_parts : (h : History) (i : ℕ) → price_of h i ≡ unstruck h i + cond (falls_short h i) (price_of h i) 0
two_parts h i = go (falls_short h i)
  where
    go : (b : Bool) → price_of h i ≡ cond b 0 (price_of h i) + cond b (price_of h i) 0
    go true = omega arith
    go false = omega arith

module _ (s : Day) (h : History) (r : Reached s h) where
  -- what the state's plan says is what the history says
  price_is : (i : ℕ) → i < s.count → optimum.plan_price s i ≡ price_of h i
  price_is i l = (r.tracks.follows i l).price_is

  whole_is : (i : ℕ) → i < s.count → optimum.plan_whole s i ≡ whole_of h i
  unfolding whole
  whole_is i l = cc ((r.tracks.follows i l).price_is, (r.tracks.follows i l).budget_is)

  few_campaigns : s.count ≤ 64
  few_campaigns = (sound_facts s r.is_sound).few

  -- an allotment of the day's views, said of the state and of the history, and its takings
  OfState : (ℕ → ℕ) → Type 0
  OfState to = Allotment s.count (optimum.plan_whole s) (length (own_views h)) (at (own_views h)) to

  module _ (to : ℕ → ℕ) where
    same_times : (i : ℕ) → times (length (own_views h)) to i ≡ times (length h.views) to i
    same_times i = ap (λ (m : ℕ). times m to i) (own_length h)

    of_history : Allotted h to → OfState to
    unfolding OfState
    of_history al = record {
      given = λ j l. subst⁻¹ (λ (v : ℕ). (to j ≡ 64) ⊎ (member v (to j) ≡ true)) (own_at h.views j)
          (al.given j (omega (arith, own_length h)));
      bought = λ i l. omega (
        arith,
        al.bought i (omega (arith, r.tracks.many)),
        whole_is i l,
        same_times i,
      );
    }

    of_state : OfState to → Allotted h to
    unfolding OfState
    of_state al = record {
      given = λ j l. subst (λ (v : ℕ). (to j ≡ 64) ⊎ (member v (to j) ≡ true)) (own_at h.views j)
          (al.given j (omega (arith, own_length h)));
      bought = λ i l.
          let k : i < s.count = omega (arith, r.tracks.many) in
          omega (arith, al.bought i k, whole_is i k, same_times i);
    }

    same_takings : takings s.count (optimum.plan_price s) (length (own_views h)) to ≡ takings_of h (price_of h) to
    same_takings =
        takings_eq s.count (optimum.plan_price s) (price_of h) (length (own_views h)) to price_is
        ∙ ap (λ (m : ℕ). takings s.count (price_of h) m to) (own_length h)
        ∙ ap (λ (n : ℕ). takings n (price_of h) (length h.views) to) (sym r.tracks.many)

    taken_of : OfState to
        → takings s.count (optimum.plan_price s) (length (own_views h)) to ≡ most_of s (own_views h)
        → TakesMost h s to
    taken_of al e = record { allotted = of_state al; takes_most = sym same_takings ∙ e }

    -- the greatest takings fall into those of the campaigns that fall short and those of the others
    split : TakesMost h s to → most_of s (own_views h) ≡ takings_of h (unstruck h) to + given_short h to
    split t =
        sym t.takes_most
        ∙ takings_eq (length h.terms) (price_of h) (λ i. unstruck h i + cond (falls_short h i) (price_of h i) 0)
        (length h.views) to (λ i l. two_parts h i)
        ∙ takings_add (length h.terms) (unstruck h) (λ i. cond (falls_short h i) (price_of h i) 0)
        (length h.views) to

    against_greatest : TakesMost h s to → Floor h s → AgainstGreatest h s to
    against_greatest t fl =
        let p = share h.plan.depth h.plan.width in
        let u = takings_of h (unstruck h) to in
        let g = given_short h to in
        let covered : p * u ≤ full h.plan (day_takings h) = fl.struck to t.allotted in
        let rest : most_of s (own_views h) - g ≡ u = omega (arith, split t) in
        record {
          parts = omega (arith, split t);
          less_short = subst⁻¹ (λ (x : ℕ). Covered h x) rest covered;
          as_sum = omega (arith, covered, ap (λ (x : ℕ). p * x) (split t));
        }

  greatest_figure : GreatestFigure h s
  unfolding OfState
  greatest_figure =
      let g = most_is_most s.count (optimum.plan_price s) (optimum.plan_whole s) (length (own_views h))
      (at (own_views h)) few_campaigns in
      record {
        to = g.taken.to;
        is = taken_of g.taken.to g.taken.allotted g.taken.takes;
        no_more = λ other al. omega (arith, g.no_more other (of_history other al), same_takings other);
      }

  accepted_taken : (allotment surplus worth : List ℕ)
      → checked s (own_views h) allotment surplus worth ≡ Ok true → TakesMost h s (at allotment)
  unfolding OfState
  accepted_taken allotment surplus worth e =
      let b = accepted_is_best s (own_views h) allotment surplus worth e in
      taken_of (at allotment) b.allotted b.takes_most

  -- the questions: the first and the third are answered yes, whatever is lent
  own_inside : every (length (own_views h)) (λ j. within s.count (at (own_views h) j)) ≡ true
  own_inside = every_of (length (own_views h)) (λ j. within s.count (at (own_views h) j))
      (λ j l. ap (within s.count) (own_at h.views j) ∙ r.tracks.inside j (omega (arith, own_length h)))

  room_enough : (allotment surplus worth : List ℕ) → Room h s allotment surplus worth
      → failed s (own_views h) allotment surplus worth ≡ 0
  unfolding failed first_failed
  room_enough allotment surplus worth m =
      let n = length (own_views h) in
      rw (
        r.is_sound,
        le-leb n max_handed_in (omega (arith, own_length h, m.few)),
        own_inside,
        le-leb n (length allotment) (omega (arith, own_length h, m.for_allotment)),
        le-leb s.count (length surplus) m.for_campaigns,
        le-leb n (length worth) (omega (arith, own_length h, m.for_views)),
      )

pub floor_against_greatest : FloorAgainstGreatest
floor_against_greatest s cs st to t = against_greatest (final s cs) (history (transcript s cs)) (reached s cs st) to t
    (demand_3 s cs st)

pub always_greatest : AlwaysGreatest
always_greatest s cs st = greatest_figure (final s cs) (history (transcript s cs)) (reached s cs st)

pub takings_at_most : TakingsAtMost
takings_at_most s cs st =
    let o = own_allotted s cs st in
    omega (
      arith,
      (always_greatest s cs st).no_more (own_allotment (history (transcript s cs))) o.allotted,
      o.takings_are,
    )

pub floor_against_accepted : FloorAgainstAccepted
floor_against_accepted s cs st allotment surplus worth e =
    let t = accepted_taken (final s cs) (history (transcript s cs)) (reached s cs st) allotment surplus worth e in
    (t, floor_against_greatest s cs st (at allotment) t)

pub floor_against_searched : FloorAgainstSearched
floor_against_searched s cs st allotment allotment' surplus surplus' worth worth' r room found =
    let h = history (transcript s cs) in
    let t = final s cs in
    let z = room_enough t h (reached s cs st) allotment surplus worth room in
    let ok = search_accepted t (own_views h) allotment allotment' surplus surplus' worth worth' r found z in
    let floored = floor_against_accepted s cs st allotment' surplus' worth' ok in
    record {
      none_fails = z;
      answer = found.answer ∙ ap (λ (q : ℕ). optimum.answer_of q (most_of t (own_views h))) z;
      accepted = ok;
      taken = floored.0;
      against = floored.1;
    }

-- of four questions the first and the third are answered yes
abbrev failed_of : (a b c d : Bool) → ℕ
failed_of a b c d = cond {A = ℕ} a (cond b (cond c (cond d 0 18) 13) 19) 1

neither : (a b c d : Bool) → a ≡ true → c ≡ true → (failed_of a b c d ≡ 1 → ⊥) × (failed_of a b c d ≡ 13 → ⊥)
neither true true true true p r = ((λ e. omega arith), (λ e. omega arith))
neither true true true false p r = ((λ e. omega arith), (λ e. omega arith))
neither true false true d p r = ((λ e. omega arith), (λ e. omega arith))
neither true b false d p r = absurd (never false refl r)
neither false b c d p r = absurd (never false refl p)

pub own_views_taken : OwnViewsTaken
unfolding failed first_failed
own_views_taken s cs st allotment surplus worth =
    let t = final s cs in
    let h = history (transcript s cs) in
    let vs = own_views h in
    let r = reached s cs st in
    neither (sound t) (leb (length vs) max_handed_in) (every (length vs) (λ j. within t.count (at vs j)))
    (leb (length vs) (length allotment) && leb t.count (length surplus) && leb (length vs) (length worth))
    r.is_sound (own_inside t h r)
