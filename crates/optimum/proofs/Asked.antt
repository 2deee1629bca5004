-- The questions of the search, of the check and of the takings, asked in request 4's words, and what holds where none
-- fails.
use mathlib.Core.Path.{◌≡◌, refl, ap, sym, ◌∙◌, subst⁻¹}
use mathlib.Core.Bool.{true, cond, ◌&&◌}
use mathlib.Core.Logic.Iff
use mathlib.Core.Logic.{◌↔◌}
use mathlib.Core.List.{List, [], ◌∷◌}
use Prim.Native.Nat.{ℕ, zero, suc, ◌≤◌, ◌<◌}
use native.Mathlib.Omega.{arith}
use lib.Dec.{leb, eqb}
use Rattle.std.specs.Prelude.{Option, is_some}
use lib.ListN.{length}
use borrow.Author.Tests.{leb-true, ne_eqb}
use Rattle.finite.specs.Finite.{every}
use Rattle.finite.proofs.Tests.{every_at}
use Rattle.finite.proofs.Meanings.{leb_means, both_means, every_means}
use Rattle.sets.specs.Set.{member, within}
use Rattle.sets.proofs.Bounds.{within_means}
use Rattle.campaigns.specs.Campaign.{whole}
use Rattle.audit.specs.declared.Audit.{Audit}
use Rattle.audit.proofs.Audits.{audit_sound}
use Rattle.day.specs.declared.Day.{Day}
use Rattle.day.specs.Day.{head_of, campaign, sound, audited}
use Rattle.day.proofs.Questions.{none_fails}
use Rattle.day.proofs.State.{sound_facts, held_at}
use Rattle.questions.specs.Questions.{first_failed, asks, accepts}
use Rattle.questions.proofs.Asks.{asking, accepting}
use Rattle.allotments.specs.Limits.{max_handed_in}
use Rattle.allotments.specs.Allotment.{at, takings}
use Rattle.allotments.specs.Cited.{EnoughLent}
use Rattle.optimum.specs.Optimum.{plan_price, PlanIs, questions, failed, search_door, SearchAsks}
use Rattle.optimum.specs.Optimum.{allotment_takings, number, values}
use Rattle.optimum.specs.Optimum.{answer_of, takings_questions, takings_answer, AlwaysTellsTakings}

pub plan_is : PlanIs
unfolding whole
plan_is s i = (refl, refl)

-- the audit tells question 1
pub sound_told : (s : Day) (a : Option Audit) → a ≡ audited s → sound s ≡ is_some a
unfolding audited sound
sound_told s a e = sym (audit_sound (head_of s) (campaign s) a e)

-- views pass question 13 exactly if each name in them is in the plan
inside_means : (s : Day) (views : List ℕ)
    → (every (length views) (λ j. within s.count (at views j)) ≡ true)
    ↔ ((j : ℕ) → j < length views → (i : ℕ) → i < 64 → member (at views j) i ≡ true → i < s.count)
inside_means s views =
    every_means (length views) (λ j. within s.count (at views j))
    (λ j. (i : ℕ) → i < 64 → member (at views j) i ≡ true → i < s.count)
    (λ j l. within_means s.count (at views j))

-- and question 18 where there is room
room_means : (m n a c v : ℕ) → ((leb m a && leb n c && leb m v) ≡ true) ↔ (((m ≤ a) × (n ≤ c)) × (m ≤ v))
room_means m n a c v = both_means (both_means (leb_means m a) (leb_means n c)) (leb_means m v)

-- whatever is lent
pub asked_with : (s : Day) (views : List ℕ) (a c v : ℕ)
    → search_door s views
    (asks 18 (((length views ≤ a) × (s.count ≤ c)) × (length views ≤ v)) accepts)
    (first_failed (questions s views a c v))
asked_with s views a c v =
    (asking 1 Iff.rfl
    (asking 19 (leb_means (length views) 256)
    (asking 13 (inside_means s views) (asking 18 (room_means (length views) s.count a c v) accepting)))).is

pub search_asks : SearchAsks
unfolding failed
search_asks s views allotment surplus worth =
    asked_with s views (length allotment) (length surplus) (length worth)

-- the number of an answer is that of the question that failed, and 0 where none did; and its values
pub number_found : (q t : ℕ) → number (answer_of q t) ≡ q
number_found zero t = refl
number_found (suc q) t = refl

pub values_found : (q t : ℕ) → values (answer_of q t) ≡ cond (eqb q 0) (t ∷ []) (q ∷ [])
values_found zero t = refl
values_found (suc q) t = rw (ne_eqb (suc q) 0 (λ z. omega (arith, z))) refl

pub tells_takings : AlwaysTellsTakings
unfolding takings_answer takings
tells_takings s allotment =
    let m = length allotment in
    let q = first_failed (takings_questions s allotment) in
    let told = number_found q (allotment_takings s m allotment) in
    record {
      asked = subst⁻¹ (asks 1 (sound s ≡ true) (asks 19 (m ≤ 256) accepts)) told
          (asking 1 Iff.rfl (asking 19 (leb_means m 256) accepting)).is;
      answered = λ z. ap (λ (n : ℕ). answer_of n (allotment_takings s m allotment)) (sym told ∙ z);
    }

-- what holds where none fails
pub record Granted (s : Day) (views allotment surplus worth : List ℕ) : Type 0 where
  pub none : failed s views allotment surplus worth ≡ 0
  pub is_sound : sound s ≡ true
  pub few : length views ≤ max_handed_in
  pub inside : (j : ℕ) → j < length views → within s.count (at views j) ≡ true
  pub for_allotment : length views ≤ length allotment
  pub for_campaigns : s.count ≤ length surplus
  pub for_views : length views ≤ length worth

pub granted : {s : Day} {views allotment surplus worth : List ℕ} → failed s views allotment surplus worth ≡ 0
    → Granted s views allotment surplus worth
unfolding failed
granted {s} {views} {allotment} {surplus} {worth} e =
    let m = length views in
    let a = length allotment in
    let c = length surplus in
    let v = length worth in
    let yes = none_fails (questions s views a c v) (omega arith, (omega arith, (omega arith, (omega arith, tt)))) e in
    let room = (room_means m s.count a c v).0 yes.1.1.1.0 in
    record {
      none = e;
      is_sound = yes.0;
      few = leb-true m max_handed_in yes.1.0;
      inside = every_at m (λ j. within s.count (at views j)) yes.1.1.0;
      for_allotment = room.0.0;
      for_campaigns = room.0.1;
      for_views = room.1;
    }

module _ {s : Day} {views allotment surplus worth : List ℕ} (g : Granted s views allotment surplus worth) where
  pub few_campaigns : s.count ≤ 64
  few_campaigns = (sound_facts s g.is_sound).few

  pub lent_of : EnoughLent s.count views allotment surplus worth
  lent_of = record {
    market = record { few = few_campaigns; inside = g.inside };
    for_allotment = g.for_allotment;
    for_campaigns = g.for_campaigns;
    for_views = g.for_views;
  }

  pub priced_of : (i : ℕ) → i < s.count → 0 < plan_price s i
  priced_of i l = (held_at s (sound_facts s g.is_sound) i l).price_least
