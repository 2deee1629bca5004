-- The check accepts exactly the allotments with figures that fit them, what it accepts is greatest, and it accepts what
-- the search leaves, whose takings are the search's answer.
use mathlib.Core.Path.{◌≡◌, refl, ap, ap₂, sym, ◌∙◌}
use mathlib.Core.Bool.{Bool, true, false, cond}
use mathlib.Core.List.{List, [], ◌∷◌}
use Prim.Native.Nat.{ℕ, zero, suc, ◌≤◌}
use native.Mathlib.Omega.{arith}
use lib.Dec.{eqb}
use lib.ListN.{length, take}
use lib.Seq.{get_or-take, length-take-le}
use borrow.Author.Tests.{le-leb, ne_eqb}
use Rattle.finite.specs.Finite.{one_if}
use Rattle.finite.proofs.Sums.{sum_eq}
use Rattle.allotments.specs.Limits.{max_handed_in}
use Rattle.allotments.specs.Allotment.{at, brings, takings}
use Rattle.allotments.proofs.Duality.{test_certified, certified_test, certified_greatest}
use Rattle.allotments.proofs.Most.{certified_most}
use Rattle.day.specs.declared.Day.{Day}
use Rattle.questions.specs.Questions.{first_failed}
use Rattle.std.specs.Prelude.{Ok}
use Rattle.optimum.specs.Optimum.{plan_price, plan_whole, questions, failed, Fits, fits, most_of}
use Rattle.optimum.specs.Optimum.{allotment_takings, answer_of, takings_questions, takings_answer}
use Rattle.optimum.specs.Optimum.{verdict_of, AcceptsExactly, AcceptedIsBest, SearchAccepted, SearchTaken}
use Rattle.optimum.specs.Optimum.{SearchByMethod, verdict_number, verdict_values, AlwaysTells}
use Rattle.optimum.proofs.Asked.{Granted, granted, few_campaigns, number_found, values_found}

-- an accepting answer: no question failed and the test passed
from_accepted : (q : ℕ) (b : Bool) → verdict_of q b ≡ Ok true → (q ≡ 0) × (b ≡ true)
from_accepted zero b e = (refl, cc)
from_accepted (suc q) b e = (cc, cc)

to_accepted : (q : ℕ) (b : Bool) → q ≡ 0 → b ≡ true → verdict_of q b ≡ Ok true
to_accepted q b z t = ap₂ verdict_of z t

module _ (s : Day) (views allotment surplus worth : List ℕ) where
  fits_of : fits s views allotment surplus worth ≡ true → Fits s views allotment surplus worth
  unfolding fits
  fits_of e = test_certified s.count (plan_price s) (plan_whole s) (length views) (at views) (at allotment)
      (at surplus) (at worth) e

  of_fits : Fits s views allotment surplus worth → fits s views allotment surplus worth ≡ true
  unfolding fits
  of_fits f = certified_test s.count (plan_price s) (plan_whole s) (length views) (at views) (at allotment)
      (at surplus) (at worth) f

pub accepts_exactly : AcceptsExactly
accepts_exactly s views allotment surplus worth =
    let q = failed s views allotment surplus worth in
    let b = fits s views allotment surplus worth in (
      λ e.
          let p = from_accepted q b e in
          (p.0, fits_of s views allotment surplus worth p.1),
      λ f. to_accepted q b f.0 (of_fits s views allotment surplus worth f.1),
    )

pub accepted_is_best : AcceptedIsBest
accepted_is_best s views allotment surplus worth e =
    let f = (accepts_exactly s views allotment surplus worth).0 e in
    let g : Granted s views allotment surplus worth = granted f.0 in
    let few = few_campaigns g in
    record {
      allotted = f.1.allotted;
      greatest = certified_greatest s.count (plan_price s) (plan_whole s) (length views) (at views) (at allotment)
          (at surplus) (at worth) few f.1;
      takes_most = certified_most s.count (plan_price s) (at views) few (plan_whole s) (length views) (at allotment)
          (at surplus) (at worth) f.1;
    }

pub search_accepted : SearchAccepted
unfolding failed
search_accepted s views allotment allotment' surplus surplus' worth worth' r answer_of z =
    to_accepted (first_failed (questions s views (length allotment') (length surplus') (length worth')))
    (fits s views allotment' surplus' worth')
    (rw (answer_of.in_allotment.same_length, answer_of.in_surplus.same_length, answer_of.in_worth.same_length) z)
    (answer_of.fit z)

-- the takings of the entries for the views alone
front_taken : (s : Day) (views allotment : List ℕ) → length views ≤ length allotment
    → allotment_takings s (length (take (length views) allotment)) (take (length views) allotment)
    ≡ allotment_takings s (length views) allotment
unfolding takings
front_taken s views allotment l =
    let m = length views in
    ap (λ (n : ℕ). takings s.count (plan_price s) n (at (take m allotment))) (length-take-le m allotment l)
    ∙ sum_eq m (λ j. brings s.count (plan_price s) (at (take m allotment) j))
    (λ j. brings s.count (plan_price s) (at allotment j))
    (λ j k. ap (brings s.count (plan_price s)) (get_or-take m allotment j 0 k))

pub search_taken : SearchTaken
unfolding takings_answer first_failed
search_taken s views allotment allotment' surplus surplus' worth worth' r found' z =
    let g : Granted s views allotment surplus worth = granted z in
    let m = length views in
    let room : m ≤ length allotment' = omega (arith, g.for_allotment, found'.in_allotment.same_length) in
    let best = accepted_is_best s views allotment' surplus' worth'
    (search_accepted s views allotment allotment' surplus surplus' worth worth' r found' z) in
    let none : first_failed (takings_questions s (take m allotment')) ≡ 0 = rw (
      g.is_sound,
      length-take-le m allotment' room,
      le-leb m max_handed_in g.few,
    ) in
    ap₂ answer_of none (front_taken s views allotment' room ∙ best.takes_most)
    ∙ sym (found'.answer ∙ ap (λ (q : ℕ). answer_of q (most_of s views)) z)

pub search_by_method : SearchByMethod
search_by_method s views allotment allotment' surplus surplus' worth worth' r found' z = found'.method z

-- the numbers and the values of the answers
number_told : (q : ℕ) (b : Bool) → verdict_number (verdict_of q b) ≡ q
number_told zero b = refl
number_told (suc q) b = refl

values_told : (q : ℕ) (b : Bool) → verdict_values (verdict_of q b) ≡ cond (eqb q 0) (one_if b ∷ []) (q ∷ [])
values_told zero true = refl
values_told zero false = refl
values_told (suc q) b = rw (ne_eqb (suc q) 0 (λ z. omega (arith, z))) refl

pub tells : AlwaysTells
tells s views allotment surplus worth =
    let q = failed s views allotment surplus worth in
    let b = fits s views allotment surplus worth in
    record {
      search_number = number_found q (most_of s views);
      search_values = values_found q (most_of s views);
      check_number = number_told q b;
      check_values = values_told q b;
    }
