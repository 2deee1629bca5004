-- What the search found, said of the state: its own prices, and its whole plays in place of those divided out.
use mathlib.Core.Path.{◌≡◌, refl, ap₂, sym, ◌∙◌}
use mathlib.Core.Bool.{Bool, true}
use mathlib.Core.List.{List}
use Prim.Native.Nat.{ℕ, zero, suc}
use native.Mathlib.Omega.{arith}
use lib.ListN.{length}
use Rattle.allotments.specs.Allotment.{at, certified}
use Rattle.allotments.proofs.Duality.{certified_wholes, test_certified}
use Rattle.allotments.proofs.Most.{certified_most}
use Rattle.campaigns.specs.Campaign.{whole}
use Rattle.day.specs.declared.Day.{Day}
use Rattle.optimum.specs.Cited.{admission, Divided}
use Rattle.std.specs.Prelude.{Ok, Err}
use Rattle.refusal.specs.declared.Refusal.{Refusal}
use Rattle.optimum.specs.Optimum.{plan_price, plan_whole, failed, fits, allotment_takings, most_of, answer_of}
use Rattle.optimum.specs.Optimum.{Searched, verdict_of, checked}
use Rattle.optimum.proofs.Asked.{Granted, few_campaigns}
use Rattle.matching.specs.Method.{ByFallingPrice}
use Rattle.matching.specs.Cited.{BestIs}
use Rattle.matching.proofs.Method.{same_wholes}

-- the test with the whole plays divided out is the state's
fits_is : (s : Day) (wholes : List ℕ) → Divided s.count s.terms wholes
    → (views allotment surplus worth : List ℕ)
    → certified s.count (at s.terms) (at wholes) (length views) (at views) (at allotment) (at surplus) (at worth)
    ≡ fits s views allotment surplus worth
unfolding fits whole
fits_is s wholes d views allotment surplus worth =
    certified_wholes s.count (at s.terms) (at wholes) (plan_whole s) (length views) (at views) (at allotment)
    (at surplus) (at worth) d

module _ {s : Day} {views allotment surplus worth : List ℕ} (g : Granted s views allotment surplus worth)
    (wholes : List ℕ) (d : Divided s.count s.terms wholes) where
  -- so is the answer of the check
  pub check_answer : {b : Bool} → b ≡ certified s.count (at s.terms) (at wholes) (length views) (at views)
      (at allotment) (at surplus) (at worth) → Ok b ≡ checked s views allotment surplus worth
  check_answer h = ap₂ verdict_of (sym g.none) (h ∙ fits_is s wholes d views allotment surplus worth)

  -- and what the search leaves
  module _ {allotment' surplus' worth' : List ℕ}
      (b : BestIs s.count s.terms wholes views allotment allotment' surplus surplus' worth worth')
    where
      certain : fits s views allotment' surplus' worth' ≡ true
      certain = sym (fits_is s wholes d views allotment' surplus' worth') ∙ b.accepted

      made : ByFallingPrice s.count (plan_price s) (plan_whole s) views allotment' 0
      unfolding whole
      made = same_wholes d b.method

      most_taken : allotment_takings s (length views) allotment' ≡ most_of s views
      unfolding fits
      most_taken =
          certified_most s.count (plan_price s) (at views) (few_campaigns g)
          (plan_whole s) (length views) (at allotment') (at surplus') (at worth')
          (test_certified s.count (plan_price s) (plan_whole s) (length views) (at views) (at allotment')
          (at surplus') (at worth') certain)

      pub search_found : {t : ℕ} → length allotment' ≡ length allotment → length surplus' ≡ length surplus
          → length worth' ≡ length worth → t ≡ allotment_takings s (length views) allotment'
          → Searched s views allotment allotment' surplus surplus' worth worth' (Ok t)
      search_found la ls lw h = record {
        answer = ap₂ answer_of (sym g.none) (h ∙ most_taken);
        fit = λ i. certain;
        method = λ i. made;
        in_allotment = record { same_length = la; refused = λ no. absurd (no g.none); beyond = b.to_beyond };
        in_surplus = record { same_length = ls; refused = λ no. absurd (no g.none); beyond = b.us_beyond };
        in_worth = record { same_length = lw; refused = λ no. absurd (no g.none); beyond = b.vs_beyond };
      }

-- what refuses is the refusal of the question that failed
refused_by : (n : ℕ) {r : Refusal} → Err r ≡ admission n → n ≡ 0 → ⊥
refused_by zero e z = cc
refused_by (suc n) e z = omega (arith, z)

refused_answer : (n t : ℕ) {r : Refusal} → Err r ≡ admission n → Err r ≡ answer_of n t
refused_answer zero t e = cc
refused_answer (suc n) t e = cc

refused_verdict : (n : ℕ) (b : Bool) {r : Refusal} → Err r ≡ admission n → Err r ≡ verdict_of n b
refused_verdict zero b e = cc
refused_verdict (suc n) b e = cc

-- and where nothing refuses none failed
pub none_failed : (n : ℕ) → Ok tt ≡ admission n → n ≡ 0
none_failed zero e = refl
none_failed (suc n) e = cc

-- a refusal leaves all as it was
module _ (s : Day) (views allotment surplus worth : List ℕ) {r : Refusal}
    (e : Err r ≡ admission (failed s views allotment surplus worth)) where
  pub search_refused : Searched s views allotment allotment surplus surplus worth worth (Err r)
  search_refused =
      let no = refused_by (failed s views allotment surplus worth) e in
      record {
        answer = refused_answer (failed s views allotment surplus worth) (most_of s views) e;
        fit = λ z. absurd (no z);
        method = λ z. absurd (no z);
        in_allotment = record { same_length = refl; refused = λ z. refl; beyond = λ j l. refl };
        in_surplus = record { same_length = refl; refused = λ z. refl; beyond = λ j l. refl };
        in_worth = record { same_length = refl; refused = λ z. refl; beyond = λ j l. refl };
      }

  pub check_refused : Err r ≡ checked s views allotment surplus worth
  check_refused =
      refused_verdict (failed s views allotment surplus worth) (fits s views allotment surplus worth) e
