-- The report after the first n records: what the loop of `report` holds. Its sums and products fit, and what it answers
-- behind the last record is the report.
use mathlib.Core.Path.{◌≡◌, refl, ◌∙◌, ap}
use mathlib.Core.Bool.{Bool, true, false, cond, ◌&&◌}
use mathlib.Core.List.{List}
use Prim.Native.Nat.{ℕ, zero, suc, ◌+◌, ◌≤◌, ◌<◌}
use native.Mathlib.Numerals.{add-one}
use native.Mathlib.Omega.{arith}
use lib.ListN.{length}
use borrow.Author.Tests.{lt-ltb, le-ltb, le-leb, lt-leb}
use Rattle.std.specs.Prelude.{Option, Some, None, Ok, Err, is_some, option_map}
use Rattle.refusal.specs.Refusal.{refusal}
use Rattle.finite.specs.Finite.{sum, every}
use Rattle.finite.proofs.Tests.{both_right}
use Rattle.questions.specs.Questions.{first_failed}
use Rattle.month.specs.declared.DayRecord.{DayRecord}
use Rattle.month.specs.declared.Partial.{Partial}
use Rattle.month.specs.declared.Totals.{Totals}
use Rattle.month.specs.Month.{day, belongs, can_be_worst, total_takings, total_greatest}
use Rattle.month.specs.Month.{figures_of, report_of}
use Rattle.month.specs.Cited.{nothing_yet, invalid, TotalsFit, WorstFits, Fits, outdoes, totals_with, added, after}
use Rattle.month.specs.Cited.{finish}
use Rattle.month.proofs.Figures.{takings_within, greatest_within}
use Rattle.month.proofs.Ratios.{worse, worst_with, worst_upto, Right, found_right, whole, worst_found}
use Rattle.month.proofs.Ratios.{worst_none}

unfoldable pub upto : List DayRecord → ℕ → Partial
upto days zero = nothing_yet
upto days (suc n) = after (upto days n) (day days n) n

pub upto_next : (days : List DayRecord) (n : ℕ) → upto days (n + 1) ≡ after (upto days n) (day days n) n
unfolding upto
upto_next days n = ap (upto days) (add-one n)

pub upto_start : (days : List DayRecord) → upto days 0 ≡ nothing_yet
unfolding upto
upto_start days = refl

-- sums and products fit
pub start_fits : Fits nothing_yet 0
start_fits = record {
  totals_fit = (omega arith, omega arith);
  worst_fits = tt;
  few = omega arith;
}

added_fits : (m : Partial) (d : DayRecord) (n : ℕ) → n < 31 → Fits m n → belongs d ≡ true → Fits (added m d n) (suc n)
unfolding added
added_fits m d n l f b = record {
  totals_fit = sums m.totals f.totals_fit;
  worst_fits = go (outdoes m d);
  few = l;
}
  where
    sums : (t : Option Totals) → TotalsFit t n → TotalsFit (option_map (totals_with d) t) (suc n)
    sums None h = tt
    sums (Some t) h = (omega (arith, h.0, takings_within d b), omega (arith, h.1, greatest_within d b))

    go : (t : Bool) → WorstFits (cond t (Some (record { place = n; day = d })) m.worst)
    go true = (takings_within d b, greatest_within d b)
    go false = f.worst_fits

invalid_fits : (n : ℕ) → n < 31 → Fits invalid (suc n)
invalid_fits n l = record { totals_fit = tt; worst_fits = tt; few = l }

pub after_fits : (m : Partial) (d : DayRecord) (n : ℕ) (t : Bool) → (is_some m.totals && belongs d) ≡ t → n < 31
    → Fits m n → Fits (after m d n) (suc n)
unfolding after
after_fits m d n true e l f = rw e (added_fits m d n l f (both_right (is_some m.totals) (belongs d) e))
after_fits m d n false e l f = rw e (invalid_fits n l)

-- what it is after n records, by the definitions
abbrev standing : List DayRecord → ℕ → Option ℕ → Partial
standing days n w = record {
  totals =
      Some (record { takings = sum n (λ i. (day days i).takings); greatest = sum n (λ i. (day days i).greatest) });
  worst = option_map (λ k. record { place = k; day = day days k }) w;
}

abbrev partial_of : List DayRecord → ℕ → Partial
partial_of days n = cond (every n (λ i. belongs (day days i))) (standing days n (worst_upto days n)) invalid

one_more : (days : List DayRecord) (n : ℕ) (w : Option ℕ)
    → added (standing days n w) (day days n) n ≡ standing days (suc n) (worst_with days w n)
unfolding added outdoes worst_with sum
one_more days n None = go (can_be_worst (day days n)) refl
  where
    go : (t : Bool) → can_be_worst (day days n) ≡ t
        → added (standing days n None) (day days n) n ≡ standing days (suc n) (worst_with days None n)
    go true e = rw e refl
    go false e = rw e refl
one_more days n (Some k) = go (can_be_worst (day days n) && worse (day days n) (day days k)) refl
  where
    go : (t : Bool) → (can_be_worst (day days n) && worse (day days n) (day days k)) ≡ t
        → added (standing days n (Some k)) (day days n) n ≡ standing days (suc n) (worst_with days (Some k) n)
    go true e = rw e refl
    go false e = rw e refl

step : (days : List DayRecord) (n : ℕ) (s t : Bool) → every n (λ i. belongs (day days i)) ≡ s → belongs (day days n) ≡ t
    → after (partial_of days n) (day days n) n ≡ partial_of days (suc n)
unfolding after every worst_upto
step days n true true p q = rw p (rw q (one_more days n (worst_upto days n)))
step days n true false p q = rw p (rw q refl)
step days n false t p q = rw p refl

upto_is : (days : List DayRecord) (n : ℕ) → upto days n ≡ partial_of days n
unfolding upto every worst_upto sum
upto_is days zero = refl
upto_is days (suc n) =
    ap (λ (m : Partial). after m (day days n) n) (upto_is days n) ∙ step days n _ _ refl refl

-- behind the last record
told : (days : List DayRecord) (w : Option ℕ) → Right days (length days) w
    → finish (standing days (length days) w) ≡ Ok (figures_of days)
unfolding figures_of total_takings total_greatest
told days None h =
    rw (worst_none days h) (rw (le-ltb (length days) (length days) (omega arith)) refl)
told days (Some k) h =
    rw (worst_found days k (whole days k h)) (rw (lt-ltb k (length days) h.within) refl)

asked : (days : List DayRecord) (b : Bool) → length days ≤ 31 → every (length days) (λ i. belongs (day days i)) ≡ b
    → finish (partial_of days (length days)) ≡ report_of days
unfolding report_of first_failed
asked days true l e =
    rw (le-leb (length days) 31 l)
    (rw e (told days (worst_upto days (length days)) (found_right days (length days))))
asked days false l e = rw (le-leb (length days) 31 l) (rw e refl)

pub few : (days : List DayRecord) → length days ≤ 31 → finish (upto days (length days)) ≡ report_of days
few days l = ap finish (upto_is days (length days)) ∙ asked days _ l refl

pub many : (days : List DayRecord) → 31 < length days → Err (refusal 24) ≡ report_of days
unfolding report_of first_failed
many days h = rw (lt-leb (length days) 31 h) refl
