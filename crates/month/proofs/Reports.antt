-- The report in the request's words: the questions in their order, both totals, and the worst day's place.
use mathlib.Core.Path.{◌≡◌, refl, ◌∙◌, ap, ap₂, subst⁻¹}
use mathlib.Core.List.{List, [], ◌∷◌}
use mathlib.Core.Logic.{◌⊎◌, inl, inr}
use Prim.Native.Nat.{ℕ, zero, suc, ◌+◌, ◌≤◌, ◌<◌}
use native.Mathlib.Omega.{arith}
use lib.ListN.{length}
use Rattle.std.specs.Prelude.{Option, Some, None, Result, Ok, Err}
use borrow.Author.Tests.{lt-ltb, le-ltb}
use Rattle.refusal.specs.declared.Refusal.{Refusal}
use Rattle.finite.specs.Finite.{sum, total}
use Rattle.finite.proofs.Sums.{sum_front}
use Rattle.finite.proofs.Meanings.{leb_means, every_means}
use Rattle.questions.specs.Questions.{first_failed, asks, accepts}
use Rattle.questions.proofs.Asks.{asking, accepting}
use Rattle.month.specs.declared.DayRecord.{DayRecord}
use Rattle.month.specs.declared.Month.{Month}
use Rattle.month.specs.Month.{max_records, day, belongs, total_takings, total_greatest}
use Rattle.month.specs.Month.{month_questions, figures_of, refused_or, report_of, number, values}
use Rattle.month.specs.Promises.{WorstDay, NoneWorst, OfADay, AlwaysTells}
use Rattle.month.proofs.Figures.{belongs_means}
use Rattle.month.proofs.Ratios.{worst_upto, Right, found_right, whole, one_place, worst_found, worst_none}

-- a sum over places is the sum over the list
sum_total : (f : DayRecord → ℕ) (days : List DayRecord) → sum (length days) (λ i. f (day days i)) ≡ total f days
unfolding sum total
sum_total f [] = refl
sum_total f (d ∷ ds) =
    sum_front (length ds) (λ i. f (day (d ∷ ds) i)) ∙ ap (λ (x : ℕ). f d + x) (sum_total f ds)

-- the number of a report is that of the first question that fails
numbered : (q : ℕ) (x : Month) → number (refused_or q x) ≡ q
numbered zero x = refl
numbered (suc q) x = refl

pub report_number : (days : List DayRecord) → number (report_of days) ≡ first_failed (month_questions days)
unfolding report_of
report_number days = numbered (first_failed (month_questions days)) (figures_of days)

alone : (x : Result Month Refusal) → (number x ≡ 0 → ⊥) → values x ≡ number x ∷ []
alone (Err r) n = refl
alone (Ok m) n = absurd (n refl)

accepted : (q : ℕ) (x : Month) → number (refused_or q x) ≡ 0 → refused_or q x ≡ Ok x
accepted zero x e = refl
accepted (suc q) x e = absurd (omega (arith, e))

told : (days : List DayRecord) → number (report_of days) ≡ 0 → report_of days ≡ Ok (figures_of days)
unfolding report_of
told days e = accepted (first_failed (month_questions days)) (figures_of days) e

-- the answer where no question fails
abbrev month_of : (takings greatest : ℕ) → Option ℕ → Month
month_of t g w = record { takings = t; greatest = g; worst = w }

worst_figures : (days : List DayRecord) (k : ℕ) → WorstDay days k
    → figures_of days ≡ month_of (total (λ d. d.takings) days) (total (λ d. d.greatest) days) (Some k)
unfolding figures_of total_takings total_greatest
worst_figures days k w =
    rw (worst_found days k w) (rw (lt-ltb k (length days) w.within)
    (ap₂ (λ (t g : ℕ). month_of t g (Some k)) (sum_total (λ d. d.takings) days) (sum_total (λ d. d.greatest) days)))

none_figures : (days : List DayRecord) → NoneWorst days
    → figures_of days ≡ month_of (total (λ d. d.takings) days) (total (λ d. d.greatest) days) None
unfolding figures_of total_takings total_greatest
none_figures days h =
    rw (worst_none days h) (rw (le-ltb (length days) (length days) (omega arith))
    (ap₂ (λ (t g : ℕ). month_of t g None) (sum_total (λ d. d.takings) days) (sum_total (λ d. d.greatest) days)))

one_or_none : (days : List DayRecord) (w : Option ℕ) → Right days (length days) w
    → ((k : ℕ) × WorstDay days k) ⊎ NoneWorst days
one_or_none days None h = inr h
one_or_none days (Some k) h = inl (k, whole days k h)

pub worst_told : (days : List DayRecord) (k : ℕ) → number (report_of days) ≡ 0 → WorstDay days k
    → report_of days ≡ Ok (month_of (total (λ d. d.takings) days) (total (λ d. d.greatest) days) (Some k))
worst_told days k e w = told days e ∙ ap Ok (worst_figures days k w)

pub none_told : (days : List DayRecord) → number (report_of days) ≡ 0 → NoneWorst days
    → report_of days ≡ Ok (month_of (total (λ d. d.takings) days) (total (λ d. d.greatest) days) None)
none_told days e h = told days e ∙ ap Ok (none_figures days h)

pub tells : AlwaysTells
tells days =
    let n = length days in
    record {
      asked =
          subst⁻¹ (asks 24 (n ≤ 31) (asks 25 ((i : ℕ) → i < n → OfADay (day days i)) accepts))
          (report_number days)
          (asking 24 (leb_means n max_records)
          (asking 25 (every_means n (λ i. belongs (day days i)) (λ i. OfADay (day days i))
          (λ i l. belongs_means (day days i))) accepting)).is;
      refusal = alone (report_of days);
      worst_is = λ e k w. ap values (worst_told days k e w);
      none_is = λ e h. ap values (none_told days e h);
      one_or_none = one_or_none days (worst_upto days n) (found_right days n);
      one_place = one_place days;
    }
