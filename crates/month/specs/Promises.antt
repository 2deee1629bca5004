-- What is promised of every list of day records, in the request's own words and figures.
use Rattle.std.specs.Prelude.{◌≡◌, List, [], ◌∷◌, ◌⊎◌, ℕ, ◌+◌, ◌*◌, ◌/◌, ◌≤◌, ◌<◌, length, get_or}
use Rattle.finite.specs.Finite.{total}
use Rattle.questions.specs.Questions.{asks, accepts}
use Rattle.month.specs.declared.DayRecord.{DayRecord}
use Rattle.month.specs.Month.{day, report_of, number, values}
use Rattle.month.specs.Pairs.{pairs}

-- the day at place k is the worst: its greatest is above 0, no such day has a smaller ratio, and each earlier such day
-- has a greater one
pub record WorstDay (days : List DayRecord) (k : ℕ) : Type 0 where
  pub within : k < length days
  pub above : 0 < (day days k).greatest
  pub none_smaller : (j : ℕ) → j < length days → 0 < (day days j).greatest
      → (day days k).takings * (day days j).greatest ≤ (day days j).takings * (day days k).greatest
  pub earlier_greater : (j : ℕ) → j < k → 0 < (day days j).greatest
      → (day days k).takings * (day days j).greatest < (day days j).takings * (day days k).greatest

-- no day can be the worst
abbrev pub NoneWorst : List DayRecord → Type 0
NoneWorst days = (j : ℕ) → j < length days → (day days j).greatest ≡ 0

-- the record belongs to a day
abbrev pub OfADay : DayRecord → Type 0
OfADay d = ((d.takings ≤ d.greatest) × (d.takings ≤ 2_000_000_000)) × (d.greatest ≤ 2_000_000_000)

pub record Tells (days : List DayRecord) : Type 0 where
  -- 24, then 25; a refusal says its number alone
  pub asked : asks 24 (length days ≤ 31)
      (asks 25 ((i : ℕ) → i < length days → OfADay (day days i)) accepts) (number (report_of days))
  pub refusal : (number (report_of days) ≡ 0 → ⊥) → values (report_of days) ≡ number (report_of days) ∷ []
  -- both totals and the worst day's place; where no day can be the worst, both totals alone
  pub worst_is : number (report_of days) ≡ 0 → (k : ℕ) → WorstDay days k
      → values (report_of days) ≡ total (λ d. d.takings) days ∷ total (λ d. d.greatest) days ∷ k ∷ []
  pub none_is : number (report_of days) ≡ 0 → NoneWorst days
      → values (report_of days) ≡ total (λ d. d.takings) days ∷ total (λ d. d.greatest) days ∷ []
  -- one of the two holds of every list, and the worst day is at one place alone
  pub one_or_none : ((k : ℕ) × WorstDay days k) ⊎ NoneWorst days
  pub one_place : (k l : ℕ) → WorstDay days k → WorstDay days l → k ≡ l

abbrev pub AlwaysTells : Type 0
AlwaysTells = (days : List DayRecord) → Tells days

-- day records as numbers: two for each day, its takings and then its greatest
pub record Paired (words : List ℕ) : Type 0 where
  pub count_is : length (pairs words) ≡ length words / 2
  pub record_is : (i : ℕ) → i < length words / 2
      → ((day (pairs words) i).takings ≡ get_or words (2 * i) 0)
      × ((day (pairs words) i).greatest ≡ get_or words (2 * i + 1) 0)

abbrev pub AlwaysPaired : Type 0
AlwaysPaired = (words : List ℕ) → Paired words
