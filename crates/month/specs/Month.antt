-- The month in exact figures (document 02, request 14): what a list of day records reports.
use Rattle.std.specs.Prelude.{Bool, cond, not, ◌&&◌, ◌||◌, List, [], ◌∷◌, ℕ, zero, suc, ◌*◌, leb, ltb, length, get_or}
use Rattle.std.specs.Prelude.{Option, Some, None, Result, Ok, Err}
use Rattle.refusal.specs.declared.Refusal.{Refusal}
use Rattle.refusal.specs.Refusal.{refusal}
use Rattle.finite.specs.Finite.{sum, every, least}
use Rattle.questions.specs.Questions.{Question, question, first_failed}
use Rattle.month.specs.declared.DayRecord.{DayRecord}
use Rattle.month.specs.declared.Month.{Month}

-- up to 31 day records (question 24), and no figure above 2,000,000,000 (question 25)
abbrev pub max_records : ℕ
max_records = 31

abbrev pub max_figure : ℕ
max_figure = 2_000_000_000

-- the record at place i, counted from 0
abbrev pub no_record : DayRecord
no_record = record { takings = 0; greatest = 0 }

abbrev pub day : List DayRecord → (i : ℕ) → DayRecord
day days i = get_or days i no_record

-- the record belongs to a day: its takings are at most its greatest, and no figure is above the limit
unfoldable pub belongs : DayRecord → Bool
belongs d = leb d.takings d.greatest && leb d.takings max_figure && leb d.greatest max_figure

-- it can be the worst: its greatest is not 0
unfoldable pub can_be_worst : DayRecord → Bool
can_be_worst d = ltb 0 d.greatest

-- its ratio of takings to greatest is at most that of e, by cross products
unfoldable pub ratio_at_most : DayRecord → (e : DayRecord) → Bool
ratio_at_most d e = leb (d.takings * e.greatest) (e.takings * d.greatest)

-- the day at place k has the smallest ratio of those that can be the worst
unfoldable pub smallest_ratio : List DayRecord → (k : ℕ) → Bool
smallest_ratio days k =
    can_be_worst (day days k)
    && every (length days) (λ j. not (can_be_worst (day days j)) || ratio_at_most (day days k) (day days j))

-- the worst day's place, the earlier day on equality; where no day can be the worst, the number of records
unfoldable pub worst : List DayRecord → ℕ
worst days = least (length days) (smallest_ratio days)

-- both totals
unfoldable pub total_takings : List DayRecord → ℕ
total_takings days = sum (length days) (λ i. (day days i).takings)

unfoldable pub total_greatest : List DayRecord → ℕ
total_greatest days = sum (length days) (λ i. (day days i).greatest)

-- are there at most 31 records; does each belong to a day
abbrev pub month_questions : List DayRecord → List Question
month_questions days =
    question 24 (leb (length days) max_records) ∷ question 25 (every (length days) (λ i. belongs (day days i))) ∷ []

-- both totals with the worst day's place, or without one
unfoldable pub figures_of : List DayRecord → Month
figures_of days = record {
  takings = total_takings days;
  greatest = total_greatest days;
  worst = cond (ltb (worst days) (length days)) (Some (worst days)) None;
}

-- the question that failed, or x where none did
abbrev pub refused_or : ℕ → Month → Result Month Refusal
refused_or zero x = Ok x
refused_or (suc q) x = Err (refusal (suc q))

unfoldable pub report_of : List DayRecord → Result Month Refusal
report_of days = refused_or (first_failed (month_questions days)) (figures_of days)

-- the number of an answer, 0 where it is accepted, and its values
abbrev pub number : Result Month Refusal → ℕ
number (Err e) = e.question
number (Ok m) = 0

abbrev pub place_values : Option ℕ → List ℕ
place_values None = []
place_values (Some k) = k ∷ []

abbrev pub values : Result Month Refusal → List ℕ
values (Err e) = e.question ∷ []
values (Ok m) = m.takings ∷ m.greatest ∷ place_values m.worst
