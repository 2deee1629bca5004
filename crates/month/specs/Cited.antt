-- Names for the contracts of the functions that take one record after the other.
use Rattle.std.specs.Prelude.{◌≡◌, Bool, true, cond, ◌&&◌, List, ℕ, ◌+◌, ◌*◌, ◌≤◌, ◌<◌, ltb, length}
use Rattle.std.specs.Prelude.{get_or, Option, Some, None, is_some, option_map, Result, Ok, Err}
use Rattle.refusal.specs.declared.Refusal.{Refusal}
use Rattle.refusal.specs.Refusal.{refusal}
use Rattle.month.specs.declared.DayRecord.{DayRecord}
use Rattle.month.specs.declared.Month.{Month}
use Rattle.month.specs.declared.Partial.{Partial}
use Rattle.month.specs.declared.Totals.{Totals}
use Rattle.month.specs.declared.Worst.{Worst}
use Rattle.month.specs.Month.{max_records, max_figure, day, belongs, can_be_worst}

-- before the first record, and behind one that belongs to no day
abbrev pub nothing_yet : Partial
nothing_yet = record { totals = Some (record { takings = 0; greatest = 0 }); worst = None }

abbrev pub invalid : Partial
invalid = record { totals = None; worst = None }

-- the totals are those of n records in their range, where there are some
abbrev pub TotalsFit : Option Totals → (n : ℕ) → Type 0
TotalsFit None n = Unit {0}
TotalsFit (Some t) n = (t.takings ≤ max_figure * n) × (t.greatest ≤ max_figure * n)

-- the worst day's figures are in their range
abbrev pub WorstFits : Option Worst → Type 0
WorstFits None = Unit {0}
WorstFits (Some w) = (w.day.takings ≤ max_figure) × (w.day.greatest ≤ max_figure)

-- four figures that may be multiplied
pub record InRange (m : Partial) (d : DayRecord) : Type 0 where
  pub worst_fits : WorstFits m.worst
  pub takings_fit : d.takings ≤ max_figure
  pub greatest_fits : d.greatest ≤ max_figure

-- n records are in m, so that the sums and products of one more fit
pub record Fits (m : Partial) (n : ℕ) : Type 0 where
  pub totals_fit : TotalsFit m.totals n
  pub worst_fits : WorstFits m.worst
  pub few : n ≤ max_records

-- the day is worse than the worst so far
abbrev pub worse_than : Option Worst → DayRecord → Bool
worse_than None d = true
worse_than (Some w) d = ltb (d.takings * w.day.greatest) (w.day.takings * d.greatest)

unfoldable pub outdoes : Partial → DayRecord → Bool
outdoes m d = can_be_worst d && worse_than m.worst d

-- with a record that belongs to a day, at place n
abbrev pub totals_with : DayRecord → Totals → Totals
totals_with d t = record { takings = t.takings + d.takings; greatest = t.greatest + d.greatest }

unfoldable pub added : Partial → DayRecord → (n : ℕ) → Partial
added m d n = record {
  totals = option_map (totals_with d) m.totals;
  worst = cond (outdoes m d) (Some (record { place = n; day = d })) m.worst;
}

-- with any record
unfoldable pub after : Partial → DayRecord → (n : ℕ) → Partial
after m d n = cond (is_some m.totals && belongs d) (added m d n) invalid

-- what is answered behind the last
abbrev pub answer_of : Option Totals → Option Worst → Result Month Refusal
answer_of None w = Err (refusal 25)
answer_of (Some t) w = Ok (record { takings = t.takings; greatest = t.greatest; worst = option_map (λ v. v.place) w })

abbrev pub finish : Partial → Result Month Refusal
finish m = answer_of m.totals m.worst

-- the first n records of these numbers stand in an array of 32
pub record Gathered (n : ℕ) (words : List ℕ) (list : List DayRecord) : Type 0 where
  pub full_length : length list ≡ 32
  pub record_is : (i : ℕ) → i < n → day list i
      ≡ record { takings = get_or words (2 * i) 0; greatest = get_or words (2 * i + 1) 0 }
