-- Two months, computed: one with a worst day and one without, so that neither promise about accepted reports is empty.
use mathlib.Core.Path.{◌≡◌, refl}
use mathlib.Core.List.{[], ◌∷◌}
use Prim.Native.Nat.{ℕ}
use Rattle.finite.specs.Finite.{sum, every, least}
use Rattle.questions.specs.Questions.{first_failed}
use Rattle.month.specs.declared.DayRecord.{DayRecord}
use Rattle.month.specs.declared.Month.{Month}
use Rattle.std.specs.Prelude.{Option, Some, None, Ok}
use Rattle.month.specs.Month.{belongs, can_be_worst, ratio_at_most, smallest_ratio, worst, total_takings}
use Rattle.month.specs.Month.{total_greatest, figures_of, report_of}

abbrev of : (takings greatest : ℕ) → DayRecord
of t g = record { takings = t; greatest = g }

abbrev month_of : (takings greatest : ℕ) → Option ℕ → Month
month_of t g w = record { takings = t; greatest = g; worst = w }

-- 3/4 and 6/8 are equal, and the earlier day has the place
pub equal_ratios : report_of (of 4 4 ∷ of 3 4 ∷ of 6 8 ∷ []) ≡ Ok (month_of 13 16 (Some 1))
unfolding report_of figures_of first_failed every belongs worst least smallest_ratio can_be_worst ratio_at_most
    total_takings total_greatest sum
equal_ratios = refl

-- days that could earn nothing
pub nothing_to_earn : report_of (of 0 0 ∷ of 0 0 ∷ []) ≡ Ok (month_of 0 0 None)
unfolding report_of figures_of first_failed every belongs worst least smallest_ratio can_be_worst ratio_at_most
    total_takings total_greatest sum
nothing_to_earn = refl
