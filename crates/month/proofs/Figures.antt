-- The figures of a record that belongs to a day are in their range.
use mathlib.Core.Path.{◌≡◌}
use mathlib.Core.Bool.{true}
use Prim.Native.Nat.{◌≤◌}
use mathlib.Core.Logic.{◌↔◌}
use Rattle.finite.proofs.Meanings.{leb_means, both_means}
use Rattle.month.specs.declared.DayRecord.{DayRecord}
use Rattle.month.specs.Month.{max_figure, belongs}
use Rattle.month.specs.Promises.{OfADay}

-- the test of question 25 means its sentence
pub belongs_means : (d : DayRecord) → (belongs d ≡ true) ↔ OfADay d
unfolding belongs
belongs_means d =
    both_means (both_means (leb_means d.takings d.greatest) (leb_means d.takings max_figure))
    (leb_means d.greatest max_figure)

pub takings_within : (d : DayRecord) → belongs d ≡ true → d.takings ≤ max_figure
takings_within d e = ((belongs_means d).0 e).0.1

pub greatest_within : (d : DayRecord) → belongs d ≡ true → d.greatest ≤ max_figure
greatest_within d e = ((belongs_means d).0 e).1
