-- The constant table is the grid of power or 0: all 528 entries are compared in one computation.
use mathlib.Core.Path.{refl}
use Rattle.finite.specs.Finite.{table}
use Rattle.powers.specs.Power.{entry, row_of, grid}
use Rattle.powers.proofs.table.all_powers.Goals as goal

pub returns : goal.returns
unfolding grid table row_of entry
returns c = refl
