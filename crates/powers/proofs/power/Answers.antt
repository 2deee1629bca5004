-- An entry inside is read off the table, which is the grid of power or 0 (by the computation of `all_powers`). Outside
-- the code and the definition give 0.
use mathlib.Core.Path.{◌≡◌, sym, ◌∙◌}
use mathlib.Core.Bool.{cond, ◌&&◌}
use lib.Dec.{leb}
use Rattle.finite.specs.Finite.{table}
use Rattle.powers.specs.Power.{entry, row_of, grid, listed}
use Rattle.powers.proofs.Entries.{inside_means, grid_at}
use Rattle.powers.proofs.power.Goals as goal

pub returns-then-width-exponent : goal.returns-then-width-exponent
unfolding grid row_of table entry listed
returns-then-width-exponent c =
    let a = c.args in
    let t = c.if-width-exponent.true in
    let h = (inside_means a.width a.exponent).0 t in
    let e : cond (leb 1 a.width && leb a.width 16 && leb a.exponent 32) (entry a.width a.exponent) 0 ≡
    entry a.width a.exponent = rw t in
    grid_at a.width a.exponent h.0.0 h.0.1 h.1 ∙ sym e

pub returns : goal.returns
unfolding listed
returns c = rw c.if-width-exponent.false
