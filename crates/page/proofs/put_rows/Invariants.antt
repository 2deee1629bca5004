-- The lines of the campaigns, from the last to the first. The loop's invariant: those from i on stand over spaces.
use mathlib.Core.List.{List}
use Prim.Native.Nat.{ℕ, ◌*◌}
use lib.ListN.{drop}
use Rattle.finite.specs.Finite.{table}
use Rattle.campaigns.specs.Campaign.{campaign_at}
use Rattle.page.specs.Page.{Row, line_length, row_lines}
use Rattle.page.specs.Figures.{page_row}
use Rattle.page.specs.Cited.{Lays}
use Rattle.page.proofs.put_rows.Given as goal

abbrev pub rows_of : ℕ → (terms counts : List ℕ) → List Row
rows_of n t k = table n (λ i. page_row (campaign_at t k i))

abbrev pub invariant-loop-i : goal.invariant-loop-i
invariant-loop-i l =
    Lays l.initial.out l.out (line_length * l.i) (line_length * l.n) (row_lines l.i (drop l.i (rows_of l.n l.terms l.counts)))
