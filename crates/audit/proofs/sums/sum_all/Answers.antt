-- The sums without weights and the one with them are `summed`; where a campaign has paid too much, both say none.
use Rattle.audit.proofs.Claims.{some_given, none_given}
use Rattle.audit.specs.Cited.{sums_of, spent_of, waited_of, summed}
use Rattle.audit.specs.declared.sums.Spent.{Spent}
use Rattle.audit.specs.declared.sums.Sums.{Sums}
use Rattle.std.specs.Prelude.{Option, Some}
use mathlib.Core.Path.{ap₂, sym, ◌∙◌}
use Prim.Native.Nat.{ℕ}
use Rattle.audit.proofs.sums.sum_all.Goals as goal

-- the sums without weights with the one of the weights
abbrev joined : Spent → ℕ → Option Sums
joined s w = Some (record { budgets = s.budgets; takings = s.takings; turned = s.turned; waited = w })

pub returns-in_err-budgets : goal.returns-in_err-budgets
unfolding summed spent_of
returns-in_err-budgets c = c.from_residual.ensures ∙ sym (rw (none_given _ c.in_err-budgets.ensures))

pub returns : goal.returns
unfolding summed spent_of sums_of waited_of
returns c =
    let k = some_given c.in_ok-budgets.ensures in
    rw k.0 (ap₂ joined k.1 c.wait_all-waited.ensures)
