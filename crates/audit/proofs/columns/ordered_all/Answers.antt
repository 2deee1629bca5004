-- The loop keeps: `fit` says whether the first i campaigns have age < depth and plays ≤ turns ≤ named ≤ accepted views.
use Rattle.audit.proofs.Loops.{none_passed, next_passed, all_passed}
use mathlib.Core.Bool.{and_assoc}
use Rattle.audit.specs.Cited.{ordered_columns}
use native.Mathlib.Omega.{arith}
use Rattle.audit.proofs.columns.ordered_all.Goals as goal

pub loop-i-preserved : goal.loop-i-preserved
loop-i-preserved c = next_passed c.loop-i.invariant (omega arith) (simp and_assoc)

pub returns : goal.returns
unfolding ordered_columns
returns c = all_passed c.loop-i.invariant (omega arith)

pub loop-i-init : goal.loop-i-init
loop-i-init c = none_passed
