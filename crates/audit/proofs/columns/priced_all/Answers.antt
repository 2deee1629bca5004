-- The loop keeps: `fit` says whether the prices and budgets of the first i campaigns are within their limits.
use Rattle.audit.proofs.Loops.{none_passed, next_passed, all_passed}
use mathlib.Core.Bool.{and_assoc}
use Rattle.audit.specs.Cited.{priced_columns}
use Rattle.campaigns.specs.Campaign.{priced}
use native.Mathlib.Omega.{arith}
use Rattle.audit.proofs.columns.priced_all.Goals as goal

pub loop-i-preserved : goal.loop-i-preserved
unfolding priced
loop-i-preserved c = next_passed c.loop-i.invariant (omega arith) (simp and_assoc)

pub returns : goal.returns
unfolding priced_columns
returns c = all_passed c.loop-i.invariant (omega arith)

pub loop-i-init : goal.loop-i-init
loop-i-init c = none_passed
