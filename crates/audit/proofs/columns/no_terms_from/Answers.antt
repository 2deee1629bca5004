-- The loop keeps: the "or" so far is zero exactly if the entries from n on and below i have no price and no budget.
use Rattle.audit.specs.Cited.{no_terms_from}
use Rattle.audit.proofs.Zeros.{or_zero}
use Rattle.audit.proofs.Loops.{none_passed_from, next_passed_from, all_passed}
use native.Mathlib.Omega.{arith}
use Rattle.audit.proofs.columns.no_terms_from.Goals as goal

pub loop-i-preserved : goal.loop-i-preserved
loop-i-preserved c = next_passed_from c.loop-i.invariant (omega arith) (simp or_zero)

pub returns : goal.returns
unfolding no_terms_from
returns c = all_passed c.loop-i.invariant.passed (omega arith)

pub loop-i-init : goal.loop-i-init
loop-i-init c = none_passed_from c.requires
