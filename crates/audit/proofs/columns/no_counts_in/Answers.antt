-- The loop keeps: the "or" so far is zero exactly if the entries from n on and below i have no counts.
use Rattle.audit.specs.Cited.{no_counts_in}
use Rattle.audit.proofs.Zeros.{or_zero}
use Rattle.audit.proofs.Loops.{none_passed_from, next_passed_from, all_passed}
use mathlib.Core.Bool.{and_assoc}
use Rattle.campaigns.specs.Campaign.{uncounted}
use native.Mathlib.Omega.{arith}
use Rattle.audit.proofs.columns.no_counts_in.Goals as goal

pub loop-i-preserved : goal.loop-i-preserved
unfolding uncounted
loop-i-preserved c = next_passed_from c.loop-i.invariant (omega arith) (simp (or_zero, and_assoc))

pub returns : goal.returns
unfolding no_counts_in
returns c = all_passed c.loop-i.invariant.passed (omega arith)

pub loop-i-init : goal.loop-i-init
loop-i-init c = none_passed_from c.requires.0
