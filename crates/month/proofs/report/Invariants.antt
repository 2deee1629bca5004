-- The loop keeps: what is reported so far is that of the records before `place`, so that one more fits.
use Rattle.std.proofs.Common.{◌≡◌}
use Rattle.month.specs.Cited.{Fits}
use Rattle.month.proofs.Upto.{upto}
use Rattle.month.proofs.report.Given as goal

abbrev pub invariant-loop-place : goal.invariant-loop-place
invariant-loop-place l = (l.so_far ≡ upto l.days l.place) × Fits l.so_far l.place
