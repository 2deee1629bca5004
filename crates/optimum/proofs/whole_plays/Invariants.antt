-- The whole plays of the campaigns below i stand.
use Rattle.std.proofs.Common.{◌≡◌, length}
use Rattle.optimum.specs.Cited.{Divided}
use Rattle.optimum.proofs.whole_plays.Given as goal

abbrev pub invariant-loop-i : goal.invariant-loop-i
invariant-loop-i l = (length l.wholes ≡ 64) × Divided l.i l.terms l.wholes
