-- The loop keeps: the first i records stand in the array.
use Rattle.month.specs.Cited.{Gathered}
use Rattle.month.proofs.pairs.gather.Given as goal

abbrev pub invariant-loop-i : goal.invariant-loop-i
invariant-loop-i l = Gathered l.i l.words l.list
