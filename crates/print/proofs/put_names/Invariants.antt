-- The names of a set by its walk. The loop keeps `Names`: some names stand, and those of what is left of the walk are
-- to come.
use Rattle.print.proofs.Names.{Names}
use Rattle.print.proofs.put_names.Given as goal

abbrev pub invariant-loop-name : goal.invariant-loop-name
invariant-loop-name l = Names l.initial.out l.at l.set l.out l.to l.name-iterator.0
