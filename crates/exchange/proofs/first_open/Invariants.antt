-- No view below j is free; the first that is ends the walk, and is the least of all.
use Rattle.exchange.specs.Cited.{NoneFree}
use Rattle.exchange.proofs.first_open.Given as goal

abbrev pub invariant-loop-j : goal.invariant-loop-j
invariant-loop-j l = NoneFree l.allotment l.j
