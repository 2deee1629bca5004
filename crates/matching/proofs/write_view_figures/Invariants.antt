-- The figures of the views below j stand.
use Rattle.matching.specs.Cited.{view_figure}
use Rattle.matching.proofs.Fill.{Filling}
use Rattle.matching.proofs.write_view_figures.Given as goal

abbrev pub invariant-loop-j : goal.invariant-loop-j
invariant-loop-j l = Filling l.initial.worth l.worth l.n l.j (view_figure l.allotment l.level)
