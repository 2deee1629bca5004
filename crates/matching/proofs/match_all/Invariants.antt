-- Between two served campaigns the standing holds, and those not served are one fewer at each turn.
use Rattle.sets.specs.Set.{size}
use Rattle.matching.proofs.Matching.{Underway}
use Rattle.matching.proofs.match_all.Given as goal

abbrev pub invariant-loop-unserved : goal.invariant-loop-unserved
invariant-loop-unserved l =
    Underway l.count l.prices l.wholes l.views l.initial.allotment l.allotment l.level l.first
    l.closed l.bare l.unserved

abbrev pub decreases-loop-unserved : goal.decreases-loop-unserved
decreases-loop-unserved l =
    size l.unserved
