-- The loop keeps: `fit` says whether the first i campaigns have age < depth and plays ≤ turns ≤ named ≤ accepted views.
use Rattle.audit.proofs.Loops.{Passed}
use lib.Dec.{leb, ltb}
use mathlib.Core.Bool.{◌&&◌}
use Rattle.campaigns.specs.Campaign.{campaign_at}
use Rattle.audit.proofs.columns.ordered_all.Given as goal

abbrev pub invariant-loop-i : goal.invariant-loop-i
invariant-loop-i l = Passed l.n
    (λ j. let x = campaign_at l.terms l.counts j in
    ltb x.age l.depth && leb x.plays x.turns && leb x.turns x.named && leb x.named l.accepted)
    l.fit l.i
