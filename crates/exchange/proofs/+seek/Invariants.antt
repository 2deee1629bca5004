-- The search, by the number of campaigns not visited: its loop keeps `Seeking`.
use Rattle.exchange.proofs.Search.{left_out}
use Rattle.exchange.proofs.Seeking.{Seeking}
use Rattle.exchange.proofs.+seek.Given as goal

abbrev pub decreases-seek : goal.decreases-seek
decreases-seek l = left_out l.visited

abbrev pub invariant-loop-j : goal.invariant-loop-j
invariant-loop-j l =
    Seeking l.views l.fn.allotment l.campaign l.visited l.first l.bare l.allotment l.seen l.known l.j
