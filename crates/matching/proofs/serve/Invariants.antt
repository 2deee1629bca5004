-- As many views more are found as turns are done; a search that fails ends the serving, and what it visited is closed.
use Rattle.std.proofs.Common.{◌≡◌, ◌≤◌, length}
use Rattle.exchange.specs.Cited.{Seekable}
use Rattle.matching.specs.Cited.{Gains}
use Rattle.matching.proofs.serve.Given as goal

abbrev pub invariant-loop : goal.invariant-loop
invariant-loop l = (l.counter ≤ l.plays)
    × (length l.allotment ≡ length l.initial.allotment)
    × Gains l.views l.initial.allotment l.allotment l.campaign l.closed l.counter
    × Seekable l.views l.allotment l.campaign l.closed l.first l.known
