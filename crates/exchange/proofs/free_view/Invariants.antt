-- The views below j are passed: given, or not naming the campaign. The first that is neither is the least of all.
use Rattle.std.proofs.Common.{◌≡◌, ℕ, ◌<◌, false}
use Rattle.exchange.specs.Cited.{free}
use Rattle.exchange.proofs.free_view.Given as goal

abbrev pub invariant-loop-j : goal.invariant-loop-j
invariant-loop-j l = (i : ℕ) → i < l.j → free l.views l.allotment l.campaign i ≡ false
