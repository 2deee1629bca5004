-- The loop keeps: what is left, read on into the set so far, gives what the whole gives.
use Rattle.std.proofs.Common.{◌≡◌, ◌-◌, ◌^◌, ◌<◌, suc}
use Rattle.lines.specs.Limits.{set_bits}
use Rattle.lines.specs.Reading.{set_at}
use Rattle.lines.proofs.scan.names.Given as goal

abbrev pub invariant-loop-rest : goal.invariant-loop-rest
invariant-loop-rest l = (set_at (suc set_bits) l.set l.rest ≡ set_at (suc set_bits) 0 l.s) × (l.set < 2 ^ 64)

abbrev pub decreases-loop-rest : goal.decreases-loop-rest
decreases-loop-rest l = 2 ^ 64 - l.set
