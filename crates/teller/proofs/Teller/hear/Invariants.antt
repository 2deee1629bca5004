-- The loop keeps `Hearing`, with a turn less for each read.
use Rattle.std.proofs.Common.{◌≡◌, ◌-◌, length}
use Rattle.wire.specs.Wires.{max_reads}
use Rattle.teller.proofs.Hearing.{Hearing}
use Rattle.teller.proofs.Teller.hear.Given as goal

abbrev pub invariant-loop : goal.invariant-loop
invariant-loop g l =
    (length l.block ≡ length l.initial.block)
    × Hearing g.L.Listener.took l.initial.listener l.listener l.teller (max_reads - l.counter)
