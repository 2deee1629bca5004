-- The loop keeps `Going`: the lines so far are answered, the state is ready, and `end` is the end of the next line.
use mathlib.Core.Path.{◌≡◌}
use Prim.Native.Nat.{◌-◌}
use lib.ListN.{length}
use Rattle.day.specs.Day.{state_of}
use Rattle.batch.proofs.Batches.{Going}
use Rattle.batch.proofs.run_batch.Given as goal

abbrev pub invariant-loop-end : goal.invariant-loop-end
invariant-loop-end l =
    Going l.input (record {
      day = state_of l.initial.turn.head l.initial.terms l.initial.counts;
      kept = l.initial.kept;
      from = l.initial.from;
      at = l.initial.turn.at;
    }) l.initial.pending l.initial.out l.turn l.list l.terms l.counts l.kept l.from l.pending l.out l.end
    × (length l.out ≡ length l.initial.out)

abbrev pub decreases-loop-end : goal.decreases-loop-end
decreases-loop-end l = length l.input - l.from
