-- The loop keeps `Rest`: a day whose takings are those added up so far, from which the words that are left come to what
-- the whole list comes to from the start.
use Rattle.std.proofs.Common.{◌≡◌}
use Rattle.std.specs.Slice.Iter.{chunks_exact_rest, chunks_exact_size}
use Rattle.replay.proofs.Steps.{Rest}
use Rattle.replay.proofs.replay.Given as goal

abbrev pub invariant-loop-words : goal.invariant-loop-words
invariant-loop-words l =
    (chunks_exact_size l.words-iterator ≡ 3)
    × Rest l.fn.day l.calls (chunks_exact_rest l.words-iterator) l.state.day l.state.paid
