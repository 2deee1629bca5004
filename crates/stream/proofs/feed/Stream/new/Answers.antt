-- The blank state, `line_buffer` zero bytes and none kept are the new stream.
use mathlib.Core.Path.{ap}
use Rattle.finite.specs.Finite.{table}
use Rattle.lines.specs.Limits.{line_buffer}
use Rattle.day.specs.declared.Day.{Day}
use Rattle.stream.proofs.feed.Stream.new.Goals as goal

pub returns : goal.returns
unfolding table
returns c = ap (λ (s : Day). record { day = s; pending = table line_buffer (λ i. 0); kept = 0 }) c.blank.ensures
