-- Names for the contracts of inner functions: a run over a block of input.
use Rattle.std.specs.Prelude.{◌≡◌, List, ℕ, ◌≤◌, length, take}
use Rattle.lines.specs.Limits.{line_buffer}
use Rattle.buffer.specs.Buffer.{Put}
use Rattle.reply.specs.Session.{Session, fed, consumed_count}
use Rattle.batch.specs.Cited.{Position}
use Rattle.stream.specs.Stream.{consumed_bytes}

-- what a run over the input hands back
pub record Processed (x : Session) (l d e : List ℕ) (r : Position) (g : List ℕ) : Type 0 where
  pub inside : r.from ≤ length l
  pub from : r.from ≡ consumed_count (length d) x l
  pub day : r.day ≡ (fed x (consumed_bytes x l d)).day
  pub pending : take r.kept g ≡ (fed x (consumed_bytes x l d)).pending
  pub put : Put d e 0 r.at (fed x (consumed_bytes x l d)).output
  pub fits : r.at ≤ length d
  pub few : r.kept ≤ line_buffer
