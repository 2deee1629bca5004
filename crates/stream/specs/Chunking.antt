-- A stream that is handed a whole input in blocks.
use Rattle.std.specs.Prelude.{◌≡◌, List, [], ◌∷◌, ◌++◌, ℕ, ◌+◌, ◌-◌, ◌≤◌, ◌<◌, length, take, drop, replicate}
use Rattle.day.specs.declared.Day.{Day}
use Rattle.lines.specs.Limits.{line_buffer}
use Rattle.reply.specs.Session.{Session, reply_room, fed, consumed_count}
use Rattle.stream.specs.declared.feed.Stream.{Stream}
use Rattle.stream.specs.declared.feed.Fed.{Fed}
use Rattle.stream.specs.Input.{Plain, Split, all_lines, after_lines, replies}
use Rattle.stream.specs.Stream.{finished, session, session_of, stream_of, Feeds, Finishes}

-- one call of `feed`: the bytes handed in, those of the input behind them, the buffer before and after, and what came
-- back
pub record Feeding : Type 0 where
  pub block : List ℕ
  pub later : List ℕ
  pub before : List ℕ
  pub after : List ℕ
  pub back : Fed

-- the stream k is handed the whole input l in these blocks, each beginning at the first byte that was not taken
abbrev pub InBlocks : Stream → List ℕ → List Feeding → Type 0
InBlocks k l [] = l ≡ []
InBlocks k l (f ∷ fs) = (l ≡ f.block ++ f.later) × Feeds k f.block f.before f.after f.back
    × InBlocks f.back.stream (drop f.back.consumed f.block ++ f.later) fs

-- the stream after them, and what they wrote
abbrev pub stream_after : Stream → List Feeding → Stream
stream_after k [] = k
stream_after k (f ∷ fs) = stream_after f.back.stream fs

abbrev pub all_written : List Feeding → List ℕ
all_written [] = []
all_written (f ∷ fs) = take f.back.written f.after ++ all_written fs

-- what a session answers over an input and at its end
abbrev pub all_output : Session → List ℕ → List ℕ
all_output x l = (finished (fed x l)).output

-- at the end of input a line that has bytes is answered as if byte 10 followed, and nothing else is
abbrev pub LastLineCounts : Type 0
LastLineCounts =
    (x : Session) → (x.pending ≡ [] → finished x ≡ x) × ((x.pending ≡ [] → ⊥) → finished x ≡ fed x (10 ∷ []))

-- whatever the state, an input is answered by the answers to its lines, and nothing else, and leaves the state after
-- them
abbrev pub AnyInput : Type 0
AnyInput =
    (s : Day) (input : List ℕ) (i : Split input)
    → finished (fed (session s [] 0) input)
    ≡ record { day = after_lines s (all_lines i); pending = []; output = replies s (all_lines i) }

-- every input is lines and a rest
abbrev pub AlwaysSplit : Type 0
AlwaysSplit = (input : List ℕ) → Split input

-- with room for all its answers a block is taken whole
abbrev pub RoomForAll : Type 0
RoomForAll =
    (n : ℕ) (x : Session) (l : List ℕ) → length (fed x l).output + reply_room ≤ n → consumed_count n x l ≡ length l

-- without the room for the longest answer the end of input is not taken: what is held stays, and so does the buffer
abbrev pub NoRoomStays : Type 0
NoRoomStays =
    (k : Stream) (d e : List ℕ) (r : Fed) → length d < reply_room → Finishes k d e r
    → (r.stream ≡ stream_of (session_of k)) × (r.consumed ≡ 0) × (r.written ≡ 0) × (e ≡ d)

-- later bytes of the buffer keep their values, and zero bytes stand behind those kept
pub record KeepsBehind (d e : List ℕ) (r : Fed) : Type 0 where
  pub buffer_stays : drop r.written e ≡ drop r.written d
  pub zeros_behind : let n = r.stream.kept in drop n r.stream.pending ≡ replicate (line_buffer - n) 0

-- so it is after a block and at the end of input, whatever the stream, the block and the room
abbrev pub AlwaysKeepsBehind : Type 0
AlwaysKeepsBehind =
    (k : Stream) (d e : List ℕ) (r : Fed)
    → ((l : List ℕ) → Feeds k l d e r → KeepsBehind d e r) × (Finishes k d e r → KeepsBehind d e r)

-- A stream of any state, perhaps with the first bytes of a line kept, that is handed an input in any blocks, each with
-- any room, and then its end, with room for the longest answer: it writes the answers to the lines of these bytes and
-- the input, from its state on, and nothing else, and holds the state after them.
abbrev pub AnyChunking : Type 0
AnyChunking =
    (k : Stream) (input : List ℕ) (fs : List Feeding) → InBlocks k input fs
    → (d e : List ℕ) (r : Fed) → reply_room ≤ length d → Finishes (stream_after k fs) d e r
    → let kept = take k.kept k.pending in Plain kept → length kept ≤ line_buffer → (i : Split (kept ++ input))
    → (all_written fs ++ take r.written e ≡ replies k.day (all_lines i))
    × (r.stream.day ≡ after_lines k.day (all_lines i))
