-- A block of input and its end: what a stream hands back.
use Rattle.std.specs.Prelude.{◌≡◌, cond, List, [], ◌++◌, ℕ, ◌-◌, leb, length, take, drop, replicate}
use Rattle.lines.specs.Limits.{line_buffer}
use Rattle.campaigns.specs.declared.Head.{Head}
use Rattle.day.specs.declared.Day.{Day}
use Rattle.day.specs.Day.{blank, head_of, state_of}
use Rattle.reply.specs.Session.{Session, reply_room, fed, consumed_count}
use Rattle.stream.specs.declared.feed.Stream.{Stream}
use Rattle.stream.specs.declared.feed.Fed.{Fed}
use Rattle.stream.specs.declared.feed.Moved.{Moved}
use Rattle.stream.specs.Input.{last_line, after_lines, replies}

-- the end of input: what is pending is the last line
unfoldable pub finished : Session → Session
finished x = record {
  day = after_lines x.day (last_line x.pending);
  pending = [];
  output = x.output ++ replies x.day (last_line x.pending);
}

-- what a stream begins with: its state, the bytes that it has kept, and no answers yet
abbrev pub session : Day → (bytes : List ℕ) → (kept : ℕ) → Session
session s l n = record { day = s; pending = take n l; output = [] }

abbrev pub session_of : Stream → Session
session_of k = session k.day k.pending k.kept

-- x with its answers handed over
abbrev pub silent : Session → Session
silent x = record { day = x.day; pending = x.pending; output = [] }

-- the bytes l at the front of a line buffer, zero bytes behind them
abbrev pub buffered : List ℕ → List ℕ
buffered l = l ++ replicate (line_buffer - length l) 0

-- the stream that holds y
abbrev pub stream_of : Session → Stream
stream_of y = record { day = y.day; pending = buffered y.pending; kept = length y.pending }

-- the stream that a program begins with: the blank state, and a line buffer of zero bytes
abbrev pub new_stream : Stream
new_stream = stream_of (session blank [] 0)

-- what is handed back where the stream has come to y and n bytes of the block were taken
abbrev pub handed_back : Session → (n : ℕ) → Fed
handed_back y n = record { stream = stream_of y; consumed = n; written = length y.output }

-- the buffer d with the answers at its front
abbrev pub answered_in : Session → (d : List ℕ) → List ℕ
answered_in y d = y.output ++ drop (length y.output) d

-- both: r is handed back, and the buffer d became e
pub record ComesTo (y : Session) (n : ℕ) (d e : List ℕ) (r : Fed) : Type 0 where
  pub back_is : r ≡ handed_back y n
  pub out_is : e ≡ answered_in y d

-- the bytes that are taken of the input l
abbrev pub consumed_bytes : Session → (l d : List ℕ) → List ℕ
consumed_bytes x l d = take (consumed_count (length d) x l) l

-- feeding a block
abbrev pub Feeds : Stream → (l d e : List ℕ) → Fed → Type 0
Feeds k l d e r =
    let x = session_of k in
    ComesTo (fed x (consumed_bytes x l d)) (consumed_count (length d) x l) d e r

-- the end of input: without the room nothing is answered
abbrev pub Finishes : Stream → (d e : List ℕ) → Fed → Type 0
Finishes k d e r =
    ComesTo (cond (leb reply_room (length d)) (finished (session_of k)) (session_of k)) 0 d e r

-- a stream in lent memory, and what it has become
abbrev pub stream_at : Head → (terms counts pending : List ℕ) → (kept : ℕ) → Stream
stream_at h t n p k = record { day = state_of h t n; pending = p; kept = k }

abbrev pub fed_at : Moved → (terms counts pending : List ℕ) → Fed
fed_at m t n p =
    record { stream = stream_at m.head t n p m.kept; consumed = m.consumed; written = m.written }

-- which is all that is lent and handed back, as it stands
pub record InLentMemory (m : Moved) (terms counts pending : List ℕ) : Type 0 where
  pub head_is : head_of (fed_at m terms counts pending).stream.day ≡ m.head
  pub terms_are : (fed_at m terms counts pending).stream.day.terms ≡ terms
  pub counts_are : (fed_at m terms counts pending).stream.day.counts ≡ counts
  pub pending_is : (fed_at m terms counts pending).stream.pending ≡ pending
  pub kept_is : (fed_at m terms counts pending).stream.kept ≡ m.kept
  pub consumed_is : (fed_at m terms counts pending).consumed ≡ m.consumed
  pub written_is : (fed_at m terms counts pending).written ≡ m.written

abbrev pub AlwaysInLentMemory : Type 0
AlwaysInLentMemory = (m : Moved) (terms counts pending : List ℕ) → InLentMemory m terms counts pending
