-- What the exported functions leave in the lent memory, and their statuses.
use Rattle.std.specs.Prelude.{cond, List, [], ◌∷◌, ℕ, leb, eqb, length, get_or, Result, Ok, Err}
use Rattle.lines.specs.declared.Record.{Record}
use Rattle.day.specs.declared.Day.{Day}
use Rattle.day.specs.declared.Outcome.{Outcome}
use Rattle.day.specs.Day.{state_of}
use Rattle.day.specs.Calls.{Call, call, number}
use Rattle.day.specs.Day as states
use Rattle.refusal.specs.declared.Refusal.{Refusal}
use Rattle.noon.specs.declared.Figures.{Figures}
use Rattle.noon.specs.Noon.{at_noon}
use Rattle.noon.specs.Noon as noon
use Rattle.lines.specs.OneText as read
use Rattle.lines.specs.Reading as lines
use Rattle.page.specs.Printing as page
use Rattle.writer.specs.Writing as writer
use Rattle.encoding.specs.Encoding.{no_head, no_form, is_head, head_in, head_words, answer_after, is_form, record_of}
use Rattle.encoding.specs.Encoding.{record_words, no_stream, no_room, is_stream, stream_words}
use Rattle.reply.specs.Session.{Session, reply_room, fed, consumed_count}
use Rattle.stream.specs.declared.feed.Stream.{Stream}
use Rattle.stream.specs.Stream.{finished, session_of, stream_of, stream_at, consumed_bytes, answered_in}

-- what is lent to an operation
pub record Memory : Type 0 where
  pub head : List ℕ
  pub terms : List ℕ
  pub counts : List ℕ
  pub answer : List ℕ

abbrev pub memory : (head terms counts answer : List ℕ) → Memory
memory h t n a = record { head = h; terms = t; counts = n; answer = a }

-- the state in lent words and arrays
abbrev pub lent_state : (head terms counts : List ℕ) → Day
lent_state h t n = state_of (head_in h) t n

-- that of an operation's memory, and what a call of it hands back
abbrev pub state : Memory → Day
state m = lent_state m.head m.terms m.counts

abbrev pub outcome : Call → Memory → Outcome
outcome c m = call (state m) c

-- an outcome, stored where the answer a was
abbrev pub stored : Outcome → (a : List ℕ) → Memory
stored o a =
    memory (head_words (states.head_of o.day)) o.day.terms o.day.counts (answer_after o.answer a)

-- an operation: 0; the number of the question that failed, with everything as it was; or 100, with everything as it was
unfoldable pub status : Call → Memory → ℕ
status c m = cond (is_head m.head) (number (outcome c m).answer) no_head

unfoldable pub memory_after : Call → Memory → Memory
memory_after c m = cond (is_head m.head) (stored (outcome c m) m.answer) m

-- the figures at noon: 0 with full, the total claim and the floor's figure; the number of the question that failed, or
-- 100, with them as they were
abbrev pub noon_in : (head terms counts : List ℕ) → Result Figures Refusal
noon_in h t n = at_noon (lent_state h t n)

abbrev pub noon_status : (head terms counts : List ℕ) → ℕ
noon_status h t n = cond (is_head h) (noon.number (noon_in h t n)) no_head

abbrev pub figures_into : Result Figures Refusal → List ℕ → List ℕ
figures_into (Err q) l = l
figures_into (Ok f) l = f.full ∷ f.claim ∷ f.floor ∷ []

abbrev pub figures_after : (head terms counts figures : List ℕ) → List ℕ
figures_after h t n l = cond (is_head h) (figures_into (noon_in h t n) l) l

-- reading a line: 0, or the number of the question that failed with the record as it was
abbrev pub read_status : (line : List ℕ) → ℕ
read_status l = read.number (lines.reading l)

abbrev pub read_into : Result Record Refusal → List ℕ → List ℕ
read_into (Ok r) w = record_words r
read_into (Err e) w = w

abbrev pub record_after : (line words : List ℕ) → List ℕ
record_after l w = read_into (lines.reading l) w

-- writing a line: 0, the number of the question that failed, or 101 with everything as it was
abbrev pub write_status : (words out : List ℕ) → ℕ
write_status w d = cond (is_form w) (writer.number (writer.writing (record_of w) d)) no_form

abbrev pub line_after : (words out : List ℕ) → List ℕ
line_after w d = cond (is_form w) (writer.written (record_of w) d) d

abbrev pub length_told : Result ℕ Refusal → List ℕ → List ℕ
length_told (Ok n) l = n ∷ []
length_told (Err e) l = l

abbrev pub length_after : (words out written : List ℕ) → List ℕ
length_after w d l = cond (is_form w) (length_told (writer.writing (record_of w) d) l) l

-- what is lent to a stream: its state, the first bytes of an unfinished line, its words, and the buffer for answers
pub record Lent : Type 0 where
  pub head : List ℕ
  pub terms : List ℕ
  pub counts : List ℕ
  pub pending : List ℕ
  pub words : List ℕ
  pub out : List ℕ

abbrev pub lent : (head terms counts pending words out : List ℕ) → Lent
lent h t n p w d = record { head = h; terms = t; counts = n; pending = p; words = w; out = d }

-- the stream in it
abbrev pub stream_in : Lent → Stream
stream_in m = stream_at (head_in m.head) m.terms m.counts m.pending (get_or m.words 0 0)

-- 0, or what is missing, with everything as it was
unfoldable pub stream_status : (head words : List ℕ) → (room : ℕ) → ℕ
stream_status h w n =
    cond (is_head h) (cond (is_stream w) (cond (leb reply_room n) 0 no_room) no_stream) no_head

abbrev pub status_in : Lent → ℕ
status_in m = stream_status m.head m.words (length m.out)

-- the stream has come to y, n bytes of the block were taken, and the answers stand at the front of the buffer d
abbrev pub come_to : Session → (n : ℕ) → (d : List ℕ) → Lent
come_to y n d =
    lent (head_words (states.head_of y.day)) y.day.terms y.day.counts (stream_of y).pending
    (stream_words (length y.pending) n (length y.output)) (answered_in y d)

unfoldable pub feed_after : (input : List ℕ) → Lent → Lent
feed_after l m =
    let x = session_of (stream_in m) in
    cond (eqb (status_in m) 0)
    (come_to (fed x (consumed_bytes x l m.out)) (consumed_count (length m.out) x l) m.out) m

unfoldable pub finish_after : Lent → Lent
finish_after m = cond (eqb (status_in m) 0) (come_to (finished (session_of (stream_in m))) 0 m.out) m

-- printing a page: 0, the number of the question that failed, or 100 with everything as it was
abbrev pub page_status : (head terms counts out : List ℕ) → ℕ
page_status h t n d = cond (is_head h) (page.number (page.printing (lent_state h t n) d)) no_head

abbrev pub page_after : (head terms counts out : List ℕ) → List ℕ
page_after h t n d = cond (is_head h) (page.printed (lent_state h t n) d) d

abbrev pub page_length_told : Result ℕ Refusal → List ℕ → List ℕ
page_length_told (Ok n) l = n ∷ []
page_length_told (Err q) l = l

abbrev pub page_length_after : (head terms counts out written : List ℕ) → List ℕ
page_length_after h t n d l = cond (is_head h) (page_length_told (page.printing (lent_state h t n) d) l) l
