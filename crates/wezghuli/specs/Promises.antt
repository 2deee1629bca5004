-- What the functions promise to a caller, besides their contracts: operations in turn are calls in turn, a refusal and
-- a misuse leave all lent memory, what is given is stored, blocks in turn are handed to one stream, the check accepts
-- what the search leaves and its takings are the greatest, each status is the number of the first question that fails,
-- and misuse is told apart from every refusal.
use Rattle.std.specs.Prelude.{◌≡◌, true, false, cond, List, [], ◌∷◌, map, ◌⊎◌, ℕ, ◌+◌, ◌≤◌, ◌<◌, eqb, length, get_or}
use Rattle.std.specs.Prelude.{take, replicate}
use Rattle.std.specs.Prelude.{Ok}
use Rattle.campaigns.specs.View.{full}
use Rattle.day.specs.Day.{blank}
use Rattle.day.specs.Day as states
use Rattle.day.specs.Calls.{number, Call, call}
use Rattle.questions.specs.Questions.{first_failed}
use Rattle.noon.specs.Noon.{floor_figure, noon_questions}
use Rattle.demands.specs.Transcript.{transcript, final}
use Rattle.lines.specs.declared.Record.{Record}
use Rattle.lines.specs.Limits.{line_buffer}
use Rattle.lines.specs.OneText as read
use Rattle.lines.specs.Reading.{reading}
use Rattle.writer.specs.Writing as writer
use Rattle.page.specs.Printing as page
use Rattle.reply.specs.Session.{reply_room}
use Rattle.stream.specs.declared.feed.Fed.{Fed}
use Rattle.stream.specs.Stream.{new_stream, Feeds, Finishes}
use Rattle.allotments.specs.Limits.{max_handed_in}
use Rattle.allotments.specs.Allotment.{at, nobody}
use Rattle.std.specs.Prelude.{Ok}
use Rattle.optimum.specs.Optimum.{failed, fits, takings_questions, takings_answer, most_of, BestAllotment}
use Rattle.encoding.specs.Encoding.{no_head, no_form, no_stream, no_room, no_fit, is_head, head_words}
use Rattle.encoding.specs.Encoding.{answer_after, record_words, record_of, stream_words}
use Rattle.encoding.specs.Faithful.{seven}
use Rattle.wezghuli.specs.Library.{Memory, memory, state, status, memory_after, noon_status, figures_after}
use Rattle.wezghuli.specs.Library.{read_status, record_after, write_status, line_after, length_after}
use Rattle.wezghuli.specs.Library.{Lent, lent, stream_in, status_in, feed_after, finish_after}
use Rattle.wezghuli.specs.Library.{lent_state, page_status, page_after, page_length_after}
use Rattle.wezghuli.specs.Search.{search_status, SearchLeaves, check_status, takings_status}
use Rattle.wezghuli.specs.Search.{takings_after}

-- operations in turn, each on the memory that the one before left: what the last one leaves, and their statuses
abbrev pub left_by : Memory → List Call → Memory
left_by m [] = m
left_by m (k ∷ ks) = left_by (memory_after k m) ks

abbrev pub statuses : Memory → List Call → List ℕ
statuses m [] = []
statuses m (k ∷ ks) = status k m ∷ statuses (memory_after k m) ks

-- what `wezghuli_blank` leaves beside the words for an answer
abbrev pub blank_memory : (answer : List ℕ) → Memory
blank_memory a = memory (head_words (states.head_of blank)) blank.terms blank.counts a

-- the same lent to a stream: with a line buffer and a stream's words of zeros, and a buffer for answers
abbrev pub blank_lent : (out : List ℕ) → Lent
blank_lent d =
    lent (head_words (states.head_of blank)) blank.terms blank.counts (replicate line_buffer 0)
    (stream_words 0 0 0) d

-- what the lent memory says that a stream handed back
abbrev pub handed_in : Lent → Fed
handed_in m =
    record { stream = stream_in m; consumed = get_or m.words 1 0; written = get_or m.words 2 0 }

pub record Promises : Type 0 where
  -- what the contracts say of lent memory they say of all that is lent, as it stands
  pub memory_is : (head terms counts answer : List ℕ) → let m = memory head terms counts answer in
      (m.head ≡ head) × (m.terms ≡ terms) × (m.counts ≡ counts) × (m.answer ≡ answer)
  pub lent_is : (head terms counts pending words out : List ℕ) → let m = lent head terms counts pending words out in
      (m.head ≡ head) × (m.terms ≡ terms) × (m.counts ≡ counts)
      × (m.pending ≡ pending) × (m.words ≡ words) × (m.out ≡ out)
  -- an operation leaves a head, and the state that the call hands back
  pub head_stays : (k : Call) (m : Memory) → is_head m.head ≡ true → is_head (memory_after k m).head ≡ true
  pub next_state : (k : Call) (m : Memory) → is_head m.head ≡ true → state (memory_after k m) ≡ (call (state m) k).day
  -- so that operations in turn leave the state at the end of their calls, and their statuses are the numbers of its
  -- answers; from the blank memory on they are calls from the blank state
  pub last_state : (ks : List Call) (m : Memory) → is_head m.head ≡ true
      → state (left_by m ks) ≡ final (state m) ks
  pub statuses_are : (ks : List Call) (m : Memory) → is_head m.head ≡ true
      → statuses m ks ≡ map (λ x. number x.answer) (transcript (state m) ks)
  pub from_blank : (a : List ℕ) → (is_head (blank_memory a).head ≡ true) × (state (blank_memory a) ≡ blank)
  -- a refusal, and a misuse of seven words that are no head, leave every word
  pub refusal_keeps : (a b c d e f g : ℕ) (terms counts answer : List ℕ) (k : Call)
      → (status k (memory (seven a b c d e f g) terms counts answer) ≡ 0 → ⊥)
      → memory_after k (memory (seven a b c d e f g) terms counts answer)
      ≡ memory (seven a b c d e f g) terms counts answer
  -- so does every other function that has something lent to write to: a status that is not 0 leaves all of it
  pub noon_keeps : (head terms counts figures : List ℕ) → (noon_status head terms counts ≡ 0 → ⊥)
      → figures_after head terms counts figures ≡ figures
  pub read_keeps : (line words : List ℕ) → (read_status line ≡ 0 → ⊥) → record_after line words ≡ words
  pub write_keeps : (words out written : List ℕ) → (write_status words out ≡ 0 → ⊥)
      → (line_after words out ≡ out) × (length_after words out written ≡ written)
  pub feed_keeps : (l : List ℕ) (m : Lent) → (status_in m ≡ 0 → ⊥) → feed_after l m ≡ m
  pub finish_keeps : (m : Lent) → (status_in m ≡ 0 → ⊥) → finish_after m ≡ m
  pub page_keeps : (head terms counts out written : List ℕ) → (page_status head terms counts out ≡ 0 → ⊥)
      → (page_after head terms counts out ≡ out) × (page_length_after head terms counts out written ≡ written)
  pub search_keeps : (head terms counts views a a' u u' v v' : List ℕ)
      → (search_status head terms counts views a u v ≡ 0 → ⊥) → SearchLeaves head terms counts views a a' u u' v v'
      → (a' ≡ a) × (u' ≡ u) × (v' ≡ v)
  pub takings_keeps : (head terms counts a takings : List ℕ) → (takings_status head terms counts a ≡ 0 → ⊥)
      → takings_after head terms counts a takings ≡ takings
  -- the answer of a call is stored, and so is what else was asked for: full, claim and the floor's figure; the record
  -- of a line; a line or a page, and its length; what an allotment takes
  pub answer_is : (k : Call) (m : Memory) → is_head m.head ≡ true
      → (memory_after k m).answer ≡ answer_after (call (state m) k).answer m.answer
  pub noon_is : (head terms counts figures : List ℕ) → is_head head ≡ true
      → let s = lent_state head terms counts in states.sound s ≡ true
      → figures_after head terms counts figures
      ≡ full s.plan (states.total_takings s) ∷ states.total_claim s ∷ floor_figure s ∷ []
  pub read_is : (line words : List ℕ) (r : Record) → reading line ≡ Ok r → record_after line words ≡ record_words r
  pub write_is : (words out written : List ℕ) → get_or words 0 0 ≤ 12 → writer.write_question (record_of words) out ≡ 0
      → (line_after words out ≡ writer.written (record_of words) out)
      × (length_after words out written ≡ length (writer.line (record_of words)) ∷ [])
  pub page_is : (head terms counts out written : List ℕ) → is_head head ≡ true
      → let s = lent_state head terms counts in page.page_question s out ≡ 0
      → (page_after head terms counts out ≡ page.printed s out)
      × (page_length_after head terms counts out written ≡ length (page.page_of s) ∷ [])
  pub takings_is : (head terms counts a takings : List ℕ) (x : ℕ) → is_head head ≡ true
      → takings_answer (lent_state head terms counts) a ≡ Ok x → takings_after head terms counts a takings ≡ x ∷ []
  -- the words of the blank state: Closed, takings 0, depth 1, width 1, no campaigns, no views, no marks
  pub blank_words : (a : List ℕ) → (blank_memory a).head ≡ seven 2 0 1 1 0 0 0
  -- campaign i of the arrays: its price and budget; its plays, turns, age and named
  pub columns : (head terms counts : List ℕ) (i : ℕ) → let c = states.campaign (lent_state head terms counts) i in
      (c.price ≡ get_or terms i 0) × (c.budget ≡ get_or terms (i + 64) 0) × (c.plays ≡ get_or counts i 0)
      × (c.turns ≡ get_or counts (i + 64) 0) × (c.age ≡ get_or counts (i + 128) 0)
      × (c.named ≡ get_or counts (i + 192) 0)
  -- the stream in lent memory: the state that the operations find there, so that blocks and operations may take turns;
  -- the line buffer, and as many bytes kept as the first word says
  pub stream_is : (m : Lent) → ((stream_in m).day ≡ lent_state m.head m.terms m.counts)
      × ((stream_in m).pending ≡ m.pending) × ((stream_in m).kept ≡ get_or m.words 0 0)
  -- a head, no more bytes kept than a line buffer has and room for the longest answer are a stream, and what a block
  -- and the end of input leave is one again
  pub stream_taken : (m : Lent) → is_head m.head ≡ true → get_or m.words 0 0 ≤ line_buffer
      → reply_room ≤ length m.out → status_in m ≡ 0
  pub feed_stays : (l : List ℕ) (m : Lent) → status_in m ≡ 0 → status_in (feed_after l m) ≡ 0
  pub finish_stays : (m : Lent) → status_in m ≡ 0 → status_in (finish_after m) ≡ 0
  -- from the blank memory on it is a new stream, and a block and the end of input leave what the stream hands back, so
  -- that `AnyChunking` and `AlwaysKeepsBehind` of `crates/stream/specs/Chunking.antt` speak of them
  pub stream_from_blank : (out : List ℕ) → stream_in (blank_lent out) ≡ new_stream
  pub feeds : (l : List ℕ) (m : Lent) → status_in m ≡ 0
      → Feeds (stream_in m) l m.out (feed_after l m).out (handed_in (feed_after l m))
  pub finishes : (m : Lent) → status_in m ≡ 0
      → Finishes (stream_in m) m.out (finish_after m).out (handed_in (finish_after m))
  -- what a search leaves is accepted by the check, and its takings are the greatest
  pub search_checked : (head terms counts views a a' u u' v v' : List ℕ)
      → search_status head terms counts views a u v ≡ 0 → SearchLeaves head terms counts views a a' u u' v v'
      → check_status head terms counts views a' u' v' ≡ 0
  pub search_takings : (head terms counts views a a' u u' v v' : List ℕ)
      → search_status head terms counts views a u v ≡ 0 → SearchLeaves head terms counts views a a' u u' v v'
      → (takings : List ℕ) → (takings_status head terms counts (take (length views) a') ≡ 0)
      × (takings_after head terms counts (take (length views) a') takings
      ≡ most_of (lent_state head terms counts) views ∷ [])
  -- entries beyond the views, and beyond the campaigns, keep their values
  pub search_beyond : (head terms counts views a a' u u' v v' : List ℕ) → is_head head ≡ true
      → SearchLeaves head terms counts views a a' u u' v v' → (j : ℕ)
      → (length views ≤ j → (at a' j ≡ at a j) × (at v' j ≡ at v j))
      × ((lent_state head terms counts).count ≤ j → at u' j ≡ at u j)
  -- what the check accepts is an allotment that none exceeds
  pub check_best : (head terms counts views a u v : List ℕ) → check_status head terms counts views a u v ≡ 0
      → BestAllotment (lent_state head terms counts) views a
  -- where nothing is misused, a status is 0 or the number of the first question that fails: of a line that is read, as
  -- `Says` has it; of a check where none fails, 0 if the figures fit and `no_fit` if not
  pub noon_told : (head terms counts : List ℕ) → is_head head ≡ true
      → noon_status head terms counts ≡ first_failed (noon_questions (lent_state head terms counts))
  pub read_told : (line : List ℕ) → read.Says line (read_status line) (read.values (reading line))
  pub write_told : (words out : List ℕ) → get_or words 0 0 ≤ 12
      → write_status words out ≡ writer.write_question (record_of words) out
  pub page_told : (head terms counts out : List ℕ) → is_head head ≡ true
      → page_status head terms counts out ≡ page.page_question (lent_state head terms counts) out
  pub search_told : (head terms counts views a u v : List ℕ) → is_head head ≡ true
      → search_status head terms counts views a u v ≡ failed (lent_state head terms counts) views a u v
  pub check_told : (head terms counts views a u v : List ℕ) → is_head head ≡ true
      → let s = lent_state head terms counts in check_status head terms counts views a u v
      ≡ cond (eqb (failed s views a u v) 0) (cond (fits s views a u v) 0 no_fit) (failed s views a u v)
  pub takings_told : (head terms counts a : List ℕ) → is_head head ≡ true
      → takings_status head terms counts a ≡ first_failed (takings_questions (lent_state head terms counts) a)
  -- numbers of the header: room for the longest answer, a line buffer, the entry for nobody, the most views handed in
  pub header_numbers : (reply_room ≡ 16_384) × (line_buffer ≡ 201) × (nobody ≡ 64) × (max_handed_in ≡ 256)
  -- misuse is told by its status, whatever else is lent: words that are no head, no record (12 is the last form), no
  -- stream; too little room
  pub misuse_numbers :
      (no_head ≡ 100) × (no_form ≡ 101) × (no_stream ≡ 102) × (no_room ≡ 103) × (no_fit ≡ 104)
  pub call_misuse : (k : Call) (m : Memory) → is_head m.head ≡ false → status k m ≡ no_head
  pub noon_misuse : (head terms counts : List ℕ) → is_head head ≡ false → noon_status head terms counts ≡ no_head
  pub write_misuse : (words out : List ℕ) → 12 < get_or words 0 0 → write_status words out ≡ no_form
  pub page_misuse : (head terms counts out : List ℕ) → is_head head ≡ false
      → page_status head terms counts out ≡ no_head
  pub search_misuse : (head terms counts views a u v : List ℕ) → is_head head ≡ false
      → search_status head terms counts views a u v ≡ no_head
  pub check_misuse : (head terms counts views a u v : List ℕ) → is_head head ≡ false
      → check_status head terms counts views a u v ≡ no_head
  pub takings_misuse : (head terms counts a : List ℕ) → is_head head ≡ false
      → takings_status head terms counts a ≡ no_head
  pub stream_misuse : (m : Lent) → is_head m.head ≡ false → status_in m ≡ no_head
  pub words_misuse : (m : Lent) → is_head m.head ≡ true → line_buffer < get_or m.words 0 0
      → status_in m ≡ no_stream
  pub room_misuse : (m : Lent) → is_head m.head ≡ true → get_or m.words 0 0 ≤ line_buffer
      → length m.out < reply_room → status_in m ≡ no_room
  -- no refusal has the status of a misuse, of which the least is `no_head`
  pub call_refusal : (k : Call) (m : Memory) → is_head m.head ≡ true → status k m < no_head
  pub noon_refusal : (head terms counts : List ℕ) → is_head head ≡ true → noon_status head terms counts < no_head
  pub read_refusal : (line : List ℕ) → read_status line < no_head
  pub write_refusal : (words out : List ℕ) → get_or words 0 0 ≤ 12 → write_status words out < no_head
  pub page_refusal : (head terms counts out : List ℕ) → is_head head ≡ true
      → page_status head terms counts out < no_head
  pub search_refusal : (head terms counts views a u v : List ℕ) → is_head head ≡ true
      → search_status head terms counts views a u v < no_head
  pub check_refusal : (head terms counts views a u v : List ℕ) → is_head head ≡ true
      → (check_status head terms counts views a u v ≡ no_fit) ⊎ (check_status head terms counts views a u v < no_head)
  pub takings_refusal : (head terms counts a : List ℕ) → is_head head ≡ true
      → takings_status head terms counts a < no_head
