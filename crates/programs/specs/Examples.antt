-- That the theorem for any chunking has something to speak of: every list of blocks can be handed to a new stream, and
-- a day in two blocks, with the answers that it gets; a block of which a part is taken for want of room. Document 01's
-- listing, a day with lines that are refused, a day whose figures all differ, a day with pauses and numbers by the
-- limits, each as a whole input and what answers it; the listing's close, of which `OfLines.closing_is` and
-- `OfLines.closing_noon` speak; and the output forms as lines, in any state.
use Rattle.std.specs.Prelude.{◌≡◌, List, [], ◌∷◌, ◌++◌, ℕ, ◌+◌, ◌≤◌, length, take, replicate}
use Prim.Native.String.{String}
use Rattle.std.specs.Prelude.{Ok}
use Rattle.lines.specs.declared.Record.TheVariants.{Closed}
use Rattle.lines.specs.Form.{bytes}
use Rattle.lines.specs.Reading.{reading}
use Rattle.day.specs.declared.Day.{Day}
use Rattle.day.specs.Day.{blank}
use Rattle.reply.specs.Reply.{reply}
use Rattle.reply.specs.Session.{reply_room, first_line}
use Rattle.stream.specs.declared.feed.Fed.{Fed}
use Rattle.stream.specs.Stream.{new_stream, session_of, Feeds, Finishes}
use Rattle.stream.specs.Listing.{lines_of, listing_lines, listing_answers, uneven_lines, uneven_answers}
use Rattle.stream.specs.Input.{joined, Split, all_lines, after_lines, replies}
use Rattle.stream.specs.Chunking.{Feeding, InBlocks, stream_after, all_written, all_output}

-- the blocks as one input
abbrev pub in_one : List (List ℕ) → List ℕ
in_one [] = []
in_one (b ∷ bs) = b ++ in_one bs

abbrev pub blocks_of : List Feeding → List (List ℕ)
blocks_of [] = []
blocks_of (f ∷ fs) = f.block ∷ blocks_of fs

-- a new stream was handed these blocks and then the end of input, with the buffer d for the last answer, and wrote w
pub record Handed (blocks : List (List ℕ)) (d w : List ℕ) : Type 0 where
  pub feedings : List Feeding
  pub blocks_are : blocks_of feedings ≡ blocks
  pub takes : InBlocks new_stream (in_one blocks) feedings
  pub after : List ℕ
  pub back : Fed
  pub finishes : Finishes (stream_after new_stream feedings) d after back
  pub writes : all_written feedings ++ take back.written after ≡ w

-- with room for all answers any blocks can be handed in
abbrev pub AnyBlocks : Type 0
AnyBlocks =
    (blocks : List (List ℕ)) (i : Split (in_one blocks)) (d : List ℕ)
    → length (replies blank i.lines) + reply_room ≤ length d
    → Handed blocks d (replies blank (all_lines i))

-- a day: a block that ends within its second line, and one whose last line is not ended
abbrev pub first_block : List ℕ
first_block = joined (lines_of ("(plan (depth 2) (width 2))" ∷ [])) (bytes "(campaign (pri")

abbrev pub second_block : List ℕ
second_block = joined (lines_of ("ce 5) (budget 5))" ∷ "(start)" ∷ "(view 0)" ∷ [])) (bytes "(close)")

abbrev pub answers : List ℕ
answers =
    joined
    (lines_of
    ("(ok)" ∷ "(ok)" ∷ "(ok)" ∷ "(play 0 (paid 5))" ∷ "(closed (takings 5) (claim 15) (full 20))" ∷
    "(tally 0 (plays 1) (turns 1) (age 0) (named 1))" ∷ []))
    []

abbrev pub DayInTwoBlocks : Type 0
DayInTwoBlocks = (d : List ℕ) → 65536 ≤ length d → Handed (first_block ∷ second_block ∷ []) d answers

-- a block of two lines, each answered by 13 bytes
abbrev pub two_lines : List ℕ
two_lines = joined (lines_of ("(view 0 0)" ∷ "(view 1 0)" ∷ [])) []

-- a new stream that is handed them with a buffer of so many bytes takes so many of theirs, and writes these lines
abbrev pub Takes : (room taken : ℕ) → List String → Type 0
Takes room taken w =
    (d e : List ℕ) (r : Fed) → length d ≡ room → Feeds new_stream two_lines d e r
    → (r.consumed ≡ taken) × (take r.written e ≡ joined (lines_of w) [])

-- behind the first answer there is no room for another, whatever it is; with as many bytes more there is
pub record InPart : Type 0 where
  pub first_alone : Takes reply_room 11 ("(refused 17)" ∷ [])
  pub one_byte_short : Takes (reply_room + 12) 11 ("(refused 17)" ∷ [])
  pub both : Takes (reply_room + 13) 22 ("(refused 17)" ∷ "(refused 17)" ∷ [])

-- a new stream answers the input of these lines and a rest by these lines, and nothing else
abbrev pub InputAnswered : (lines : List (List ℕ)) → (rest : List ℕ) → (answers : List (List ℕ)) → Type 0
InputAnswered ls rest told = all_output (session_of new_stream) (joined ls rest) ≡ joined told []

-- document 01's listing
abbrev pub ListingAnswered : Type 0
ListingAnswered = InputAnswered listing_lines [] listing_answers

-- behind its other lines the last, (close), is answered (closed (takings 16) (claim 48) (full 64))
abbrev pub ListingCloses : Type 0
ListingCloses =
    reading (first_line (reply (after_lines blank (take 10 listing_lines)) (bytes "(close)"))) ≡ Ok (Closed 16 48 64)

-- a running day with an empty line, an output form, a line of 200 bytes that is no form, one of 201 bytes and one of
-- 402, and a last line without byte 10
abbrev pub odd_lines : List (List ℕ)
odd_lines =
    lines_of ("(plan (depth 2) (width 2))" ∷ "(campaign (price 5) (budget 5))" ∷ "(start)" ∷ "" ∷ "(ok)" ∷ [])
    ++ (replicate 200 40 ∷ replicate 201 40 ∷ replicate 402 40 ∷ [])

abbrev pub odd_answers : List (List ℕ)
odd_answers =
    lines_of
    ("(ok)" ∷ "(ok)" ∷ "(ok)" ∷ "(refused 17)" ∷ "(refused 17)" ∷ "(refused 17)" ∷ "(refused 16)" ∷ "(refused 16)" ∷
    "(play 0 (paid 5))" ∷ [])

abbrev pub OddLinesAnswered : Type 0
OddLinesAnswered = InputAnswered odd_lines (bytes "(view 0)") odd_answers

-- a day whose figures all differ
abbrev pub UnevenAnswered : Type 0
UnevenAnswered = InputAnswered uneven_lines [] uneven_answers

-- the six output forms, each as a line
abbrev pub output_forms : List (List ℕ)
output_forms =
    lines_of
    ("(ok)" ∷ "(play 0 (paid 5))" ∷ "(nobody)" ∷ "(refused 13)" ∷ "(closed (takings 16) (claim 48) (full 64))" ∷
    "(tally 0 (plays 2) (turns 2) (age 0) (named 4))" ∷ [])

abbrev pub forms_refused : List (List ℕ)
forms_refused = replicate 6 (bytes "(refused 17)")

-- whatever the state, each is answered with 17 and the state is as before
pub record OutputFormsRefused : Type 0 where
  pub answers_are : (s : Day) → replies s output_forms ≡ joined forms_refused []
  pub state_kept : (s : Day) → after_lines s output_forms ≡ s

-- A running day with pauses. A paused campaign that a view names is treated as not named, in the choice and in its
-- tally; a resumed one plays. A pause and a resume are of the campaign that they name: 1 has the greater score, and 0
-- plays while 1 is paused. 64 is no campaign number, and an output form makes no call.
abbrev pub paused_lines : List (List ℕ)
paused_lines =
    lines_of
    ("(plan (depth 3) (width 2))" ∷ "(campaign (price 5) (budget 10))" ∷ "(campaign (price 7) (budget 7))" ∷
    "(start)" ∷ "(pause 0)" ∷ "(view 0)" ∷ "(resume 0)" ∷ "(view 0)" ∷ "(pause 1)" ∷ "(view 0 1)" ∷ "(resume 1)" ∷
    "(view 1)" ∷ "(pause 64)" ∷ "(resume 64)" ∷ [])
    ++ output_forms ++ lines_of ("(close)" ∷ [])

abbrev pub paused_answers : List (List ℕ)
paused_answers =
    lines_of
    ("(ok)" ∷ "(ok)" ∷ "(ok)" ∷ "(ok)" ∷ "(ok)" ∷ "(nobody)" ∷ "(ok)" ∷ "(play 0 (paid 5))" ∷ "(ok)" ∷
    "(play 0 (paid 5))" ∷ "(ok)" ∷ "(play 1 (paid 7))" ∷ "(refused 17)" ∷ "(refused 17)" ∷ [])
    ++ forms_refused
    ++ lines_of
    ("(closed (takings 17) (claim 119) (full 136))" ∷ "(tally 0 (plays 2) (turns 2) (age 0) (named 2))" ∷
    "(tally 1 (plays 1) (turns 1) (age 0) (named 1))" ∷ [])

abbrev pub PausedAnswered : Type 0
PausedAnswered = InputAnswered paused_lines [] paused_answers

-- Numbers by the limits. One of more than 32 bits is read in each number's slot of an input line (request 5), and gets
-- that number's question; twelve digits are read, thirteen are no numeral in any of these slots. Depth 33 gets 3, depth
-- 32 opens.
abbrev pub limit_lines : List (List ℕ)
limit_lines =
    lines_of
    ("(plan (depth 4294967296) (width 1))" ∷ "(plan (depth 1) (width 4294967296))" ∷ "(plan (depth 33) (width 1))" ∷
    "(plan (depth 32) (width 2))" ∷ "(campaign (price 4294967296) (budget 4294967296))" ∷
    "(campaign (price 1) (budget 4294967296))" ∷ "(campaign (price 1) (budget 999999999999))" ∷
    "(plan (depth 1000000000000) (width 1))" ∷ "(plan (depth 1) (width 1000000000000))" ∷
    "(campaign (price 1000000000000) (budget 1))" ∷ "(campaign (price 1) (budget 1000000000000))" ∷ [])

abbrev pub limit_answers : List (List ℕ)
limit_answers =
    lines_of
    ("(refused 3)" ∷ "(refused 4)" ∷ "(refused 3)" ∷ "(ok)" ∷ "(refused 8)" ∷ "(refused 9)" ∷ "(refused 9)" ∷
    "(refused 17)" ∷ "(refused 17)" ∷ "(refused 17)" ∷ "(refused 17)" ∷ [])

abbrev pub LimitsAnswered : Type 0
LimitsAnswered = InputAnswered limit_lines [] limit_answers
