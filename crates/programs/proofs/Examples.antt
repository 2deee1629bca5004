-- Any blocks can be handed to a new stream: what it hands back is written out from the definitions, with room for every
-- answer, and the theorem for any chunking says what was written. The answers to the lines of each day are computed;
-- so are the bytes of the block of which a part is taken.
use mathlib.Core.Path.{◌≡◌, refl, sym, ap, ap₂, ◌∙◌, subst, subst⁻¹}
use mathlib.Core.Bool.{Bool, true, cond, ◌&&◌}
use mathlib.Core.List.{List, [], ◌∷◌, ◌++◌}
use Prim.Native.Nat.{ℕ, ◌+◌, ◌-◌, ◌≤◌}
use native.Mathlib.Omega.{arith}
use lib.Dec.{eqb}
use lib.ListN.{length, take, drop, replicate, length-append}
use lib.Seq.{take-length, take-append_seam, drop-length}
use borrow.Author.Tests.{eqb-true, le-leb}
use Rattle.finite.specs.Finite.{sum, count, every, table}
use Rattle.finite.proofs.Tests.{both_left, both_right}
use Rattle.sets.specs.Set.{member, size, within, collect, without, including}
use Rattle.powers.specs.Power.{weight, share}
use Rattle.campaigns.specs.Choice.{best, choice}
use Rattle.campaigns.specs.Campaign.{whole, claim, sound_plan, priced, counted, uncounted, empty, sound_campaign}
use Rattle.lines.specs.Limits.{line_buffer}
use Rattle.lines.specs.Numeral.{numeral, numeral_in}
use Rattle.lines.specs.Form.{bytes, template, in_slot, in_range, text, filled, slot_text, names_text, piece, numbers}
use Rattle.lines.specs.Form.{numbers_after}
use Rattle.lines.specs.Reading.{reading, first_of, forms, held_or, ended_or, made, numbers_of, rest_of, step, strip}
use Rattle.lines.specs.Reading.{slot_at, set_at, numeral_at, digits, is_digit}
use Rattle.writer.specs.Writing.{line}
use Rattle.audit.specs.Sound.{sound_record}
use Rattle.day.specs.Day.{blank, total_takings, total_claim, total_budgets, sound}
use Rattle.questions.specs.Questions.{first_failed, width_holds}
use Rattle.day.specs.Calls.{marked, call}
use Rattle.reply.specs.Reply.{reply, reply_records, record_lines, tally_records, next, outcome}
use Rattle.reply.specs.Session.{Session, reply_room, after_byte, fed, consumed_count, upto}
use Rattle.reply.proofs.Sessions.{fed_append}
use Rattle.stream.specs.declared.feed.Stream.{Stream}
use Rattle.stream.specs.declared.feed.Fed.{Fed}
use Rattle.stream.specs.Stream.{finished, new_stream, session_of, silent, stream_of, handed_back, answered_in}
use Rattle.stream.specs.Stream.{consumed_bytes, ComesTo, Feeds, Finishes}
use Rattle.stream.specs.Input.{joined, Plain, AllPlain, Split, last_line, after_lines, replies}
use Rattle.stream.specs.Chunking.{Feeding, InBlocks, stream_after}
use Rattle.stream.proofs.Chunking.{fed_said, fed_lines, replies_append, output_at_end, any_chunking, plain_nil}
use Rattle.stream.proofs.Chunking.{room_for_all}
use Rattle.programs.specs.Examples.{in_one, blocks_of, AnyBlocks}
use Rattle.stream.specs.Listing.{lines_of, listing_lines, listing_answers, uneven_lines, uneven_answers}
use Rattle.programs.specs.Examples.{Handed, first_block, second_block, answers, DayInTwoBlocks, two_lines}
use Rattle.programs.specs.Examples.{InPart, InputAnswered, ListingAnswered, odd_lines, odd_answers}
use Rattle.programs.specs.Examples.{ListingCloses, OddLinesAnswered}
use Rattle.programs.specs.Examples.{UnevenAnswered, OutputFormsRefused, paused_lines, paused_answers}
use Rattle.programs.specs.Examples.{PausedAnswered, limit_lines, limit_answers, LimitsAnswered}

-- What is computed: the answers to lines and a rest.

abbrev answers_to : List (List ℕ) → (rest : List ℕ) → List ℕ
answers_to ls rest = replies blank (ls ++ last_line rest)

abbrev day_lines : List (List ℕ)
day_lines =
    lines_of ("(plan (depth 2) (width 2))" ∷ "(campaign (price 5) (budget 5))" ∷ "(start)" ∷ "(view 0)" ∷ [])

record Computed : Type 0 where
  day : answers_to day_lines (bytes "(close)") ≡ answers
  listing : answers_to listing_lines [] ≡ joined listing_answers []
  odd : answers_to odd_lines (bytes "(view 0)") ≡ joined odd_answers []
  close : ListingCloses
  uneven : answers_to uneven_lines [] ≡ joined uneven_answers []
  paused : answers_to paused_lines [] ≡ joined paused_answers []
  limits : answers_to limit_lines [] ≡ joined limit_answers []
  outputs : OutputFormsRefused

computed : Computed
unfolding replies after_lines joined reply reply_records record_lines tally_records next outcome
    reading first_of forms held_or ended_or made numbers_of rest_of step strip slot_at set_at numeral_at digits
    is_digit template in_slot in_range line text filled slot_text names_text piece numbers numeral numeral_in
    numbers_after call first_failed sound sound_record blank sum count every table within size member
    width_holds weight share whole claim total_takings total_claim total_budgets sound_plan priced counted uncounted
    empty sound_campaign best choice collect without including marked upto
computed = record {
  day = refl;
  listing = refl;
  odd = refl;
  close = refl;
  uneven = refl;
  paused = refl;
  limits = refl;
  outputs = record { answers_are = λ s. refl; state_kept = λ s. refl };
}

-- What is handed back.

session_kept : (y : Session) → session_of (stream_of y) ≡ silent y
session_kept y =
    ap (λ (l : List ℕ). record { day = y.day; pending = l; output = [] })
    (take-append_seam y.pending (replicate (line_buffer - length y.pending) 0))

come : (y : Session) (n : ℕ) (d : List ℕ) → ComesTo y n d (answered_in y d) (handed_back y n)
come y n d = record { back_is = refl; out_is = refl }

-- One block.

module _ (k : Stream) (l d : List ℕ) (room : length (fed (session_of k) l).output + reply_room ≤ length d) where
  abbrev fed_block : Session
  fed_block = fed (session_of k) l

  feeds_all : Feeds k l d (answered_in fed_block d) (handed_back fed_block (length l))
  feeds_all =
      let n : consumed_count (length d) (session_of k) l ≡ length l = room_for_all (length d) (session_of k) l room in
      let all : fed_block ≡ fed (session_of k) (take (length l) l) = ap (fed (session_of k)) (sym (take-length l)) in
      subst⁻¹
      (λ (i : ℕ).
      ComesTo (fed (session_of k) (take i l)) i d (answered_in fed_block d) (handed_back fed_block (length l)))
      n
      (subst (λ (y : Session). ComesTo y (length l) d (answered_in fed_block d) (handed_back fed_block (length l)))
      all (come fed_block (length l) d))

finishes_all : (k : Stream) (d : List ℕ) → reply_room ≤ length d
    → Finishes k d (answered_in (finished (session_of k)) d) (handed_back (finished (session_of k)) 0)
finishes_all k d room =
    let z = finished (session_of k) in
    subst⁻¹ (λ (b : Bool). ComesTo (cond b z (session_of k)) 0 d (answered_in z d) (handed_back z 0))
    (le-leb reply_room (length d) room) (come z 0 d)

-- Any blocks.

abbrev feedings : (d : List ℕ) → Stream → List (List ℕ) → List Feeding
feedings d k [] = []
feedings d k (b ∷ bs) =
    record {
      block = b;
      later = in_one bs;
      before = d;
      after = answered_in (fed (session_of k) b) d;
      back = handed_back (fed (session_of k) b) (length b);
    } ∷ feedings d (stream_of (fed (session_of k) b)) bs

blocks_same : (d : List ℕ) (k : Stream) (bs : List (List ℕ)) → blocks_of (feedings d k bs) ≡ bs
blocks_same d k [] = refl
blocks_same d k (b ∷ bs) = ap (λ (l : List (List ℕ)). b ∷ l) (blocks_same d (stream_of (fed (session_of k) b)) bs)

-- the answers to a block and to what follows it, in bytes
answers_add : (k : Stream) (b m : List ℕ)
    → length (fed (session_of k) (b ++ m)).output
    ≡ length (fed (session_of k) b).output + length (fed (session_of (stream_of (fed (session_of k) b))) m).output
answers_add k b m =
    let y = fed (session_of k) b in
    ap (λ (s : Session). length s.output) (fed_append (session_of k) b m ∙ fed_said y m)
    ∙ length-append y.output (fed (silent y) m).output
    ∙ ap (λ (s : Session). length y.output + length (fed s m).output) (sym (session_kept y))

takes_all : (d : List ℕ) (k : Stream) (bs : List (List ℕ))
    → length (fed (session_of k) (in_one bs)).output + reply_room ≤ length d
    → InBlocks k (in_one bs) (feedings d k bs)
takes_all d k [] h = refl
takes_all d k (b ∷ bs) h =
    let n = stream_of (fed (session_of k) b) in
    let m = in_one bs in
    let q = answers_add k b m in (
      refl,
      feeds_all k b d (omega (arith, h, q)),
      subst⁻¹ (λ (l : List ℕ). InBlocks n (l ++ m) (feedings d n bs)) (drop-length b)
          (takes_all d n bs (omega (arith, h, q))),
    )

pub any_blocks : AnyBlocks
any_blocks bs i d room =
    let fs = feedings d new_stream bs in
    let z = finished (session_of (stream_after new_stream fs)) in
    let f = fed_lines blank [] i.lines i.rest i.lines_plain i.rest_plain in
    let all : length (fed (session_of new_stream) (in_one bs)).output + reply_room ≤ length d =
    subst (λ (l : List ℕ). length (fed (session_of new_stream) l).output + reply_room ≤ length d) i.whole
    (subst⁻¹ (λ (y : Session). length y.output + reply_room ≤ length d) f room) in
    let some : reply_room ≤ length d = omega (arith, room) in
    let t = takes_all d new_stream bs all in
    let h = finishes_all (stream_after new_stream fs) d some in
    record {
      feedings = fs;
      blocks_are = blocks_same d new_stream bs;
      takes = t;
      after = answered_in z d;
      back = handed_back z 0;
      finishes = h;
      writes =
          (any_chunking new_stream (in_one bs) fs t d (answered_in z d) (handed_back z 0) some h plain_nil
          (omega arith) i).0;
    }

-- The day.

day_plain : AllPlain day_lines × Plain (bytes "(close)")
unfolding upto
day_plain = ((refl, (refl, (refl, (refl, tt)))), refl)

day_joined : joined day_lines (bytes "(close)") ≡ in_one (first_block ∷ second_block ∷ [])
unfolding joined
day_joined = refl

abbrev day_split : Split (in_one (first_block ∷ second_block ∷ []))
day_split = record {
  lines = day_lines;
  rest = bytes "(close)";
  lines_plain = day_plain.0;
  rest_plain = day_plain.1;
  whole = day_joined;
}

answers_length : length answers ≡ 123
unfolding joined
answers_length = refl

pub day_in_two_blocks : DayInTwoBlocks
day_in_two_blocks d h =
    let last = last_line (bytes "(close)") in
    let m = replies (after_lines blank day_lines) last in
    let n : length (replies blank day_lines) + length m ≡ 123 =
    sym (length-append (replies blank day_lines) m)
    ∙ ap (λ (w : List ℕ). length w) (replies_append blank day_lines last ∙ computed.day)
    ∙ answers_length in
    subst (λ (w : List ℕ). Handed (first_block ∷ second_block ∷ []) d w) computed.day
    (any_blocks (first_block ∷ second_block ∷ []) day_split d (omega (arith, n, h)))

-- A block in part.

taken : (room n : ℕ) (w : List ℕ) (d e : List ℕ) (r : Fed) → consumed_count room (session_of new_stream) two_lines ≡ n
    → (fed (session_of new_stream) (take n two_lines)).output ≡ w → length d ≡ room → Feeds new_stream two_lines d e r
    → (r.consumed ≡ n) × (take r.written e ≡ w)
taken room n w d e r count said same f =
    let x = session_of new_stream in
    let here : consumed_count (length d) x two_lines ≡ n =
    ap (λ (i : ℕ). consumed_count i x two_lines) same ∙ count in
    let y = fed x (consumed_bytes x two_lines d) in
    let out : y.output ≡ w = ap (λ (i : ℕ). (fed x (take i two_lines)).output) here ∙ said in (
      ap (λ (z : Fed). z.consumed) f.back_is ∙ here,
      ap₂ (λ (i : ℕ) (l : List ℕ). take i l) (ap (λ (z : Fed). z.written) f.back_is) f.out_is
          ∙ take-append_seam y.output (drop (length y.output) d) ∙ out,
    )

pub in_part : InPart
unfolding fed after_byte consumed_count joined reply reply_records record_lines next outcome
    reading first_of forms held_or ended_or made numbers_of rest_of step strip slot_at set_at numeral_at digits
    is_digit template in_slot line text filled slot_text piece numbers numeral numeral_in numbers_after
in_part = record {
  first_alone = λ d e r. taken reply_room 11 _ d e r refl refl;
  one_byte_short = λ d e r. taken (reply_room + 12) 11 _ d e r refl refl;
  both = λ d e r. taken (reply_room + 13) 22 _ d e r refl refl;
}

-- Whole inputs.

-- no line has byte 10, as a test
abbrev plain : List (List ℕ) → Bool
plain [] = true
plain (l ∷ ls) = eqb (upto l) (length l) && plain ls

all_plain : (ls : List (List ℕ)) → plain ls ≡ true → AllPlain ls
all_plain [] e = tt
all_plain (l ∷ ls) e = (
  eqb-true (upto l) (length l) (both_left (eqb (upto l) (length l)) (plain ls) e),
  all_plain ls (both_right (eqb (upto l) (length l)) (plain ls) e),
)

-- the answers to its lines and its rest are those to the input
answered : (ls : List (List ℕ)) (rest : List ℕ) (told : List (List ℕ)) → plain (rest ∷ ls) ≡ true
    → answers_to ls rest ≡ joined told [] → InputAnswered ls rest told
answered ls rest told p e =
    let q = all_plain (rest ∷ ls) p in
    let i : Split (joined ls rest) =
    record { lines = ls; rest = rest; lines_plain = q.1; rest_plain = q.0; whole = refl } in
    output_at_end (joined ls rest) i ∙ e

pub listing_answered : ListingAnswered
unfolding upto
listing_answered = answered listing_lines [] listing_answers refl computed.listing

pub listing_closes : ListingCloses
listing_closes = computed.close

pub odd_lines_answered : OddLinesAnswered
unfolding upto
odd_lines_answered = answered odd_lines (bytes "(view 0)") odd_answers refl computed.odd

pub uneven_answered : UnevenAnswered
unfolding upto
uneven_answered = answered uneven_lines [] uneven_answers refl computed.uneven

pub paused_answered : PausedAnswered
unfolding upto
paused_answered = answered paused_lines [] paused_answers refl computed.paused

pub limits_answered : LimitsAnswered
unfolding upto
limits_answered = answered limit_lines [] limit_answers refl computed.limits

pub output_forms_refused : OutputFormsRefused
output_forms_refused = computed.outputs
