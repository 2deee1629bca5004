-- The promises of `specs/Promises`: what is stored reads back, since the encodings are faithful; a status is the number
-- of an answer, and the numbers of all questions are below 100.
use mathlib.Core.Path.{◌≡◌, refl, ap, sym, ◌∙◌, subst}
use mathlib.Core.Bool.{Bool, true, false, cond}
use Rattle.std.specs.Prelude.{Ok}
use mathlib.Core.List.{List, [], ◌∷◌, map}
use Prim.Native.Nat.{ℕ, zero, suc, ◌≤◌, ◌<◌}
use native.Mathlib.Omega.{arith}
use lib.Dec.{leb}
use lib.ListN.{length, get_or, replicate}
use borrow.Author.Tests.{eq-eqb, lt-ltb, le-ltb, le-leb, lt-leb}
use Rattle.campaigns.specs.declared.Head.{Head}
use Rattle.campaigns.specs.Choice.{Choice}
use Rattle.campaigns.specs.Choice.Choice.{nobody, plays}
use Rattle.day.specs.declared.Day.{Day}
use Rattle.day.specs.declared.Outcome.{Outcome}
use Rattle.day.specs.Day.{state_of, blank, sound}
use Rattle.day.specs.declared.Answer.{Answer}
use Rattle.day.specs.declared.Answer.TheVariants.{Refused, Done, Played, Nobody, Tallied, Closing}
use Rattle.demands.specs.Transcript.{Exchange, transcript, final}
use Rattle.demands.proofs.Demands.{answers}
use Rattle.day.specs.Calls.{Call, call, number, answered, result, view_answer, offers, player, questions}
use Rattle.questions.specs.Questions.{first_failed}
use Rattle.day.specs.Calls.Call.{open_plan, add_campaign, start_day, show_view, ask_tally, close_day, mark_campaign}
use Rattle.day.specs.Day as states
use Rattle.noon.specs.Noon as noon
use Rattle.noon.proofs.Numbers as noons
use Rattle.lines.specs.declared.Record.{Record}
use Rattle.lines.specs.Limits.{line_buffer}
use Rattle.lines.specs.Form.{in_range}
use Rattle.lines.specs.Reading.{forms, reading}
use Rattle.lines.specs.OneText as read
use Rattle.lines.proofs.Inverse.{one_text}
use Rattle.page.specs.Printing as page
use Rattle.page.proofs.Promises as pages
use Rattle.writer.specs.Writing as writer
use Rattle.writer.proofs.Numbers as writers
use Rattle.reply.specs.Session.{Session, reply_room, fed, consumed_count}
use Rattle.stream.specs.Stream.{new_stream, finished, session_of, stream_at, stream_of, consumed_bytes, handed_back}
use Rattle.stream.specs.Stream.{ComesTo, Feeds, Finishes}
use Rattle.encoding.specs.Encoding.{no_head, no_form, no_stream, no_room, is_head, head_in, head_words, answer_after}
use Rattle.encoding.specs.Encoding.{is_form, record_of}
use Rattle.encoding.specs.Faithful.{seven}
use Rattle.encoding.proofs.Faithful.{faithful}
use Rattle.wezghuli.specs.Library.{Memory, memory, state, outcome, stored, status, memory_after, noon_status}
use Rattle.wezghuli.specs.Library.{read_status, write_status}
use Rattle.wezghuli.specs.Library.{Lent, stream_in, stream_status, status_in, come_to, feed_after, finish_after}
use Rattle.wezghuli.specs.Library.{lent_state, page_status}
use Rattle.wezghuli.specs.Search.{search_status, check_status}
use Rattle.wezghuli.specs.Promises.{Promises, left_by, statuses, blank_lent, handed_in}
use Rattle.wezghuli.proofs.Streamed.{has_room, fed_misused, finish_misused, stream_taken, feed_stays}
use Rattle.wezghuli.proofs.Streamed.{finish_stays}
use Rattle.wezghuli.proofs.Kept.{noon_keeps, read_keeps, write_keeps, page_keeps, search_keeps, takings_keeps}
use Rattle.wezghuli.proofs.Given.{answer_is, noon_is, read_is, write_is, page_is, takings_is, search_beyond}
use Rattle.wezghuli.proofs.Low.{small, Low, low_small}
use Rattle.wezghuli.proofs.Low.Low.{none, then}
use Rattle.wezghuli.proofs.Asked.{search_refusal, check_refusal, takings_refusal, search_checked}
use Rattle.wezghuli.proofs.Asked.{search_takings, check_best, search_told, check_told, takings_told}

-- operations in turn
after_is : (k : Call) (m : Memory) → is_head m.head ≡ true → memory_after k m ≡ stored (outcome k m) m.answer
unfolding memory_after
after_is k m e = rw e

stored_state : (o : Outcome) (a : List ℕ) → state (stored o a) ≡ o.day
stored_state o a =
    ap (λ (h : Head). state_of h o.day.terms o.day.counts) (faithful.head_back (states.head_of o.day))

head_stays : (k : Call) (m : Memory) → is_head m.head ≡ true → is_head (memory_after k m).head ≡ true
head_stays k m e = ap (λ (x : Memory). is_head x.head) (after_is k m e)
    ∙ faithful.head_is (states.head_of (outcome k m).day)

next_state : (k : Call) (m : Memory) → is_head m.head ≡ true → state (memory_after k m) ≡ (call (state m) k).day
next_state k m e = ap state (after_is k m e) ∙ stored_state (outcome k m) m.answer

last_state : (ks : List Call) (m : Memory) → is_head m.head ≡ true → state (left_by m ks) ≡ final (state m) ks
unfolding final
last_state [] m e = refl
last_state (k ∷ ks) m e =
    last_state ks (memory_after k m) (head_stays k m e) ∙ ap (λ (s : Day). final s ks) (next_state k m e)

statuses_are : (ks : List Call) (m : Memory) → is_head m.head ≡ true
    → statuses m ks ≡ map (λ x. number x.answer) (transcript (state m) ks)
unfolding transcript status
statuses_are [] m e = refl
statuses_are (k ∷ ks) m e =
    ap (λ (n : ℕ). n ∷ statuses (memory_after k m) ks) (rw e)
    ∙ ap (λ (ns : List ℕ). number (outcome k m).answer ∷ ns)
    (statuses_are ks (memory_after k m) (head_stays k m e)
    ∙ ap (λ (s : Day). map (λ (x : Exchange). number x.answer) (transcript s ks)) (next_state k m e))

-- the words of an answer stay where it is a refusal
answer_stays : (a : Answer) (w : List ℕ) → (number a ≡ 0 → ⊥) → answer_after a w ≡ w
unfolding answer_after
answer_stays (Refused q) w h = refl
answer_stays Done w h = absurd (h refl)
answer_stays (Played i p) w h = absurd (h refl)
answer_stays Nobody w h = absurd (h refl)
answer_stays (Tallied p t a n) w h = absurd (h refl)
answer_stays (Closing t c f) w h = absurd (h refl)

refusal_keeps : (a b c d e f g : ℕ) (terms counts answer : List ℕ) (k : Call)
    → (status k (memory (seven a b c d e f g) terms counts answer) ≡ 0 → ⊥)
    → memory_after k (memory (seven a b c d e f g) terms counts answer)
    ≡ memory (seven a b c d e f g) terms counts answer
unfolding memory_after status
refusal_keeps a b c d e f g terms counts answer k h = go (is_head m.head) refl
  where
    m : Memory
    m = memory (seven a b c d e f g) terms counts answer

    go : (x : Bool) → is_head m.head ≡ x → memory_after k m ≡ m
    go false p = rw p
    go true p =
        let refused : number (outcome k m).answer ≡ 0 → ⊥ = λ z. h (rw p z) in
        let stays = ((answers (state m) k).refusal refused).0 in
        after_is k m p
        ∙ ap (λ (s : Day). memory (head_words (states.head_of s)) s.terms s.counts
        (answer_after (outcome k m).answer answer)) stays
        ∙ ap (memory (head_words (head_in m.head)) terms counts) (answer_stays (outcome k m).answer answer refused)
        ∙ ap (λ (w : List ℕ). memory w terms counts answer) (faithful.words_back a b c d e f g p)

-- blocks in turn
stream_from_blank : (d : List ℕ) → stream_in (blank_lent d) ≡ new_stream
stream_from_blank d =
    ap (λ (h : Head). stream_at h blank.terms blank.counts (replicate line_buffer 0) 0)
    (faithful.head_back (states.head_of blank))

come_back : (y : Session) (n : ℕ) (d : List ℕ) → handed_in (come_to y n d) ≡ handed_back y n
come_back y n d =
    ap (λ (h : Head).
    record {
      stream = stream_at h y.day.terms y.day.counts (stream_of y).pending (length y.pending);
      consumed = n;
      written = length y.output;
    })
    (faithful.head_back (states.head_of y.day))

-- memory in which a stream has come to y
comes : (y : Session) (n : ℕ) (d : List ℕ) (m : Lent) → m ≡ come_to y n d → ComesTo y n d m.out (handed_in m)
comes y n d m e =
    record { back_is = ap handed_in e ∙ come_back y n d; out_is = ap (λ (x : Lent). x.out) e }

feeds : (l : List ℕ) (m : Lent) → status_in m ≡ 0
    → Feeds (stream_in m) l m.out (feed_after l m).out (handed_in (feed_after l m))
unfolding feed_after
feeds l m e =
    let x = session_of (stream_in m) in
    let y = fed x (consumed_bytes x l m.out) in
    let n = consumed_count (length m.out) x l in
    comes y n m.out (feed_after l m) (rw (eq-eqb (status_in m) 0 e))

finishes : (m : Lent) → status_in m ≡ 0
    → Finishes (stream_in m) m.out (finish_after m).out (handed_in (finish_after m))
unfolding finish_after
finishes m e =
    let x = session_of (stream_in m) in
    subst (λ (b : Bool). ComesTo (cond b (finished x) x) 0 m.out (finish_after m).out (handed_in (finish_after m)))
    (sym (has_room m e))
    (comes (finished x) 0 m.out (finish_after m) (rw (eq-eqb (status_in m) 0 e)))

-- the numbers of questions
told_number : (x : ℕ → ℕ) (c : Choice) → number (view_answer x c) ≡ 0
told_number x nobody = refl
told_number x (plays m) = refl

accepted_number : (s : Day) (k : Call) → number (result s k).answer ≡ 0
accepted_number s (open_plan pl) = refl
accepted_number s (add_campaign t) = refl
accepted_number s start_day = refl
accepted_number s (show_view w) = told_number (offers s w) (player s w)
accepted_number s (ask_tally i) = refl
accepted_number s close_day = refl
accepted_number s (mark_campaign b i) = refl

low : (s : Day) (k : Call) → Low (questions s k)
low s (open_plan pl) =
    then 1 (omega arith) (then 2 (omega arith) (then 3 (omega arith)
    (then 4 (omega arith) (then 5 (omega arith) none))))
low s (add_campaign t) =
    then 1 (omega arith) (then 6 (omega arith) (then 7 (omega arith)
    (then 8 (omega arith) (then 9 (omega arith) (then 10 (omega arith) none)))))
low s start_day = then 1 (omega arith) (then 6 (omega arith) none)
low s (show_view w) =
    then 1 (omega arith) (then 11 (omega arith) (then 12 (omega arith)
    (then 13 (omega arith) (then 14 (omega arith) none))))
low s (ask_tally i) = then 1 (omega arith) (then 15 (omega arith) none)
low s close_day = then 1 (omega arith) (then 11 (omega arith) none)
low s (mark_campaign b i) = then 1 (omega arith) (then 11 (omega arith) (then 15 (omega arith) none))

answer_small : (q : ℕ) (s : Day) (o : Outcome) → q < 100 → number o.answer ≡ 0 →
    number (answered q s o).answer < 100
answer_small zero s o p e = omega arith
answer_small (suc q) s o p e = p

call_small : (s : Day) (k : Call) → number (call s k).answer < 100
unfolding call
call_small s k =
    answer_small (first_failed (questions s k)) s (result s k) (low_small (low s k)) (accepted_number s k)

call_refusal : (k : Call) (m : Memory) → is_head m.head ≡ true → status k m < 100
unfolding status
call_refusal k m e = rw e (call_small (state m) k)

-- the figures at noon
noon_small : (s : Day) → noon.number (noon.at_noon s) < 100
unfolding noon.at_noon first_failed
noon_small s = go (states.sound s)
  where
    go : (b : Bool) → noon.number (noon.refused_or (cond b 0 1) (Ok (noon.figures_of s))) < 100
    go true = omega arith
    go false = omega arith

noon_refusal : (h t n : List ℕ) → is_head h ≡ true → noon_status h t n < 100
noon_refusal h t n e = rw e (noon_small (state_of (head_in h) t n))

noon_told : (h t n : List ℕ) → is_head h ≡ true
    → noon_status h t n ≡ first_failed (noon.noon_questions (lent_state h t n))
noon_told h t n e = rw e (noons.tells (lent_state h t n)).number_is

-- reading and writing
read_told : (l : List ℕ) → read.Says l (read_status l) (read.values (reading l))
read_told l = one_text.says l

says_small : {l : List ℕ} {q : ℕ} {v : List ℕ} → read.Says l q v → q < 100
says_small (read.a_text r i) = omega arith
says_small (read.too_long p) = omega arith
says_small (read.no_text p n) = omega arith

write_small : (r : Record) (d : List ℕ) → writer.number (writer.writing r d) < 100
unfolding writer.write_question
write_small r d =
    let fits = leb (length (writer.line r)) (length d) in
    subst (λ (q : ℕ). q < 100) (sym (writers.tells r d).number_is)
    (small (in_range r) (cond fits 0 18) 17 (small fits 0 18 (omega arith) (omega arith)) (omega arith))

a_form : (w : List ℕ) → get_or w 0 0 ≤ 12 → is_form w ≡ true
unfolding forms
a_form w k = lt-ltb (get_or w 0 0) 13 (omega arith)

write_refusal : (w d : List ℕ) → get_or w 0 0 ≤ 12 → write_status w d < 100
write_refusal w d k = rw (a_form w k) (write_small (record_of w) d)

write_told : (w d : List ℕ) → get_or w 0 0 ≤ 12 → write_status w d ≡ writer.write_question (record_of w) d
write_told w d k = rw (a_form w k) (writers.tells (record_of w) d).number_is

-- printing a page
page_small : (s : Day) (d : List ℕ) → page.number (page.printing s d) < 100
unfolding page.page_question first_failed
page_small s d =
    let fits = leb (length (page.page_of s)) (length d) in
    subst (λ (q : ℕ). q < 100) (sym ((pages.promises).tells s d).number_is)
    (small (sound s) (cond fits 0 18) 1 (small fits 0 18 (omega arith) (omega arith)) (omega arith))

page_refusal : (h t n d : List ℕ) → is_head h ≡ true → page_status h t n d < 100
page_refusal h t n d e = rw e (page_small (lent_state h t n) d)

page_told : (h t n d : List ℕ) → is_head h ≡ true → page_status h t n d ≡ page.page_question (lent_state h t n) d
page_told h t n d e = rw e ((pages.promises).tells (lent_state h t n) d).number_is

blank_words : head_words (states.head_of blank) ≡ seven 2 0 1 1 0 0 0
unfolding blank
blank_words = refl

-- misuse
call_misuse : (k : Call) (m : Memory) → is_head m.head ≡ false → status k m ≡ no_head
unfolding status
call_misuse k m e = rw e

search_misuse : (h t n views a u v : List ℕ) → is_head h ≡ false → search_status h t n views a u v ≡ no_head
unfolding search_status
search_misuse h t n views a u v e = rw e

check_misuse : (h t n views a u v : List ℕ) → is_head h ≡ false → check_status h t n views a u v ≡ no_head
unfolding check_status
check_misuse h t n views a u v e = rw e

stream_misuse : (m : Lent) → is_head m.head ≡ false → status_in m ≡ no_head
unfolding stream_status
stream_misuse m e = rw e

write_misuse : (w d : List ℕ) → 12 < get_or w 0 0 → write_status w d ≡ no_form
unfolding forms
write_misuse w d k = rw (le-ltb (get_or w 0 0) 13 k)

words_misuse : (m : Lent) → is_head m.head ≡ true → line_buffer < get_or m.words 0 0 → status_in m ≡ no_stream
unfolding stream_status
words_misuse m e k = rw (e, lt-leb (get_or m.words 0 0) line_buffer k)

room_misuse : (m : Lent) → is_head m.head ≡ true → get_or m.words 0 0 ≤ line_buffer
    → length m.out < reply_room → status_in m ≡ no_room
unfolding stream_status
room_misuse m e k r =
    rw (e, le-leb (get_or m.words 0 0) line_buffer k, lt-leb reply_room (length m.out) r)

pub promises : Promises
promises = record {
  memory_is = λ h t n a. (refl, refl, refl, refl);
  lent_is = λ h t n p w d. (refl, refl, refl, refl, refl, refl);
  head_stays = head_stays;
  next_state = next_state;
  last_state = last_state;
  statuses_are = statuses_are;
  from_blank = λ a.
      (faithful.head_is (states.head_of blank), stored_state (record { day = blank; answer = Done }) a);
  refusal_keeps = refusal_keeps;
  noon_keeps = noon_keeps;
  read_keeps = read_keeps;
  write_keeps = write_keeps;
  feed_keeps = λ l m h. sym (fed_misused m refl h l).1;
  finish_keeps = λ m h. sym (finish_misused m refl h).1;
  page_keeps = page_keeps;
  search_keeps = search_keeps;
  takings_keeps = takings_keeps;
  answer_is = answer_is;
  noon_is = noon_is;
  read_is = read_is;
  write_is = λ w d l k. write_is w d l (a_form w k);
  page_is = page_is;
  takings_is = takings_is;
  blank_words = λ a. blank_words;
  columns = λ h t n i. (refl, refl, refl, refl, refl, refl);
  stream_is = λ m. (refl, refl, refl);
  stream_taken = stream_taken;
  feed_stays = λ l m e. feed_stays m e l;
  finish_stays = finish_stays;
  stream_from_blank = stream_from_blank;
  feeds = feeds;
  finishes = finishes;
  noon_told = noon_told;
  read_told = read_told;
  write_told = write_told;
  page_told = page_told;
  search_told = search_told;
  check_told = check_told;
  takings_told = takings_told;
  header_numbers = (refl, refl, refl, refl);
  misuse_numbers = (refl, refl, refl, refl, refl);
  call_misuse = call_misuse;
  noon_misuse = λ h t n e. rw e;
  write_misuse = write_misuse;
  page_misuse = λ h t n d e. rw e;
  search_misuse = search_misuse;
  check_misuse = check_misuse;
  takings_misuse = λ h t n a e. rw e;
  stream_misuse = stream_misuse;
  words_misuse = words_misuse;
  room_misuse = room_misuse;
  call_refusal = call_refusal;
  noon_refusal = noon_refusal;
  read_refusal = λ l. says_small (read_told l);
  write_refusal = write_refusal;
  page_refusal = page_refusal;
  search_checked = search_checked;
  search_takings = search_takings;
  search_beyond = search_beyond;
  check_best = check_best;
  search_refusal = search_refusal;
  check_refusal = check_refusal;
  takings_refusal = takings_refusal;
}
