-- What feeding and finishing leave in the lent memory: everything as it was where the status is not 0, and else what
-- the stream in place has become, stored (`fed_stored`, `finish_stored`), which has status 0 again.
use mathlib.Core.Path.{◌≡◌, refl, sym, ap, ap₂, ◌∙◌, subst}
use mathlib.Core.Bool.{Bool, true, false, cond}
use mathlib.Core.List.{List}
use Prim.Native.Nat.{ℕ, ◌≤◌}
use native.Mathlib.Omega.{arith}
use lib.Dec.{leb, eqb}
use lib.ListN.{length, get_or, drop, length-take, length-drop, length-append}
use borrow.Author.Tests.{eq-eqb, ne_eqb, le-leb, leb-true}
use Rattle.campaigns.specs.declared.Head.{Head}
use Rattle.day.specs.Day as states
use Rattle.lines.specs.Limits.{line_buffer}
use Rattle.reply.specs.Session.{Session, reply_room, fed, consumed_count}
use Rattle.reply.proofs.Sessions.{fed_short}
use Rattle.stream.specs.declared.feed.Fed.{Fed}
use Rattle.stream.specs.declared.feed.Moved.{Moved}
use Rattle.stream.specs.declared.feed.Stream.{Stream}
use Rattle.stream.specs.Stream.{finished, session_of, consumed_bytes, stream_at, fed_at, ComesTo, Feeds, Finishes}
use Rattle.encoding.specs.Encoding.{no_head, no_stream, no_room, is_head, is_stream, head_in, head_words, stream_words}
use Rattle.encoding.proofs.Faithful.{faithful}
use Rattle.wezghuli.specs.Library.{Lent, lent, stream_in, stream_status, status_in, come_to, feed_after}
use Rattle.wezghuli.specs.Library.{finish_after}

-- A status of 0 says that no more bytes are kept than fit, and that there is room.
conds_0 : (a b c : Bool) → cond a (cond b (cond c 0 no_room) no_stream) no_head ≡ 0 → (b ≡ true) × (c ≡ true)
conds_0 true true true e = (refl, refl)
conds_0 true true false e = absurd (omega (arith, e))
conds_0 true false c e = absurd (omega (arith, e))
conds_0 false b c e = absurd (omega (arith, e))

is_taken : (m : Lent) → status_in m ≡ 0
    → (is_stream m.words ≡ true) × (leb reply_room (length m.out) ≡ true)
unfolding stream_status
is_taken m e = conds_0 (is_head m.head) (is_stream m.words) (leb reply_room (length m.out)) e

pub has_room : (m : Lent) → status_in m ≡ 0 → leb reply_room (length m.out) ≡ true
has_room m e = (is_taken m e).1

-- And they are enough, beside a head.
pub stream_taken : (m : Lent) → is_head m.head ≡ true → get_or m.words 0 0 ≤ line_buffer
    → reply_room ≤ length m.out → status_in m ≡ 0
unfolding stream_status
stream_taken m e k r =
    rw (e, le-leb (get_or m.words 0 0) line_buffer k, le-leb reply_room (length m.out) r)

-- What a block and the end of input leave is a stream again.
come_stays : (y : Session) (n : ℕ) (d : List ℕ) → length y.pending ≤ line_buffer → reply_room ≤ length d
    → status_in (come_to y n d) ≡ 0
come_stays y n d h r =
    let k = length y.output in
    stream_taken (come_to y n d) (faithful.head_is (states.head_of y.day)) h
    (omega (arith, length-append y.output (drop k d), length-drop k d))

module _ (m : Lent) (e : status_in m ≡ 0) where
  abbrev begun : Session
  begun = session_of (stream_in m)

  begun_short : length begun.pending ≤ line_buffer
  begun_short =
      let k = get_or m.words 0 0 in
      omega (arith, length-take k m.pending, leb-true k line_buffer (is_taken m e).0)

  room : reply_room ≤ length m.out
  room = leb-true reply_room (length m.out) (has_room m e)

  pub feed_stays : (l : List ℕ) → status_in (feed_after l m) ≡ 0
  unfolding feed_after
  feed_stays l =
      let taken = consumed_bytes begun l m.out in
      rw (eq-eqb (status_in m) 0 e)
      (come_stays (fed begun taken) (consumed_count (length m.out) begun l) m.out
      (fed_short begun taken begun_short) room)

  pub finish_stays : status_in (finish_after m) ≡ 0
  unfolding finish_after finished
  finish_stays =
      rw (eq-eqb (status_in m) 0 e) (come_stays (finished begun) 0 m.out (omega arith) room)

-- Misuse: the memory stays.
module _ (m : Lent) {r : ℕ} (told : r ≡ status_in m) (misuse : r ≡ 0 → ⊥) where
  some : eqb (status_in m) 0 ≡ false
  some = ne_eqb (status_in m) 0 (λ z. misuse (told ∙ z))

  pub fed_misused : (l : List ℕ) → (r ≡ status_in m) × (m ≡ feed_after l m)
  unfolding feed_after
  fed_misused l = (told, rw some)

  pub finish_misused : (r ≡ status_in m) × (m ≡ finish_after m)
  unfolding finish_after
  finish_misused = (told, rw some)

-- what is handed back, stored
abbrev stored_in : Fed → (out : List ℕ) → Lent
stored_in r d =
    lent (head_words (states.head_of r.stream.day)) r.stream.day.terms r.stream.day.counts
    r.stream.pending (stream_words r.stream.kept r.consumed r.written) d

module _ (m : Lent) (taken : status_in m ≡ 0) {head : Head} (head_is : head ≡ head_in m.head) (v : Moved) (m' : Lent)
    (stored : (m'.head ≡ head_words v.head) × (m'.words ≡ stream_words v.kept v.consumed v.written))
  where
    abbrev before : Stream
    before = stream_at head m.terms m.counts m.pending (get_or m.words 0 0)

    abbrev back : Fed
    back = fed_at v m'.terms m'.counts m'.pending

    before_is : before ≡ stream_in m
    before_is = ap (λ (x : Head). stream_at x m.terms m.counts m.pending (get_or m.words 0 0)) head_is

    comes : (y : Session) (k : ℕ) → ComesTo y k m.out m'.out back → m' ≡ come_to y k m.out
    comes y k c =
        ap₂ (λ (h w : List ℕ). lent h m'.terms m'.counts m'.pending w m'.out) stored.0 stored.1
        ∙ ap₂ stored_in c.back_is c.out_is

    none : eqb (status_in m) 0 ≡ true
    none = eq-eqb (status_in m) 0 taken

    pub fed_stored : (l : List ℕ) → Feeds before l m.out m'.out back → (0 ≡ status_in m) × (m' ≡ feed_after l m)
    unfolding feed_after
    fed_stored l f =
        let g = subst (λ (k : Stream). Feeds k l m.out m'.out back) before_is f in
        let x = session_of (stream_in m) in
        let y = fed x (consumed_bytes x l m.out) in
        (sym taken, rw none (comes y (consumed_count (length m.out) x l) g))

    pub finish_stored : Finishes before m.out m'.out back → (0 ≡ status_in m) × (m' ≡ finish_after m)
    unfolding finish_after
    finish_stored f =
        let g = subst (λ (k : Stream). Finishes k m.out m'.out back) before_is f in
        let x = session_of (stream_in m) in
        let z = subst (λ (b : Bool). ComesTo (cond b (finished x) x) 0 m.out m'.out back)
        (has_room m taken) g in
        (sym taken, rw none (comes (finished x) 0 z))
