-- What a stream holds after a run over a block, and at the end of input.
use mathlib.Core.Path.{◌≡◌, refl, sym, ap, ap₂, ◌∙◌, subst}
use mathlib.Core.Bool.{Bool, true, false, cond}
use mathlib.Core.List.{List, [], ◌∷◌, ◌++◌, append-nil}
use Prim.Native.Nat.{ℕ, min, ◌+◌, ◌-◌, ◌≤◌, ◌<◌}
use native.Mathlib.Omega.{arith}
use lib.Dec.{leb}
use lib.ListN.{length, take, drop, replicate}
use lib.Seq.{take_all, length-take-le}
use borrow.Author.Tests.{leb-true, leb-false}
use Rattle.buffer.specs.Buffer.{Put}
use Rattle.buffer.proofs.Over.{over_front}
use Rattle.lines.specs.Limits.{line_buffer}
use Rattle.campaigns.specs.declared.Head.{Head}
use Rattle.day.specs.declared.Day.{Day}
use Rattle.day.specs.Day.{head_of}
use Rattle.batch.specs.Cited.{Position}
use Rattle.reply.specs.Reply.{reply, next}
use Rattle.reply.specs.Session.{Session, reply_room, ended, fed, consumed_count}
use Rattle.reply.proofs.Sessions.{byte_end}
use Rattle.stream.specs.declared.feed.Stream.{Stream}
use Rattle.stream.specs.declared.feed.Fed.{Fed}
use Rattle.stream.specs.Input.{after_lines, replies}
use Rattle.stream.specs.Stream.{finished, session, session_of, buffered, handed_back, answered_in}
use Rattle.stream.specs.Stream.{stream_at, AlwaysInLentMemory, Feeds, Finishes}
use Rattle.stream.specs.Cited.{Processed}

pub always_in_lent_memory : AlwaysInLentMemory
always_in_lent_memory m t n p = record {
  head_is = refl;
  terms_are = refl;
  counts_are = refl;
  pending_is = refl;
  kept_is = refl;
  consumed_is = refl;
  written_is = refl;
}

-- no more than `line_buffer` bytes are held
pub take_least : (h : List ℕ) (k : ℕ) → length h ≡ line_buffer → take (min k line_buffer) h ≡ take k h
take_least h k e = go (leb k line_buffer) refl
  where
    go : (t : Bool) → leb k line_buffer ≡ t → take (min k line_buffer) h ≡ take k h
    go true q = let m : min k line_buffer ≡ k = omega (arith, leb-true k line_buffer q) in ap (λ (i : ℕ). take i h) m
    go false q =
        let l : line_buffer < k = leb-false k line_buffer q in
        let m : min k line_buffer ≡ line_buffer = omega arith in
        ap (λ (i : ℕ). take i h) m ∙ take_all line_buffer h (omega arith) ∙ sym (take_all k h (omega arith))

session_is : (k : Stream) (n : ℕ) → n ≡ min k.kept line_buffer → length k.pending ≡ line_buffer
    → session k.day k.pending n ≡ session_of k
session_is k n q e = ap (λ (h : List ℕ). record { day = k.day; pending = h; output = [] })
    (ap (λ (i : ℕ). take i k.pending) q ∙ take_least k.pending k.kept e)

-- what is put at the front of d
front_is : {d e w : List ℕ} {to : ℕ} → Put d e 0 to w → to ≤ length d → e ≡ w ++ drop (length w) d
front_is {d} {e} {w} p h = p.here ∙ over_front d w (omega (arith, p.next))

-- as many bytes are held as are kept
kept_length : (n : ℕ) (h w : List ℕ) → n ≤ line_buffer → length h ≡ line_buffer → take n h ≡ w → n ≡ length w
kept_length n h w few e q = sym (ap (λ (l : List ℕ). length l) (sym q) ∙ length-take-le n h (omega arith))

-- and zero bytes stand behind them
cleared_is : (n : ℕ) (h w : List ℕ) → take n h ≡ w → n ≡ length w
    → take n h ++ replicate (line_buffer - n) 0 ≡ buffered w
cleared_is n h w q k = ap₂ (λ (l : List ℕ) (i : ℕ). l ++ replicate (line_buffer - i) 0) q k

-- what is handed back, field by field
abbrev back : Day → (pending : List ℕ) → (kept consumed written : ℕ) → Fed
back s g k c w = record { stream = record { day = s; pending = g; kept = k }; consumed = c; written = w }

back_from : (y : Session) (n : ℕ) {s : Day} {g : List ℕ} {k c w : ℕ} → s ≡ y.day → g ≡ buffered y.pending
    → k ≡ length y.pending → c ≡ n → w ≡ length y.output → back s g k c w ≡ handed_back y n
back_from y n a b e f h = rw (a, b, e, f, h)

-- a run over the block l from the state that k holds
module _ (k : Stream) (l d e : List ℕ) (n : ℕ) (t : Position) (g : List ℕ) where
  pub feeds : n ≡ min k.kept line_buffer → length k.pending ≡ line_buffer → length g ≡ line_buffer
      → (x : Day) → x ≡ k.day → Processed (session x k.pending n) l d e t g → {p : List ℕ}
      → p ≡ take t.kept g ++ replicate (line_buffer - t.kept) 0
      → Feeds k l d e (back t.day p t.kept t.from t.at)
  feeds q h w x f a c =
      let same : session x k.pending n ≡ session_of k =
      ap (λ (s : Day). session s k.pending n) f ∙ session_is k n q h in
      let r = subst (λ (v : Session). Processed v l d e t g) same a in
      let y = fed (session_of k) (take (consumed_count (length d) (session_of k) l) l) in
      let kept : t.kept ≡ length y.pending = kept_length t.kept g y.pending r.few w r.pending in
      let told : t.at ≡ length y.output = omega (arith, r.put.next) in
      record {
        back_is =
            back_from y _ r.day (c ∙ cleared_is t.kept g y.pending r.pending kept) kept r.from told;
        out_is = front_is r.put r.fits;
      }

finished_none : (s : Day) → finished (record { day = s; pending = []; output = [] })
    ≡ record { day = s; pending = []; output = [] }
unfolding finished after_lines replies
finished_none s = refl

finished_some : (x : Session) → 0 < length x.pending → finished x ≡ ended x
unfolding finished after_lines replies
finished_some x h = go x.pending h
  where
    go : (l : List ℕ) → 0 < length l → let y : Session = record { day = x.day; pending = l; output = x.output } in
        finished y ≡ ended y
    go [] k = absurd (omega arith)
    go (b ∷ l) k =
        ap (λ (w : List ℕ). record { day = next x.day (b ∷ l); pending = []; output = x.output ++ w })
        (append-nil (reply x.day (b ∷ l)))

-- The end of input.

-- a byte 10 that is fed is taken where there is room
end_counted : (x : Session) (n : ℕ) (b : Bool) → leb (length x.output + reply_room) n ≡ b
    → consumed_count n x (10 ∷ []) ≡ cond b 1 0
unfolding consumed_count
end_counted x n b q = rw q

fed_end : (x : Session) → fed x (10 ∷ []) ≡ ended x
unfolding fed
fed_end x = byte_end x 10 refl

fed_none : (x : Session) → fed x [] ≡ x
unfolding fed
fed_none x = refl

module _ (k : Stream) (d : List ℕ) where
  -- with no byte pending nothing is done
  pub finishes_idle : k.kept ≡ 0 → {p : List ℕ} → p ≡ replicate line_buffer 0
      → Finishes k d d (back k.day p 0 0 0)
  finishes_idle none q =
      record {
        back_is = back_from idle 0 refl q refl refl refl ∙ ap (λ (y : Session). handed_back y 0) (sym come);
        out_is = ap (λ (y : Session). answered_in y d) (sym come);
      }
    where
      idle : Session
      idle = record { day = k.day; pending = []; output = [] }

      same : session_of k ≡ idle
      same = ap (λ (i : ℕ). session k.day k.pending i) none

      either : (b : Bool) → cond b (finished (session_of k)) (session_of k) ≡ idle
      either true = ap finished same ∙ finished_none k.day
      either false = same

      come : cond (leb reply_room (length d)) (finished (session_of k)) (session_of k) ≡ idle
      come = either (leb reply_room (length d))

  -- else byte 10 ends the line
  pub finishes_fed : {e : List ℕ} (r : Fed) → 0 < length (session_of k).pending → Feeds k (10 ∷ []) d e r
      → Finishes k d e (record { stream = r.stream; consumed = 0; written = r.written })
  finishes_fed {e} r some f =
      record {
        back_is = ap none_taken f.back_is ∙ ap (λ (y : Session). handed_back y 0) (come refl);
        out_is = f.out_is ∙ ap (λ (y : Session). answered_in y d) (come refl);
      }
    where
      x : Session
      x = session_of k

      none_taken : Fed → Fed
      none_taken r = record { stream = r.stream; consumed = 0; written = r.written }

      come : {b : Bool} → leb reply_room (length d) ≡ b
          → fed x (take (consumed_count (length d) x (10 ∷ [])) (10 ∷ [])) ≡ cond b (finished x) x
      come {b} q = ap (λ (i : ℕ). fed x (take i (10 ∷ []))) (end_counted x (length d) b q) ∙ ending b
        where
          ending : (b : Bool) → fed x (take (cond b 1 0) (10 ∷ [])) ≡ cond b (finished x) x
          ending true = fed_end x ∙ sym (finished_some x some)
          ending false = fed_none x

-- a stream whose arrays are lent, its head taken out
lent_is : (k : Stream) {h : Head} → h ≡ head_of k.day
    → stream_at h k.day.terms k.day.counts k.pending k.kept ≡ k
lent_is k e = ap (λ (h : Head). stream_at h k.day.terms k.day.counts k.pending k.kept) e

-- what is done to it in place, by value
module _ (k : Stream) {h : Head} (same : h ≡ head_of k.day) {m r : Fed} (back_is : r ≡ m) where
  abbrev lent : Stream
  lent = stream_at h k.day.terms k.day.counts k.pending k.kept

  pub feeds_by_value : (l : List ℕ) {d e : List ℕ} → Feeds lent l d e m → Feeds k l d e r
  feeds_by_value l {d} {e} f =
      subst (λ (s : Stream). Feeds s l d e r) (lent_is k same)
      (record { back_is = back_is ∙ f.back_is; out_is = f.out_is })

  pub finishes_by_value : {d e : List ℕ} → Finishes lent d e m → Finishes k d e r
  finishes_by_value {d} {e} f =
      subst (λ (s : Stream). Finishes s d e r) (lent_is k same)
      (record { back_is = back_is ∙ f.back_is; out_is = f.out_is })
