-- Laws of feeding bytes: up to the end of a line, and as far as there is room.
use mathlib.Core.Path.{◌≡◌, refl, sym, ap, ◌∙◌}
use mathlib.Core.Bool.{Bool, true, false, cond}
use mathlib.Core.List.{List, [], ◌∷◌, ◌++◌, append_assoc, append-nil}
use Prim.Native.Nat.{ℕ, zero, suc, ◌+◌, ◌≤◌, ◌<◌}
use native.Mathlib.Omega.{arith}
use lib.Dec.{leb, eqb}
use lib.ListN.{length, take, drop, get_or, length-take}
use lib.Seq.{take_all, take-suc, drop-cons}
use borrow.Author.Tests.{le-leb, lt-ltb, leb-true, leb-false, eqb-true}
use Rattle.std.specs.Prelude.{Result, Err}
use Rattle.refusal.specs.declared.Refusal.{Refusal}
use Rattle.refusal.specs.Refusal.{refusal}
use Rattle.lines.specs.declared.Record.{Record}
use Rattle.lines.specs.Limits.{max_line, line_buffer}
use Rattle.lines.specs.Reading.{reading}
use Rattle.day.specs.declared.Day.{Day}
use Rattle.reply.specs.Reply.{request_of, executed, outcome, reply_records, record_lines, reply, next}
use Rattle.reply.specs.Session.{Session, reply_room, longer, ended, after_byte, fed, consumed_count, upto}

-- A line cut at `line_buffer` bytes reads as the whole line does.

cut_long : (l : List ℕ) → max_line < length l → reading l ≡ Err (refusal 16)
unfolding reading
cut_long l h = rw (lt-ltb max_line (length l) h)

pub cut_reading : (l : List ℕ) → reading (take line_buffer l) ≡ reading l
cut_reading l = go (leb (length l) line_buffer) refl
  where
    go : (t : Bool) → leb (length l) line_buffer ≡ t → reading (take line_buffer l) ≡ reading l
    go true e = ap reading (take_all line_buffer l (leb-true (length l) line_buffer e))
    go false e =
        let h : line_buffer < length l = leb-false (length l) line_buffer e in
        cut_long (take line_buffer l) (omega (arith, length-take line_buffer l)) ∙ sym (cut_long l (omega arith))

pub cut_reply : (s : Day) (l : List ℕ) → reply s (take line_buffer l) ≡ reply s l
unfolding reply outcome
cut_reply s l =
    ap (λ (r : Result Record Refusal). record_lines (reply_records (executed s (request_of r)))) (cut_reading l)

pub cut_next : (s : Day) (l : List ℕ) → next s (take line_buffer l) ≡ next s l
unfolding next outcome
cut_next s l = ap (λ (r : Result Record Refusal). (executed s (request_of r)).day) (cut_reading l)

-- Feeding.

pub fed_append : (x : Session) (a b : List ℕ) → fed x (a ++ b) ≡ fed (fed x a) b
unfolding fed
fed_append x [] b = refl
fed_append x (c ∷ a) b = fed_append (after_byte x c) a b

take_cut : (n : ℕ) (a b : List ℕ) → take n (take n a ++ b) ≡ take n (a ++ b)
take_cut zero a b = refl
take_cut (suc n) [] b = refl
take_cut (suc n) (x ∷ a) b = ap (λ (l : List ℕ). x ∷ l) (take_cut n a b)

longer_none : (x : Session) → length x.pending ≤ line_buffer → longer x [] ≡ x
longer_none x h = ap (λ (l : List ℕ). record { day = x.day; pending = l; output = x.output })
    (ap (take line_buffer) (append-nil x.pending) ∙ take_all line_buffer x.pending h)

longer_longer : (x : Session) (a b : List ℕ) → longer (longer x a) b ≡ longer x (a ++ b)
longer_longer x a b = ap (λ (l : List ℕ). record { day = x.day; pending = l; output = x.output })
    (take_cut line_buffer (x.pending ++ a) b ∙ ap (take line_buffer) (append_assoc x.pending a b))

longer_short : (x : Session) (w : List ℕ) → length (longer x w).pending ≤ line_buffer
longer_short x w = omega (arith, length-take line_buffer (x.pending ++ w))

-- whatever is fed, no more is pending than tells that a line is too long
byte_short : (x : Session) (b : ℕ) → length (after_byte x b).pending ≤ line_buffer
unfolding after_byte
byte_short x b = go (eqb b 10)
  where
    go : (t : Bool) → length (cond t (ended x) (longer x (b ∷ []))).pending ≤ line_buffer
    go true = omega arith
    go false = longer_short x (b ∷ [])

pub fed_short : (x : Session) (l : List ℕ) → length x.pending ≤ line_buffer → length (fed x l).pending ≤ line_buffer
unfolding fed
fed_short x [] h = h
fed_short x (b ∷ l) h = fed_short (after_byte x b) l (byte_short x b)

pub byte_plain : (x : Session) (b : ℕ) → eqb b 10 ≡ false → after_byte x b ≡ longer x (b ∷ [])
unfolding after_byte
byte_plain x b e = rw e

pub byte_end : (x : Session) (b : ℕ) → b ≡ 10 → after_byte x b ≡ ended x
unfolding after_byte
byte_end x b e = rw e

-- The bytes before the first byte 10.

pub upto_at : (l : List ℕ) → upto l < length l → get_or l (upto l) 0 ≡ 10
unfolding upto
upto_at [] h = absurd (omega arith)
upto_at (b ∷ l) h = go (eqb b 10) refl h (upto_at l)
  where
    go : (t : Bool) → eqb b 10 ≡ t → cond t 0 (suc (upto l)) < suc (length l)
        → (upto l < length l → get_or l (upto l) 0 ≡ 10) → get_or (b ∷ l) (cond t 0 (suc (upto l))) 0 ≡ 10
    go true e k ih = eqb-true b 10 e
    go false e k ih = ih (omega arith)

pub plain_fed : (x : Session) (l : List ℕ) → length x.pending ≤ line_buffer → fed x (take (upto l) l)
    ≡ longer x (take (upto l) l)
unfolding fed upto
plain_fed x [] h = sym (longer_none x h)
plain_fed x (b ∷ l) h = go (eqb b 10) refl (plain_fed (longer x (b ∷ [])) l (longer_short x (b ∷ [])))
  where
    go : (t : Bool) → eqb b 10 ≡ t → fed (longer x (b ∷ [])) (take (upto l) l)
        ≡ longer (longer x (b ∷ [])) (take (upto l) l) → fed x (take (cond t 0 (suc (upto l))) (b ∷ l))
        ≡ longer x (take (cond t 0 (suc (upto l))) (b ∷ l))
    go true e ih = sym (longer_none x h)
    go false e ih = ap (λ (y : Session). fed y (take (upto l) l)) (byte_plain x b e) ∙ ih
        ∙ longer_longer x (b ∷ []) (take (upto l) l)

fed_one : (x : Session) (b : ℕ) → fed x (b ∷ []) ≡ after_byte x b
unfolding fed
fed_one x b = refl

-- a line that ends
pub line_fed : (x : Session) (l : List ℕ) → length x.pending ≤ line_buffer → upto l < length l
    → fed x (take (suc (upto l)) l) ≡ ended (longer x (take (upto l) l))
line_fed x l h k =
    ap (fed x) (take-suc l (upto l) 0 k)
    ∙ fed_append x (take (upto l) l) (get_or l (upto l) 0 ∷ [])
    ∙ ap (λ (y : Session). fed y (get_or l (upto l) 0 ∷ [])) (plain_fed x l h)
    ∙ fed_one (longer x (take (upto l) l)) (get_or l (upto l) 0)
    ∙ byte_end (longer x (take (upto l) l)) (get_or l (upto l) 0) (upto_at l k)

-- How many bytes are taken.

consumed_cons : (n : ℕ) (x : Session) (b : ℕ) (l : List ℕ) → length x.output + reply_room ≤ n
    → consumed_count n x (b ∷ l) ≡ suc (consumed_count n (after_byte x b) l)
unfolding consumed_count
consumed_cons n x b l h = rw (le-leb (length x.output + reply_room) n h)

pub consumed_nil : (n : ℕ) (x : Session) → consumed_count n x [] ≡ 0
unfolding consumed_count
consumed_nil n x = refl

pub consumed_plain : (n : ℕ) (x : Session) (l : List ℕ) → length x.pending ≤ line_buffer
    → length x.output + reply_room ≤ n
    → consumed_count n x l ≡ upto l + consumed_count n (longer x (take (upto l) l)) (drop (upto l) l)
unfolding upto
consumed_plain n x [] h r = omega (arith, consumed_nil n x, consumed_nil n (longer x []))
consumed_plain n x (b ∷ l) h r = go (eqb b 10) refl (consumed_plain n (longer x (b ∷ [])) l (longer_short x (b ∷ [])) r)
  where
    go : (t : Bool) → eqb b 10 ≡ t → consumed_count n (longer x (b ∷ [])) l
        ≡ upto l + consumed_count n (longer (longer x (b ∷ [])) (take (upto l) l)) (drop (upto l) l)
        → consumed_count n x (b ∷ l) ≡ cond t 0 (suc (upto l)) + consumed_count n
        (longer x (take (cond t 0 (suc (upto l))) (b ∷ l))) (drop (cond t 0 (suc (upto l))) (b ∷ l))
    go true e ih = omega (arith, ap (λ (y : Session). consumed_count n y (b ∷ l)) (longer_none x h))
    go false e ih =
        omega (
          arith,
          consumed_cons n x b l r,
          ap (λ (y : Session). consumed_count n y l) (byte_plain x b e),
          ih,
          ap (λ (y : Session). consumed_count n y (drop (upto l) l)) (longer_longer x (b ∷ []) (take (upto l) l)),
        )

pub consumed_line : (n : ℕ) (x : Session) (l : List ℕ) → length x.pending ≤ line_buffer
    → length x.output + reply_room ≤ n → upto l < length l
    → consumed_count n x l ≡ suc (upto l) + consumed_count n (ended (longer x (take (upto l) l)))
    (drop (suc (upto l)) l)
consumed_line n x l h r k =
    let y = longer x (take (upto l) l) in
    omega (
      arith,
      consumed_plain n x l h r,
      ap (consumed_count n y) (drop-cons l (upto l) 0 k),
      consumed_cons n y (get_or l (upto l) 0) (drop (suc (upto l)) l) r,
      ap (λ (z : Session). consumed_count n z (drop (suc (upto l)) l)) (byte_end y (get_or l (upto l) 0) (upto_at l k)),
    )
