-- Bytes taken one part after the other. Both what a session becomes and what is recorded compose (`took_more`); bytes
-- without a byte 10 record nothing (`took_plain`), and a byte 10 records what the pending line shows (`took_end`).
use mathlib.Core.Path.{◌≡◌, refl, sym, ap, ap₂, ◌∙◌}
use mathlib.Core.Bool.{Bool, true, false, cond}
use mathlib.Core.List.{List, [], ◌∷◌, ◌++◌}
use Prim.Native.Nat.{ℕ, suc, ◌≤◌, ◌<◌}
use native.Mathlib.Omega.{arith}
use lib.Dec.{eqb}
use lib.ListN.{length, take, length-take}
use lib.Seq.{take-length, take-suc}
use borrow.Author.Tests.{eqb-true}
use Rattle.lines.specs.Limits.{line_buffer}
use Rattle.reply.specs.Session.{Session, reply_room, longer, ended, after_byte, fed, consumed_count, upto}
use Rattle.reply.proofs.Sessions.{fed_short, byte_plain, byte_end, consumed_nil, consumed_line, upto_at}
use Rattle.batch.proofs.Rests.{consumed_rest}
use Rattle.stream.specs.declared.feed.Stream.{Stream}
use Rattle.stream.specs.declared.feed.Fed.{Fed}
use Rattle.stream.specs.Stream.{session_of, silent, Feeds}
use Rattle.stream.proofs.Chunking.{session_next}
use Rattle.stream.proofs.Parts.{stream_more}
use Rattle.recording.specs.Recording.{noted, recorded}
use Rattle.recording.specs.Cited.{Took}

-- What is recorded.

pub recorded_append : (x : Session) (v a b : List ℕ) → recorded x v (a ++ b) ≡ recorded (fed x a) (recorded x v a) b
unfolding recorded fed
recorded_append x v [] b = refl
recorded_append x v (c ∷ a) b =
    recorded_append (after_byte x c) (cond (eqb c 10) (noted x.day x.pending v) v) a b

-- the answers are not looked at
pub recorded_silent : (x : Session) (v l : List ℕ) → recorded (silent x) v l ≡ recorded x v l
unfolding recorded
recorded_silent x v [] = refl
recorded_silent x v (b ∷ l) = go (eqb b 10) refl (λ (y : Session) (w : List ℕ). recorded_silent y w l)
  where
    go : (t : Bool) → eqb b 10 ≡ t → ((y : Session) (w : List ℕ) → recorded (silent y) w l ≡ recorded y w l)
        → recorded (after_byte (silent x) b) (cond t (noted x.day x.pending v) v) l
        ≡ recorded (after_byte x b) (cond t (noted x.day x.pending v) v) l
    go true e ih =
        let w = noted x.day x.pending v in
        ap (λ (y : Session). recorded y w l) (byte_end (silent x) b (eqb-true b 10 e))
        ∙ sym (ih (ended (silent x)) w)
        ∙ ih (ended x) w
        ∙ sym (ap (λ (y : Session). recorded y w l) (byte_end x b (eqb-true b 10 e)))
    go false e ih =
        ap (λ (y : Session). recorded y v l) (byte_plain (silent x) b e)
        ∙ ih (longer x (b ∷ [])) v
        ∙ sym (ap (λ (y : Session). recorded y v l) (byte_plain x b e))

pub recorded_plain : (x : Session) (v l : List ℕ) → upto l ≡ length l → recorded x v l ≡ v
unfolding recorded upto
recorded_plain x v [] p = refl
recorded_plain x v (b ∷ l) p = go (eqb b 10) p (recorded_plain (after_byte x b) v l)
  where
    go : (t : Bool) → cond t 0 (suc (upto l)) ≡ suc (length l)
        → (upto l ≡ length l → recorded (after_byte x b) v l ≡ v)
        → recorded (after_byte x b) (cond t (noted x.day x.pending v) v) l ≡ v
    go true q ih = absurd (omega arith)
    go false q ih = ih (omega arith)

pub recorded_end : (x : Session) (v : List ℕ) → recorded x v (10 ∷ []) ≡ noted x.day x.pending v
unfolding recorded
recorded_end x v = refl

-- What is taken.

pub took_none : (k : Stream) (v : List ℕ) → Took k v [] k v
unfolding recorded fed
took_none k v = record { session_is = refl; views_are = refl }

pub took_more : {k o q : Stream} {v w u l m : List ℕ} → Took k v l o w → Took o w m q u → Took k v (l ++ m) q u
took_more {k} {o} {q} {v} {w} {u} {l} {m} t s =
    let x = session_of k in
    record {
      session_is = stream_more x l m (session_of o) t.session_is (session_of q) s.session_is;
      views_are =
          s.views_are
          ∙ ap₂ (λ (y : Session) (a : List ℕ). recorded y a m) t.session_is t.views_are
          ∙ recorded_silent (fed x l) (recorded x v l) m
          ∙ sym (recorded_append x v l m);
    }

module _ (k : Stream) (v d e : List ℕ) (r : Fed) (short : length (session_of k).pending ≤ line_buffer)
    (room : reply_room ≤ length d) where
  pub took_plain : (l : List ℕ) → upto l ≡ length l → Feeds k l d e r → Took k v l r.stream v
  took_plain l p f =
      let x = session_of k in
      let n : take (consumed_count (length d) x l) l ≡ l =
      ap (λ (i : ℕ). take i l) (consumed_rest (length d) x l short room p) ∙ take-length l in
      record {
        session_is = session_next f ∙ ap (λ (a : List ℕ). silent (fed x a)) n;
        views_are = sym (recorded_plain x v l p);
      }

  pub took_end : (w : List ℕ) → w ≡ noted k.day (session_of k).pending v → Feeds k (10 ∷ []) d e r
      → Took k v (10 ∷ []) r.stream w
  unfolding upto
  took_end w h f =
      let x = session_of k in
      let n : consumed_count (length d) x (10 ∷ []) ≡ 1 =
      omega (
        arith,
        consumed_line (length d) x (10 ∷ []) short room (omega arith),
        consumed_nil (length d) (ended (longer x [])),
      ) in
      record {
        session_is = session_next f ∙ ap (λ (i : ℕ). silent (fed x (take i (10 ∷ [])))) n;
        views_are = h ∙ sym (recorded_end x v);
      }

-- no more is pending than tells that a line is too long
pub short_after : {k m : Stream} {v w l : List ℕ} → length (session_of k).pending ≤ line_buffer → Took k v l m w
    → length (session_of m).pending ≤ line_buffer
short_after {k} {m} {v} {w} {l} h t =
    omega (arith, ap (λ (y : Session). length y.pending) t.session_is, fed_short (session_of k) l h)

pub short_stream : (k : Stream) → length k.pending ≡ line_buffer → length (session_of k).pending ≤ line_buffer
short_stream k h = omega (arith, length-take k.kept k.pending)

-- a line of the block b from a place on, with its byte 10
pub line_is : (b : List ℕ) → upto b < length b → take (suc (upto b)) b ≡ take (upto b) b ++ (10 ∷ [])
line_is b h = take-suc b (upto b) 0 h ∙ ap (λ (c : ℕ). take (upto b) b ++ (c ∷ [])) (upto_at b h)
