-- A block that is fed part by part, each as far as there is room for its answers: a part and then a part is a part
-- (`stream_more`, `said_more`), and each part takes a byte at least (`part_further`).
use mathlib.Core.Path.{◌≡◌, refl, sym, ap, ◌∙◌, subst}
use mathlib.Core.List.{List, [], ◌∷◌, ◌++◌}
use Prim.Native.Nat.{ℕ, ◌+◌, ◌-◌, ◌≤◌, ◌<◌}
use native.Mathlib.Omega.{arith}
use lib.ListN.{length, take, drop, length-drop}
use lib.Seq.{take_all, take-add}
use borrow.Author.Tests.{le-leb}
use Rattle.reply.specs.Session.{Session, reply_room, fed, consumed_count}
use Rattle.reply.proofs.Sessions.{fed_append}
use Rattle.stream.specs.declared.feed.Stream.{Stream}
use Rattle.stream.specs.declared.feed.Fed.{Fed}
use Rattle.stream.specs.Stream.{session_of, silent, Feeds}
use Rattle.stream.proofs.Chunking.{with_said, fed_said, taken_inside}

-- nothing is fed
pub stream_none : (k : Stream) → session_of k ≡ silent (fed (session_of k) [])
unfolding fed
stream_none k = refl

-- y is what x has come to by l, its answers handed over: b more
module _ (x : Session) (l b : List ℕ) (y : Session) (e : y ≡ silent (fed x l)) where
  both_fed : fed x (l ++ b) ≡ with_said (fed y b) ((fed x l).output ++ (fed y b).output)
  both_fed =
      fed_append x l b ∙ fed_said (fed x l) b
      ∙ ap (λ (z : Session). with_said (fed z b) ((fed x l).output ++ (fed z b).output)) (sym e)

  pub stream_more : (z : Session) → z ≡ silent (fed y b) → z ≡ silent (fed x (l ++ b))
  stream_more z h = h ∙ sym (ap silent both_fed)

  pub said_more : (fed x l).output ++ (fed y b).output ≡ (fed x (l ++ b)).output
  said_more = sym (ap (λ (z : Session). z.output) both_fed)

-- the bytes of l from a place on are fed
module _ (k : Stream) (l d e : List ℕ) (from : ℕ) (r : Fed) (h : from ≤ length l)
    (f : Feeds k (take (length l - from) (drop from l)) d e r) where
  pub part_fed : Feeds k (drop from l) d e r
  part_fed =
      subst (λ (m : List ℕ). Feeds k m d e r)
      (take_all (length l - from) (drop from l) (omega (arith, length-drop from l))) f

  pub part_upto : from + r.consumed ≡ from + consumed_count (length d) (session_of k) (drop from l)
  part_upto = ap (λ (b : Fed). from + b.consumed) part_fed.back_is

  pub part_inside : from + r.consumed ≤ length l
  part_inside = omega (arith, taken_inside k (drop from l) d e r part_fed, length-drop from l, h)

some_taken : (n : ℕ) (x : Session) (l : List ℕ) → length x.output + reply_room ≤ n → 0 < length l
    → 0 < consumed_count n x l
unfolding consumed_count
some_taken n x [] h k = absurd (omega arith)
some_taken n x (b ∷ l) h k = rw (le-leb (length x.output + reply_room) n h) (omega arith)

-- where such a part ends
module _ (k : Stream) (l d : List ℕ) (from to : ℕ)
    (e : to ≡ from + consumed_count (length d) (session_of k) (drop from l)) where
  pub part_further : from < length l → reply_room ≤ length d → from < to
  part_further h room =
      omega (
        arith,
        e,
        some_taken (length d) (session_of k) (drop from l) room (omega (arith, length-drop from l)),
      )

  pub taken_further : take from l ++ take (consumed_count (length d) (session_of k) (drop from l)) (drop from l)
      ≡ take to l
  taken_further =
      let i = consumed_count (length d) (session_of k) (drop from l) in
      sym (ap (λ (j : ℕ). take j l) e ∙ take-add from i l)
