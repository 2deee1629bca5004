-- Where the first byte 10 stands, what is left of the input where no line ends in it, and what is kept of a line.
use native.Mathlib.Numerals.{add-one}
use mathlib.Core.Path.{◌≡◌, refl, sym, ap, ◌∙◌}
use mathlib.Core.Bool.{Bool, true, false, not, ◌||◌, cond}
use mathlib.Core.List.{List, [], ◌∷◌, ◌++◌, append_assoc}
use Prim.Native.Nat.{ℕ, suc, ◌+◌, ◌-◌, ◌≤◌, ◌<◌}
use native.Mathlib.Omega.{arith}
use lib.Dec.{ltb, eqb}
use lib.ListN.{length, take, drop, get_or, length-append, length-drop, take-append-drop, set}
use lib.Seq.{take_all, take-length, take-append-add, length-take-le, drop-length, drop-drop, take-suc, take-suc-set}
use borrow.Author.Tests.{lt-leb, ltb-true, ltb-false}
use Rattle.std.specs.Prelude.{Some, None}
use Rattle.std.specs.List.{position, position_or_len}
use Rattle.std.specs.Option.{unwrap_or}
use Rattle.std.proofs.lemmas.List.{take_more}
use Rattle.lines.specs.Limits.{line_buffer}
use Rattle.reply.specs.Session.{Session, reply_room, longer, fed, consumed_count, upto}
use Rattle.batch.specs.Cited.{line_of}
use Rattle.reply.proofs.Sessions.{plain_fed, consumed_nil, consumed_plain}

pub upto_le : (l : List ℕ) → upto l ≤ length l
unfolding upto
upto_le [] = omega arith
upto_le (b ∷ l) = go (eqb b 10) (upto_le l)
  where
    go : (t : Bool) → upto l ≤ length l → cond t 0 (suc (upto l)) ≤ suc (length l)
    go true h = omega arith
    go false h = omega arith

upto_first : (l : List ℕ) → upto l ≡ position_or_len (λ b. eqb b 10) l
unfolding upto
upto_first [] = refl
upto_first (b ∷ l) = go (eqb b 10) (upto_first l)
  where
    go : (t : Bool) → upto l ≡ position_or_len (λ b. eqb b 10) l
        → cond t 0 (suc (upto l)) ≡ cond (not t) (1 + position_or_len (λ b. eqb b 10) l) 0
    go true h = refl
    go false h = omega (arith, h)

-- a search for it, or the length
pub upto_found : (l : List ℕ) → unwrap_or (position (λ b. eqb b 10) l) (length l) ≡ upto l
upto_found l = go (ltb first (length l)) refl (upto_first l) (upto_le l)
  where
    first : ℕ
    first = position_or_len (λ b. eqb b 10) l

    go : (t : Bool) → ltb first (length l) ≡ t → upto l ≡ first → upto l ≤ length l
        → unwrap_or (cond t (Some first) None) (length l) ≡ upto l
    go true e q h = sym q
    go false e q h = omega (arith, q, h, ltb-false first (length l) e)

-- bytes without it, and then more
upto_over : (a b : List ℕ) → upto a ≡ length a → upto (a ++ b) ≡ length a + upto b
unfolding upto
upto_over [] b e = omega arith
upto_over (c ∷ a) b e = go (eqb c 10) e (upto_over a b)
  where
    go : (t : Bool) → cond t 0 (suc (upto a)) ≡ suc (length a)
        → (upto a ≡ length a → upto (a ++ b) ≡ length a + upto b)
        → cond t 0 (suc (upto (a ++ b))) ≡ suc (length a) + upto b
    go true e h = absurd (omega arith)
    go false e h = let k = h (omega arith) in omega arith

pub upto_nothing : upto [] ≡ 0
unfolding upto
upto_nothing = refl

upto_one : (b : ℕ) → eqb b 10 ≡ false → upto (b ∷ []) ≡ 1
unfolding upto
upto_one b e = rw e

neither : (a b : Bool) → (a || b) ≡ false → (a ≡ false) × (b ≡ false)
neither true b e = cc
neither false b e = (refl, e)

-- one byte more is looked at
pub upto_more : (l : List ℕ) (i : ℕ) (any : Bool) → i < length l → (any ≡ false → upto (take i l) ≡ i)
    → (any || eqb (get_or l i 0) 10) ≡ false → upto (take (i + 1) l) ≡ i + 1
upto_more l i any h so e =
    let b = get_or l i 0 in
    let both = neither any (eqb b 10) e in
    let n = length-take-le i l (omega arith) in
    ap upto (take_more l i 0 h) ∙ upto_over (take i l) (b ∷ []) (omega (arith, so both.0, n))
    ∙ omega (arith, n, upto_one b both.1)

-- a block without it is passed over
pub upto_past_block : (s : List ℕ) (i to : ℕ) → i ≤ to → to ≤ length s
    → upto (take (to - i) (drop i s)) ≡ length (take (to - i) (drop i s)) → i + upto (drop i s) ≡ to + upto (drop to s)
upto_past_block s i to h k e =
    let n = to - i in
    let block = take n (drop i s) in
    let m = length-take-le n (drop i s) (omega (arith, length-drop i s)) in
    let q : i + n ≡ to = omega arith in
    let p = ap upto (sym (take-append-drop n (drop i s))) ∙ upto_over block (drop n (drop i s)) e in
    omega (arith, m, p, ap upto (drop-drop n i s), ap (λ (j : ℕ). upto (drop j s)) q)

-- a line that does not end
pub rest_fed : (x : Session) (l : List ℕ) → length x.pending ≤ line_buffer → upto l ≡ length l → fed x l ≡ longer x l
rest_fed x l h e =
    let q : take (upto l) l ≡ l = ap (λ (k : ℕ). take k l) e ∙ take-length l in
    ap (fed x) (sym q) ∙ plain_fed x l h ∙ ap (longer x) q

-- none where there is no room
pub consumed_stop : (n : ℕ) (x : Session) (l : List ℕ) → n < length x.output + reply_room → consumed_count n x l ≡ 0
unfolding consumed_count
consumed_stop n x [] h = refl
consumed_stop n x (b ∷ l) h = rw (lt-leb (length x.output + reply_room) n h)

pub consumed_rest : (n : ℕ) (x : Session) (l : List ℕ) → length x.pending ≤ line_buffer
    → length x.output + reply_room ≤ n → upto l ≡ length l → consumed_count n x l ≡ length l
consumed_rest n x l h r e =
    let y = longer x (take (upto l) l) in
    omega (
      arith,
      consumed_plain n x l h r,
      ap (λ (k : ℕ). consumed_count n y (drop k l)) e,
      ap (consumed_count n y) (drop-length l),
      consumed_nil n y,
    )

-- The bytes that are kept of a line.

-- one byte more behind those kept
pub keep_more : (h g s : List ℕ) (k n i : ℕ) → i < length s → n < length g → take n g ≡ take k h ++ take i s
    → take (n + 1) (set g n (get_or s i 0)) ≡ take k h ++ take (i + 1) s
keep_more h g s k n i p q e =
    let b = get_or s i 0 in
    ap (λ (m : ℕ). take m (set g n b)) (add-one n)
    ∙ take-suc-set g n b q
    ∙ ap (λ (l : List ℕ). l ++ (b ∷ [])) e
    ∙ append_assoc (take k h) (take i s) (b ∷ [])
    ∙ ap (λ (l : List ℕ). take k h ++ l) (sym (ap (λ (m : ℕ). take m s) (add-one i) ∙ take-suc s i 0 p))

pub keep_all : (h s : List ℕ) (k i : ℕ) → k ≤ length h → k + i ≤ line_buffer → i ≤ length s
    → (i < length s → line_buffer ≤ k + i) → take k h ++ take i s ≡ line_of h k s
keep_all h s k i p q r full = go (ltb i (length s)) refl
  where
    n : length (take k h) ≡ k
    n = length-take-le k h p

    go : (t : Bool) → ltb i (length s) ≡ t → take k h ++ take i s ≡ line_of h k s
    go true e =
        let f : line_buffer ≤ k + i = full (ltb-true i (length s) e) in
        let m : length (take k h) + i ≡ line_buffer = omega (arith, n) in
        sym (take-append-add (take k h) s i) ∙ ap (λ (j : ℕ). take j (take k h ++ s)) m
    go false e =
        let f : length s ≤ i = ltb-false i (length s) e in
        ap (λ (l : List ℕ). take k h ++ l) (take_all i s f)
        ∙ sym (take_all line_buffer (take k h ++ s) (omega (arith, n, length-append (take k h) s)))
