-- The passes of the check, a turn further: each counts down from what there is, and stops where too little is left.
use mathlib.Core.Path.{◌≡◌, refl, ap, sym, ◌∙◌, subst}
use mathlib.Core.Logic.{◌⊎◌, inl, inr}
use mathlib.Core.Bool.{Bool, true, false, cond, ◌&&◌}
use mathlib.Core.List.{List, [], ◌∷◌}
use Prim.Native.Nat.{ℕ, ◌+◌, ◌-◌, ◌*◌, ◌^◌, ◌≤◌, ◌<◌}
use native.Mathlib.Nat.{not-suc-le-zero}
use native.Mathlib.Omega.{arith}
use lib.Dec.{leb, eqb}
use lib.ListN.{length, set, take, length-set}
use lib.Seq.{get_or-set_same, get_or-set_other}
use borrow.Author.Tests.{eqb-true, eq-eqb, ne_eqb, lt-ltb, le-ltb, leb-true, leb-false}
use borrow.Author.Tests.{le-leb, lt-leb}
use Rattle.std.specs.Prelude.{Option, Some, None, MatchOption}
use Rattle.std.specs.Option.{option_eq}
use Rattle.std.proofs.lemmas.List.{get_or-take}
use Rattle.finite.specs.Finite.{sum, one_if, count, every, all}
use Rattle.finite.proofs.Sums.{sum_zero, sum_next, sum_upto, sum_eq, count_below}
use Rattle.finite.proofs.Tests.{every_of, every_not, every_next, every_eq, both_join, same_test}
use Rattle.sets.specs.Set.{member, next, beyond}
use Rattle.sets.proofs.Bits.{bit_past, bit_false}
use Rattle.allotments.specs.Allotment.{at, times, brings, takings}
use Rattle.allotments.proofs.Walks.{Walking, walking_end, hand_small, hand_in, walking_turn}
use Rattle.allotments.proofs.Cases.{same_or_not, one_same, one_other}
use Rattle.certificate.specs.Cited.{rest_left}

-- tests that passed so far
pub passed_none : (p : ℕ → Bool) → every 0 p ≡ true
passed_none p = every_of 0 p (λ i l. absurd (not-suc-le-zero l))

pub passed_more : (j : ℕ) (p : ℕ → Bool) → every j p ≡ true → p j ≡ true → every (j + 1) p ≡ true
passed_more j p e h = every_next j p ∙ both_join (every j p) (p j) e h

-- an entry that is no campaign's number is named by no view
pub past_member : (view i : ℕ) → view < 2 ^ 64 → 64 ≤ i → member view i ≡ false
past_member view i l h = bit_false view i (bit_past view i l h)

-- how often a campaign is given one of the first views
pub times_none : (to : ℕ → ℕ) (i : ℕ) → times 0 to i ≡ 0
unfolding times count
times_none to i = sum_zero (λ j. one_if (eqb (to j) i))

pub times_next : (j : ℕ) (to : ℕ → ℕ) (i : ℕ) → times (j + 1) to i ≡ times j to i + one_if (eqb (to j) i)
unfolding times count
times_next j to i = sum_next j (λ k. one_if (eqb (to k) i))

pub times_upto : (j m : ℕ) (to : ℕ → ℕ) (i : ℕ) → j ≤ m → times j to i ≤ times m to i
unfolding times
times_upto j m to i l = count_below j m (λ k. eqb (to k) i) l

-- the whole plays that n campaigns have left after j views
pub record Left (n : ℕ) (wholes left : List ℕ) (to : ℕ → ℕ) (j : ℕ) : Type 0 where
  pub long : length left ≡ 64
  pub each : (i : ℕ) → i < n → at left i + times j to i ≡ at wholes i

module _ (n : ℕ) (wholes : List ℕ) (to : ℕ → ℕ) where
  pub left_start : length wholes ≡ 64 → Left n wholes wholes to 0
  left_start e = record { long = e; each = λ i l. omega (arith, times_none to i) }

  module _ (left : List ℕ) (j : ℕ) (now : Left n wholes left to j) where
    -- an entry that is no campaign takes no play
    pub left_same : n ≤ to j → Left n wholes left to (j + 1)
    left_same past = record {
      long = now.long;
      each = λ i l. omega (
        arith,
        now.each i l,
        times_next j to i,
        one_other (to j) i (λ e. omega arith),
      );
    }

    pub left_less : n ≤ 64 → to j < n → 0 < at left (to j) → Left n wholes (set left (to j) (at left (to j) - 1)) to
        (j + 1)
    left_less few l some = record {
      long = length-set left (to j) (at left (to j) - 1) ∙ now.long;
      each = λ i k. go i
          k (same_or_not i (to j));
    }
      where
        after : List ℕ
        after = set left (to j) (at left (to j) - 1)

        go : (i : ℕ) → i < n → (i ≡ to j) ⊎ (i ≡ to j → ⊥) → at after i + times (j + 1) to i ≡ at wholes i
        go i k (inl e) =
            let here : at after i ≡ at left (to j) - 1 = ap (at after) e ∙ get_or-set_same left (to j)
            (at left (to j) - 1) 0 (omega (arith, now.long)) in
            omega (arith, now.each i k, times_next j to i, one_same (to j) i (sym e), here, ap (at left) e)
        go i k (inr ne) =
            let here : at after i ≡ at left i = get_or-set_other left (to j) i (at left (to j) - 1) 0 ne in
            omega (arith, now.each i k, times_next j to i, one_other (to j) i (λ e. ne (sym e)), here)

    -- a campaign with none left is given one too many
    pub left_none : (m : ℕ) → j < m → to j < n → at left (to j) ≡ 0 → every n (λ i. leb (times m to i) (at wholes i))
        ≡ false
    left_none m l k e =
        every_not n (λ i. leb (times m to i) (at wholes i)) (to j) k
        (lt-leb (times m to (to j)) (at wholes (to j)) (omega (
          arith,
          now.each (to j) k,
          times_next j to (to j),
          one_same (to j) (to j) refl,
          times_upto (j + 1) m to (to j) (omega arith),
        )))

    pub left_end : every n (λ i. leb (times j to i) (at wholes i)) ≡ true
    left_end = every_of n (λ i. leb (times j to i) (at wholes i)) (λ i l. le-leb (times j to i) (at wholes i)
        (omega (arith, now.each i l)))

-- the walk of a view's names: those that are not left passed
abbrev Passes : (view : ℕ) → (ℕ → Bool) → ℕ → Type 0
Passes view p k = cond (member view k) (p k) true ≡ true

abbrev pub Walked : (view : ℕ) → (ℕ → Bool) → (left : ℕ) → Type 0
Walked view p left = Walking view left (Passes view p)

module _ (view : ℕ) (p : ℕ → Bool) where
  pub walked_start : view < 2 ^ 64 → Walked view p view
  walked_start small = record {
    small = small;
    part = λ d l m. m;
    done = λ d l m. ap (λ (b : Bool). cond b (p d) true)
        m;
  }

  pub walked_end : (n left : ℕ) → n ≤ 64 → left ≡ 0 → Walked view p left → every n (λ k. cond (member view k) (p k)
      true) ≡ true
  walked_end n left few e w = every_of n (λ k. cond (member view k) (p k) true) (λ k m. walking_end view left
      (Passes view p) w e k (omega arith))

  module _ (left c : ℕ) (some : left ≡ 0 → ⊥) (c_is : c ≡ next left 0) (w : Walked view p left) where
    -- the name at hand
    pub walked_small : c < 64
    walked_small = hand_small left w.small some c c_is

    pub walked_named : member view c ≡ true
    walked_named = w.part c walked_small (hand_in left w.small some c c_is)

    pub walked_turn : (left' : ℕ) → left' ≡ beyond left c → p c ≡ true → Walked view p left'
    walked_turn left' e ok =
        walking_turn left w.small some c c_is view left' (Passes view p) (Passes view p) e w (λ d l ne h. h)
        (tested (member view c))
      where
        tested : (b : Bool) → cond b (p c) true ≡ true
        tested true = ok
        tested false = refl

    pub walked_stop : (n : ℕ) → c < n → p c ≡ false → every n (λ k. cond (member view k) (p k) true) ≡ false
    walked_stop n l e = every_not n (λ k. cond (member view k) (p k) true) c l (ap (λ (b : Bool). cond b (p c) true)
        walked_named ∙ e)

-- the takings of the views below j, each of which adds a price of 32 bits
abbrev pub Summed : (n : ℕ) (price to : ℕ → ℕ) (j sum : ℕ) → Type 0
Summed n price to j sum = (sum ≡ takings n price j to) × (sum ≤ j * 4294967296)

takings_none : (n : ℕ) (price to : ℕ → ℕ) → takings n price 0 to ≡ 0
unfolding takings
takings_none n price to = sum_zero (λ j. brings n price (to j))

pub summed_none : (n : ℕ) (price to : ℕ → ℕ) → Summed n price to 0 0
summed_none n price to = (sym (takings_none n price to), omega arith)

module _ (n : ℕ) (price to : ℕ → ℕ) (j : ℕ) where
  takings_next : takings n price (j + 1) to ≡ takings n price j to + brings n price (to j)
  unfolding takings
  takings_next = sum_next j (λ k. brings n price (to k))

  pub summed_more : (sum x : ℕ) → Summed n price to j sum → to j < n → x ≡ price (to j) → x < 4294967296 → Summed n
      price to (j + 1) (sum + x)
  summed_more sum x now l e small =
      let p : brings n price (to j) ≡ price (to j) = rw (lt-ltb (to j) n l) in
      (omega (arith, now.0, takings_next, p, e), omega (arith, now.1))

  pub summed_same : (sum : ℕ) → Summed n price to j sum → n ≤ to j → Summed n price to (j + 1) sum
  summed_same sum now l = let p : brings n price (to j) ≡ 0 = rw (le-ltb (to j) n l) in
      (omega (arith, now.0, takings_next, p), omega (arith, now.1))

sum_longer : (j n : ℕ) (f : ℕ → ℕ) → j ≤ n → sum j f ≤ sum n f
sum_longer j n f h =
    let q : (n - j) + j ≡ n = omega arith in
    subst (λ (k : ℕ). sum j f ≤ sum k f) q (sum_upto (n - j) j f)

-- an amount counted down by the terms of a sum
module _ (n : ℕ) (f : ℕ → ℕ) (amount left j : ℕ) (now : left + sum j f ≡ amount) where
  pub counted_on : f j ≤ left → left - f j + sum (j + 1) f ≡ amount
  counted_on l = omega (arith, sum_next j f)

  counted_past : j < n → left < f j → amount < sum n f
  counted_past l h = omega (arith, sum_next j f, sum_longer (j + 1) n f (omega arith))

  pub counted_short : j < n → left < f j → None ≡ rest_left (sum n f) amount
  counted_short l h = rw (lt-leb (sum n f) amount (counted_past l h))

  pub counted_rest : j ≡ n → Some left ≡ rest_left (sum n f) amount
  counted_rest e =
      let rest : amount - sum n f ≡ left = omega (arith, ap (λ (k : ℕ). sum k f) e) in
      rw (le-leb (sum n f) amount (omega (arith, ap (λ (k : ℕ). sum k f) e)), rest)

-- the figures sum to the takings exactly if nothing is left of those after the campaigns and the views
pub figures_joined : (less rest : Option ℕ) {b : Bool} (s w : ℕ) {t t' : ℕ} → t ≡ t' → less ≡ rest_left s t
    → MatchOption less (rest ≡ None) (λ x. rest ≡ rest_left w x) → b ≡ option_eq eqb rest (Some 0)
    → b ≡ eqb (s + w) t'
figures_joined less rest {b} s w {t} {t'} e l m q =
    q ∙ go (leb s t) refl (subst (λ (x : Option ℕ). MatchOption x (rest ≡ None) (λ x. rest ≡ rest_left w x)) l m)
    ∙ ap (eqb (s + w)) e
  where
    all_taken : (c : Bool) → leb w (t - s) ≡ c → s ≤ t
        → option_eq eqb (cond c (Some (t - s - w)) None) (Some 0) ≡ eqb (s + w) t
    all_taken true f h = same_test (eqb (t - s - w) 0) (eqb (s + w) t)
        (λ k. eq-eqb (s + w) t (omega (arith, eqb-true (t - s - w) 0 k, leb-true w (t - s) f)))
        (λ k. eq-eqb (t - s - w) 0 (omega (arith, eqb-true (s + w) t k)))
    all_taken false f h = sym (ne_eqb (s + w) t (λ k. omega (arith, leb-false w (t - s) f)))

    go : (c : Bool) → leb s t ≡ c → MatchOption (cond c (Some (t - s)) None) (rest ≡ None) (λ x. rest ≡ rest_left w x)
        → option_eq eqb rest (Some 0) ≡ eqb (s + w) t
    go true f n = ap (λ (x : Option ℕ). option_eq eqb x (Some 0)) n ∙ all_taken (leb w (t - s)) refl (leb-true s t f)
    go false f n = ap (λ (x : Option ℕ). option_eq eqb x (Some 0)) n
        ∙ sym (ne_eqb (s + w) t (λ k. omega (arith, leb-false s t f)))

-- the first entries of a list, as a part of it
pub sum_front : (n : ℕ) (xs : List ℕ) → sum n (at (take n xs)) ≡ sum n (at xs)
sum_front n xs = sum_eq n (at (take n xs)) (at xs) (λ j l. get_or-take n xs j 0 l)

pub takings_front : (count : ℕ) (price : ℕ → ℕ) (n : ℕ) (xs : List ℕ)
    → takings count price n (at (take n xs)) ≡ takings count price n (at xs)
unfolding takings
takings_front count price n xs =
    sum_eq n (λ j. brings count price (at (take n xs) j)) (λ j. brings count price (at xs j))
    (λ j l. ap (brings count price) (get_or-take n xs j 0 l))

pub plays_front : (m n : ℕ) (wholes xs : List ℕ) → every m (λ i. leb (times n (at (take n xs)) i) (at wholes i))
    ≡ every m (λ i. leb (times n (at xs) i) (at wholes i))
unfolding times count
plays_front m n wholes xs =
    every_eq m (λ i. leb (times n (at (take n xs)) i) (at wholes i)) (λ i. leb (times n (at xs) i) (at wholes i))
    (λ i k. ap (λ (x : ℕ). leb x (at wholes i)) (sum_eq n (λ j. one_if (eqb (at (take n xs) j) i))
    (λ j. one_if (eqb (at xs j) i)) (λ j l. ap (λ (x : ℕ). one_if (eqb x i)) (get_or-take n xs j 0 l))))

-- the parts of the check, as the code joins them
pub parts_joined : {a b c d a' b' c' d' : Bool} → a ≡ a' → b ≡ b' → c ≡ c' → d ≡ d' → (((a && b) && c) && d) ≡ all
    (a' ∷ b' ∷ c' ∷ d' ∷ [])
parts_joined {a' = a'} {b' = b'} {c' = c'} {d' = d'} p q r s = rw (p, q, r, s) (join a' b' c' d')
  where
    join : (a b c d : Bool) → (((a && b) && c) && d) ≡ all (a ∷ b ∷ c ∷ d ∷ [])
    join true true true true = refl
    join true true true false = refl
    join true true false d = refl
    join true false c d = refl
    join false b c d = refl
