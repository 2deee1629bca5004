-- How long numerals and names are: a numeral by its tenth, names by the count of the set's members, three bytes for
-- each and two for each below 10.
use mathlib.Core.Path.{◌≡◌, refl, sym, ap, ◌∙◌}
use mathlib.Core.Bool.{Bool, true, false, cond}
use mathlib.Core.List.{List, [], ◌∷◌, ◌++◌}
use Prim.Native.Nat.{ℕ, zero, suc, ◌+◌, ◌*◌, ◌-◌, ◌/◌, ◌%◌, ◌^◌, ◌≤◌, ◌<◌}
use native.Mathlib.Nat.{pow-suc, div-lt_iff_lt-mul}
use native.Mathlib.Omega.{arith}
use lib.Dec.{ltb, eqb, lit<}
use lib.ListN.{length, length-append}
use borrow.Author.Tests.{ltb-true, ltb-false, eq-eqb, ne_eqb}
use lib.Pow.{field, mod-mod-pow}
use Rattle.finite.specs.Finite.{one_if, count}
use Rattle.finite.proofs.Sums.{sum_zero, sum_eq, count_suc, count_skip}
use Rattle.sets.specs.Set.{member, size}
use Rattle.lines.specs.Limits.{set_bits}
use Rattle.lines.specs.Numeral.{numeral_in, numeral}
use Rattle.lines.specs.Form.{names_text, slot_text, names_slot}
use Rattle.lines.proofs.Numerals.{numeral_one, numeral_more}
use Rattle.sets.proofs.Algebra.{none_above}

-- Numerals.

-- a numeral has a digit
pub numeral_some : (n : ℕ) → 0 < length (numeral n)
unfolding numeral numeral_in
numeral_some n = go (ltb n 10)
  where
    go : (t : Bool) → 0 < length (cond t ((48 + n) ∷ []) (numeral_in 19 (n / 10) ++ ((48 + n % 10) ∷ [])))
    go true = omega arith
    go false = rw length-append (omega arith)

pub len_one : (n : ℕ) → n < 10 → length (numeral n) ≡ 1
len_one n h = ap length (numeral_one n h)

pub len_more : (n : ℕ) → 10 ≤ n → n < 2 ^ 64 → length (numeral n) ≡ length (numeral (n / 10)) + 1
len_more n h b = ap length (numeral_more n h b) ∙ length-append (numeral (n / 10)) ((48 + n % 10) ∷ [])

pub len_two : (n : ℕ) → 10 ≤ n → n < 100 → length (numeral n) ≡ 2
len_two n h b = omega (arith, len_more n h (omega arith), len_one (n / 10) (omega arith))

pub len_three : (n : ℕ) → 100 ≤ n → n < 1000 → length (numeral n) ≡ 3
len_three n h b = omega (arith, len_more n (omega arith) (omega arith), len_two (n / 10) (omega arith) (omega arith))

pub len_four : (n : ℕ) → 1000 ≤ n → n < 10000 → length (numeral n) ≡ 4
len_four n h b = omega (arith, len_more n (omega arith) (omega arith), len_three (n / 10) (omega arith) (omega arith))

pub len_skip : (n : ℕ) → 10000 ≤ n → n < 2 ^ 64 → length (numeral n) ≡ 4 + length (numeral (n / 10000))
len_skip n h b =
    let q : n / 10 / 10 / 10 / 10 ≡ n / 10000 = omega arith in
    let a = len_more n (omega arith) b in
    let c = len_more (n / 10) (omega arith) (omega arith) in
    let d = len_more (n / 10 / 10) (omega arith) (omega arith) in
    let e = len_more (n / 10 / 10 / 10) (omega arith) (omega arith) in
    omega (arith, a, c, d, e, ap (λ (x : ℕ). length (numeral x)) q)

-- a number below 10^(k + 1) has at most k + 1 digits
pub len_within : (k n : ℕ) → n < 10 ^ suc k → n < 2 ^ 64 → length (numeral n) ≤ suc k
len_within zero n h b = omega (arith, len_one n h)
len_within (suc k) n h b = go (ltb n 10) refl (λ p. len_within k (n / 10) p (omega arith))
  where
    go : (t : Bool) → ltb n 10 ≡ t → (n / 10 < 10 ^ suc k → length (numeral (n / 10)) ≤ suc k)
        → length (numeral n) ≤ suc (suc k)
    go true e ih = omega (arith, len_one n (ltb-true n 10 e))
    go false e ih =
        omega (arith, len_more n (ltb-false n 10 e) b, ih ((div-lt_iff_lt-mul (lit< tt)).1 (rw pow-suc at h)))

-- A name below 64 has one or two digits.

pub name_two : (n : ℕ) → 10 ≤ n → n < 100 → numeral n ≡ (48 + n / 10 % 10) ∷ (48 + n % 10) ∷ []
name_two n h b =
    let e : n / 10 ≡ n / 10 % 10 = omega arith in
    numeral_more n h (omega arith)
    ∙ ap (λ (x : List ℕ). x ++ ((48 + n % 10) ∷ []))
    (numeral_one (n / 10) (omega arith) ∙ ap (λ (x : ℕ). (48 + x) ∷ []) e)

pub name_one : (n : ℕ) → n < 10 → numeral n ≡ (48 + n % 10) ∷ []
name_one n h = let e : n ≡ n % 10 = omega arith in numeral_one n h ∙ ap (λ (x : ℕ). (48 + x) ∷ []) e

-- The names of a set: two bytes for each below 10, three for each other.

name_long : (n v : ℕ) (k : ℕ) → suc k ≡ length (32 ∷ numeral n)
    → length (names_text (suc n) v) ≡ length (names_text n v) + suc k * one_if (member v n)
unfolding names_text
name_long n v k e = length-append (names_text n v) (cond (member v n) (32 ∷ numeral n) []) ∙ go (member v n)
  where
    go : (t : Bool) → length (names_text n v) + length (cond t (32 ∷ numeral n) [])
        ≡ length (names_text n v) + suc k * one_if t
    go true = omega (arith, e)
    go false = omega arith

count_zero : (p : ℕ → Bool) → count 0 p ≡ 0
unfolding count
count_zero p = sum_zero (λ i. one_if (p i))

names_short : (n v : ℕ) → n ≤ 10 → length (names_text n v) ≡ 2 * count n (member v)
unfolding names_text
names_short zero v h = omega (arith, count_zero (member v))
names_short (suc n) v h =
    omega (
      arith,
      name_long n v 1 (sym (ap (λ (x : ℕ). suc x) (len_one n (omega arith)))),
      names_short n v (omega arith),
      count_suc n (member v),
    )

names_long : (k v : ℕ) → k + 10 ≤ 100
    → length (names_text (k + 10) v) + count 10 (member v) ≡ 3 * count (k + 10) (member v)
names_long zero v h = let e : 0 + 10 ≡ 10 = refl in omega (arith, names_short 10 v (omega arith))
names_long (suc k) v h =
    let e : suc k + 10 ≡ suc (k + 10) = omega arith in
    omega (
      arith,
      name_long (k + 10) v 2 (sym (ap (λ (x : ℕ). suc x) (len_two (k + 10) (omega arith) (omega arith)))),
      names_long k v (omega arith),
      count_suc (k + 10) (member v),
      ap (λ (x : ℕ). length (names_text x v)) e,
      ap (λ (x : ℕ). count x (member v)) e,
    )

-- the members below 10 are those of the set's last ten bits
low_member : (v i : ℕ) → i < 10 → member (v % 1024) i ≡ member v i
unfolding member
low_member v i h =
    let j = 9 - i in
    let e : 10 ≡ j + 1 + i = omega arith in
    let p : v % 1024 / 2 ^ i ≡ v / 2 ^ i % 2 ^ (j + 1) = ap (λ (x : ℕ). v % 2 ^ x / 2 ^ i) e ∙ field v (j + 1) i in
    ap (λ (x : ℕ). eqb x 1) (ap (λ (x : ℕ). x % 2) p ∙ mod-mod-pow (v / 2 ^ i) j 1)

low_size : (v : ℕ) → size (v % 1024) ≡ count 10 (member v)
unfolding size count
low_size v =
    count_skip 54 10 (member (v % 1024)) (λ i p q. none_above (v % 1024) 10 (omega arith) i p)
    ∙ sum_eq 10 (λ i. one_if (member (v % 1024) i)) (λ i. one_if (member v i)) (λ i h. ap one_if (low_member v i h))

pub names_size : (v : ℕ) → length (names_text set_bits v) + size (v % 1024) ≡ 3 * size v
unfolding size
names_size v = omega (arith, names_long 54 v (omega arith), low_size v)

count_most : (n : ℕ) (p : ℕ → Bool) → count n p ≤ n
count_most zero p = omega (arith, count_zero p)
count_most (suc n) p = go (p n) refl (count_most n p)
  where
    go : (t : Bool) → p n ≡ t → count n p ≤ n → count (suc n) p ≤ suc n
    go true e ih = omega (arith, count_suc n p, ap one_if e)
    go false e ih = omega (arith, count_suc n p, ap one_if e)

pub size_most : (v : ℕ) → size v ≤ set_bits
unfolding size
size_most v = count_most set_bits (member v)

-- A slot.

pub text_names : (slot n : ℕ) → slot ≡ names_slot → slot_text slot n ≡ names_text set_bits n
unfolding slot_text
text_names slot n e = simp (eq-eqb slot names_slot e)

pub text_number : (slot n : ℕ) → (slot ≡ names_slot → ⊥) → slot_text slot n ≡ numeral n
unfolding slot_text
text_number slot n e = simp (ne_eqb slot names_slot e)
