-- Sets made of sets: who is a member of them (`..-member`), and that a set is known by its members (`same_members`), so
-- that an operation on the bits is the set that its members make.
use mathlib.Core.Path.{◌≡◌, refl, ap, ap₂, sym, ◌∙◌}
use mathlib.Core.Bool.{Bool, true, false, cond, not, ◌&&◌, ◌||◌}
use mathlib.Core.Logic.{◌⊎◌, inl, inr}
use Prim.Native.Nat.{ℕ, zero, suc, ◌+◌, ◌-◌, ◌*◌, ◌/◌, ◌%◌, ◌^◌, ◌≤◌, ◌<◌, min, max}
use native.Mathlib.Nat.{pow-suc, pow-zero, mod-one, mod-eq_of_lt, div-eq_of_lt, lt_of_lt_of_le, add-mul-div_right}
use native.Mathlib.Omega.{arith}
use lib.Bits.{bit_and, bit_or, bit_xor, differ, and_step, or_step, xor_step, and_shr, or_shr, xor_shr, and_lt, or_lt}
use lib.Bits.{xor_lt}
use lib.Dec.{ltb, eqb, lit<}
use lib.Pow.{pow_pos, pow-lt, pow_mono, pow-add, mod-pow-add}
use borrow.Author.Tests.{eqb-true, eqb-false, eq-eqb, ne_eqb, ltb-true, ltb-false}
use Rattle.finite.specs.Finite.{sum}
use Rattle.finite.proofs.Tests.{never}
use Rattle.sets.specs.Set.{member, BitsAre, collect, without, including, beyond}
use Rattle.sets.proofs.Bits.{bit, digit}

-- An operation that works digit by digit works member by member.

module _ (op f : ℕ → ℕ → ℕ) (g : Bool → Bool → Bool)
    (shr : (a b k : ℕ) → op a b / 2 ^ k ≡ op (a / 2 ^ k) (b / 2 ^ k))
    (stp : (a b : ℕ) → op a b ≡ op (a / 2) (b / 2) * 2 + f (a % 2) (b % 2))
    (table : (f 0 0 ≡ cond (g false false) 1 0) × (f 0 1 ≡ cond (g false true) 1 0) × (f 1 0 ≡ cond (g true false) 1 0)
    × (f 1 1 ≡ cond (g true true) 1 0)) where
  bit_is : (x y r : ℕ) → f (x % 2) (y % 2) ≡ r → r < 2 → op x y % 2 ≡ r
  bit_is x y r e h = omega (arith, stp x y)

  as_bool : (b : Bool) → eqb (cond b 1 0) 1 ≡ b
  as_bool true = refl
  as_bool false = refl

  small : (b : Bool) → cond b 1 0 < 2
  small true = omega arith
  small false = omega arith

  pub op_member : (a b i : ℕ) → member (op a b) i ≡ g (member a i) (member b i)
  unfolding member
  op_member a b i = ap (λ (x : ℕ). eqb (x % 2) 1) (shr a b i) ∙ go (digit (a / 2 ^ i)) (digit (b / 2 ^ i))
    where
      x : ℕ
      x = a / 2 ^ i

      y : ℕ
      y = b / 2 ^ i

      at : (c d : ℕ) (t : Bool) → x % 2 ≡ c → y % 2 ≡ d → f c d ≡ cond t 1 0 → g (eqb c 1) (eqb d 1) ≡ t
          → eqb (op x y % 2) 1 ≡ g (eqb (x % 2) 1) (eqb (y % 2) 1)
      at c d t p q r s =
          ap (λ (n : ℕ). eqb n 1) (bit_is x y (cond t 1 0) (ap₂ f p q ∙ r) (small t)) ∙ as_bool t ∙ sym s
          ∙ sym (ap₂ (λ (u v : ℕ). g (eqb u 1) (eqb v 1)) p q)

      go : (x % 2 ≡ 0) ⊎ (x % 2 ≡ 1) → (y % 2 ≡ 0) ⊎ (y % 2 ≡ 1)
          → eqb (op x y % 2) 1 ≡ g (eqb (x % 2) 1) (eqb (y % 2) 1)
      go (inl p) (inl q) = at 0 0 (g false false) p q table.0 refl
      go (inl p) (inr q) = at 0 1 (g false true) p q table.1 refl
      go (inr p) (inl q) = at 1 0 (g true false) p q table.2 refl
      go (inr p) (inr q) = at 1 1 (g true true) p q table.3 refl

pub and_member : (a b i : ℕ) → member (bit_and a b) i ≡ (member a i && member b i)
and_member = op_member bit_and min ◌&&◌ and_shr and_step (refl, refl, refl, refl)

or_member : (a b i : ℕ) → member (bit_or a b) i ≡ (member a i || member b i)
or_member = op_member bit_or max ◌||◌ or_shr or_step (refl, refl, refl, refl)

abbrev unlike : Bool → Bool → Bool
unlike true b = not b
unlike false b = b

xor_member : (a b i : ℕ) → member (bit_xor a b) i ≡ unlike (member a i) (member b i)
xor_member = op_member bit_xor differ unlike xor_shr xor_step (refl, refl, refl, refl)

-- A set is known by its members.

-- one digit more
pub mod_suc : (v n : ℕ) → v % 2 ^ suc n ≡ v / 2 ^ n % 2 * 2 ^ n + v % 2 ^ n
mod_suc v n = let e : suc n ≡ 1 + n = omega arith in ap (λ (x : ℕ). v % 2 ^ x) e ∙ mod-pow-add v 1 n

same_bit : (a b i : ℕ) → member a i ≡ member b i → bit a i ≡ bit b i
unfolding member
same_bit a b i h = go (digit (a / 2 ^ i)) (digit (b / 2 ^ i))
  where
    clash : (x y : ℕ) → x ≡ 0 → y ≡ 1 → eqb x 1 ≡ eqb y 1 → ⊥
    clash x y p q e = never (eqb x 1) (ne_eqb x 1 (λ t. omega arith)) (e ∙ eq-eqb y 1 q)

    go : (bit a i ≡ 0) ⊎ (bit a i ≡ 1) → (bit b i ≡ 0) ⊎ (bit b i ≡ 1) → bit a i ≡ bit b i
    go (inl p) (inl q) = p ∙ sym q
    go (inl p) (inr q) = absurd (clash (bit a i) (bit b i) p q h)
    go (inr p) (inl q) = absurd (clash (bit b i) (bit a i) q p (sym h))
    go (inr p) (inr q) = p ∙ sym q

same_below : (n a b : ℕ) → ((i : ℕ) → i < n → member a i ≡ member b i) → a % 2 ^ n ≡ b % 2 ^ n
same_below zero a b h =
    ap (λ (x : ℕ). a % x) (pow-zero 2) ∙ mod-one a ∙ sym (mod-one b) ∙ ap (λ (x : ℕ). b % x) (sym (pow-zero 2))
same_below (suc n) a b h =
    omega (
      arith,
      mod_suc a n,
      mod_suc b n,
      same_below n a b (λ i l. h i (omega arith)),
      ap (λ (x : ℕ). x * 2 ^ n) (same_bit a b n (h n (omega arith))),
    )

pub same_members : (a b : ℕ) → a < 2 ^ 64 → b < 2 ^ 64 → ((i : ℕ) → i < 64 → member a i ≡ member b i) → a ≡ b
same_members a b p q h = sym (mod-eq_of_lt p) ∙ same_below 64 a b h ∙ mod-eq_of_lt q

-- Members of a sum of powers of two.

module _ (v n : ℕ) where
  -- a greater power leaves the lower members, and is one itself
  pub add_low : (j : ℕ) → j < n → member (v + 2 ^ n) j ≡ member v j
  unfolding member
  add_low j h =
      let k = n - (j + 1) in
      let e : n ≡ k + 1 + j = omega arith in
      let p : 2 ^ n ≡ 2 ^ k * 2 * 2 ^ j =
      ap (λ (x : ℕ). 2 ^ x) e ∙ pow-add 2 (k + 1) j ∙ ap (λ (x : ℕ). x * 2 ^ j) (pow-add 2 k 1) in
      let q : (v + 2 ^ n) / 2 ^ j ≡ v / 2 ^ j + 2 ^ k * 2 =
      ap (λ (x : ℕ). (v + x) / 2 ^ j) p ∙ add-mul-div_right v (2 ^ k * 2) (pow_pos j) in
      let r : (v / 2 ^ j + 2 ^ k * 2) % 2 ≡ v / 2 ^ j % 2 = omega arith in
      ap (λ (x : ℕ). eqb x 1) (ap (λ (x : ℕ). x % 2) q ∙ r)

  module _ (low : v < 2 ^ n) where
    pub add_top : member (v + 2 ^ n) n ≡ true
    unfolding member
    add_top =
        let e : v + 2 ^ n ≡ v + 1 * 2 ^ n = omega arith in
        let q : (v + 2 ^ n) / 2 ^ n ≡ 1 =
        ap (λ (x : ℕ). x / 2 ^ n) e ∙ add-mul-div_right v 1 (pow_pos n) ∙ ap (λ (x : ℕ). x + 1) (div-eq_of_lt low) in
        ap (λ (x : ℕ). eqb (x % 2) 1) q

    -- a number below a power of two has no member from there on
    pub none_above : (j : ℕ) → n ≤ j → member v j ≡ false
    unfolding member
    none_above j h = ap (λ (x : ℕ). eqb (x % 2) 1) (div-eq_of_lt (lt_of_lt_of_le low (pow_mono h)))

pub empty_member : (i : ℕ) → member 0 i ≡ false
empty_member i = none_above 0 0 (lit< tt) i (omega arith)

-- a single number
power_member : (i j : ℕ) → member (2 ^ i) j ≡ eqb j i
power_member i j =
    ap (λ (x : ℕ). member x j) (let z : 2 ^ i ≡ 0 + 2 ^ i = omega arith in z) ∙ go (eqb j i) refl (ltb j i) refl
  where
    go : (t : Bool) → eqb j i ≡ t → (b : Bool) → ltb j i ≡ b → member (0 + 2 ^ i) j ≡ t
    go true e b f = ap (member (0 + 2 ^ i)) (eqb-true j i e) ∙ add_top 0 i (pow_pos i)
    go false e true f = add_low 0 i j (ltb-true j i f) ∙ empty_member j
    go false e false f =
        let l : i < j = omega (arith, ltb-false j i f, eqb-false j i e) in
        none_above (0 + 2 ^ i) j (omega (arith, pow-lt {i = i} {j = j} l)) j (omega arith)

-- The set of those that pass a test.

pub collect_lt : (n : ℕ) (p : ℕ → Bool) → collect n p < 2 ^ n
unfolding collect
collect_lt zero p = omega (arith, pow-zero 2)
collect_lt (suc n) p = go (p n) (collect_lt n p)
  where
    go : (b : Bool) → collect n p < 2 ^ n → collect n p + cond b (2 ^ n) 0 < 2 ^ suc n
    go true h = omega (arith, pow-suc 2 n)
    go false h = omega (arith, pow-suc 2 n)

pub collect_member : (n : ℕ) (p : ℕ → Bool) (i : ℕ) → i < n → member (collect n p) i ≡ p i
unfolding collect
collect_member zero p i h = absurd (omega arith)
collect_member (suc n) p i h = go (λ l. collect_member n p i l) (eqb i n) refl (p n) refl
  where
    c : ℕ
    c = collect n p

    plain : c + 0 ≡ c
    plain = omega arith

    go : (i < n → member c i ≡ p i) → (t : Bool) → eqb i n ≡ t → (b : Bool) → p n ≡ b
        → member (c + cond b (2 ^ n) 0) i ≡ p i
    go ih true e true q =
        ap (member (c + 2 ^ n)) (eqb-true i n e) ∙ add_top c n (collect_lt n p) ∙ sym q ∙ ap p (sym (eqb-true i n e))
    go ih true e false q =
        ap (λ (x : ℕ). member x i) plain ∙ none_above c n (collect_lt n p) i (omega (arith, eqb-true i n e)) ∙ sym q
        ∙ ap p (sym (eqb-true i n e))
    go ih false e true q = let l : i < n = omega (arith, eqb-false i n e) in add_low c n i l ∙ ih l
    go ih false e false q =
        let l : i < n = omega (arith, eqb-false i n e) in
        ap (λ (x : ℕ). member x i) plain ∙ ih l

-- a 64-bit number with those members is that set
collects : (set : ℕ) (p : ℕ → Bool) → set < 2 ^ 64 → ((i : ℕ) → i < 64 → member set i ≡ p i) → set ≡ collect 64 p
collects set p h e =
    same_members set (collect 64 p) h (collect_lt 64 p) (λ i l. e i l ∙ sym (collect_member 64 p i l))

-- A set without another.

-- a set is collected from its members
collect_sum : (n : ℕ) (p : ℕ → Bool) → sum n (λ i. cond (p i) (2 ^ i) 0) ≡ collect n p
unfolding collect sum
collect_sum zero p = refl
collect_sum (suc n) p = ap (λ (x : ℕ). x + cond (p n) (2 ^ n) 0) (collect_sum n p)

pub bits_are : BitsAre
bits_are = record {
  sum_is = λ set l. collect_sum 64 (member set)
      ∙ same_members (collect 64 (member set)) set (collect_lt 64 (member set)) l (collect_member 64 (member set));
  none_beyond = λ set i l h. none_above set 64 l i h;
}

pub without_member : (set out i : ℕ) → i < 64 → member (without set out) i ≡ (member set i && not (member out i))
unfolding without
without_member set out i h = collect_member 64 (λ j. member set j && not (member out j)) i h

pub without_is : (set out : ℕ) → set < 2 ^ 64 → out < 2 ^ 64 → bit_xor set (bit_and set out) ≡ without set out
unfolding without
without_is set out p q =
    collects (bit_xor set (bit_and set out)) (λ j. member set j && not (member out j))
    (xor_lt 64 set (bit_and set out) p (and_lt 64 set out p q))
    (λ i l. xor_member set (bit_and set out) i ∙ ap (unlike (member set i)) (and_member set out i)
    ∙ go (member set i) (member out i))
  where
    go : (a b : Bool) → unlike a (a && b) ≡ (a && not b)
    go true b = refl
    go false b = refl

-- A set with a number.

pub including_member : (set i j : ℕ) → j < 64 → member (including set i) j ≡ (member set j || eqb j i)
unfolding including
including_member set i j h = collect_member 64 (λ k. member set k || eqb k i) j h

pub including_is : (set i : ℕ) → set < 2 ^ 64 → i < 64 → bit_or set (2 ^ i) ≡ including set i
unfolding including
including_is set i p h =
    collects (bit_or set (2 ^ i)) (λ j. member set j || eqb j i) (or_lt 64 set (2 ^ i) p (pow-lt h))
    (λ j l. or_member set (2 ^ i) j ∙ ap (λ (t : Bool). member set j || t) (power_member i j))

pub including_same : (set i : ℕ) → i < 64 → member (including set i) i ≡ true
including_same set i h =
    including_member set i i h ∙ ap (λ (b : Bool). member set i || b) (eq-eqb i i refl) ∙ go (member set i)
  where
    go : (b : Bool) → (b || true) ≡ true
    go true = refl
    go false = refl

pub including_keeps : (set i j : ℕ) → j < 64 → member set j ≡ true → member (including set i) j ≡ true
including_keeps set i j h e = including_member set i j h ∙ ap (λ (b : Bool). b || eqb j i) e

pub including_other : (set i j : ℕ) → j < 64 → (j ≡ i → ⊥) → member (including set i) j ≡ member set j
including_other set i j h ne =
    including_member set i j h ∙ ap (λ (b : Bool). member set j || b) (ne_eqb j i ne) ∙ go (member set j)
  where
    go : (b : Bool) → (b || false) ≡ b
    go true = refl
    go false = refl

-- The members above a place.

pub beyond_member : (set a i : ℕ) → i < 64 → member (beyond set a) i ≡ (member set i && ltb a i)
unfolding beyond
beyond_member set a i h = collect_member 64 (λ j. member set j && ltb a j) i h

pub beyond_is : (set a x : ℕ) → x < 2 ^ 64 → ((i : ℕ) → i < 64 → member x i ≡ (member set i && ltb a i))
    → x ≡ beyond set a
unfolding beyond
beyond_is set a x h e = collects x (λ j. member set j && ltb a j) h e

pub beyond_lt : (set a : ℕ) → beyond set a < 2 ^ 64
unfolding beyond
beyond_lt set a = collect_lt 64 (λ j. member set j && ltb a j)
