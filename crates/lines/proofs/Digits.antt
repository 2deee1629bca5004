-- Laws of digits and of the slots' ranges, and two ways out of what cannot be.
-- Each law on a test splits on that test; the ranges go by the slots' letters, one row for each.
use mathlib.Core.Path.{◌≡◌, refl, sym, ap, ◌∙◌}
use mathlib.Core.Bool.{Bool, true, false, cond, not, ◌&&◌, ◌||◌}
use mathlib.Core.List.{List, [], ◌∷◌}
use Prim.Native.Nat.{ℕ, ◌+◌, ◌*◌, ◌-◌, ◌/◌, ◌%◌, ◌^◌, ◌≤◌, ◌<◌}
use native.Mathlib.Omega.{arith}
use lib.Dec.{leb, eqb}
use lib.ListN.{length, get_or, take, drop}
use borrow.Author.Tests.{eq-eqb, eqb-true, eqb-false, leb-true, leb-false, le-leb, lt-leb, ne_eqb}
use Rattle.std.proofs.lemmas.List.{take_rest}
use Rattle.finite.proofs.Tests.{both_left, both_right}
use Rattle.lines.specs.Limits.{max_input, max_output, max_campaign, max_question, max_money, max_u64}
use Rattle.lines.specs.Form.{input_slot, output_slot, campaign_slot, refusal_slot, money_slot, slot_max, in_slot}
use Rattle.lines.specs.Reading.{Seen, seen, unseen, value, is_digit, digits, numeral_at, ranged}

pub clash : {A : Type 0} → ◌≡◌ {A = ℕ} 0 1 → A
clash h = absurd (omega arith)

pub apart : {A : Type 0} → false ≡ true → A
apart h = clash (cc)

pub digit_yes : (b : ℕ) → 48 ≤ b → b ≤ 57 → is_digit b ≡ true
unfolding is_digit
digit_yes b h l = simp (le-leb 48 b h, le-leb b 57 l)

pub digit_from : (b : ℕ) → is_digit b ≡ true → (48 ≤ b) × (b ≤ 57)
unfolding is_digit
digit_from b e = (leb-true 48 b (both_left (leb 48 b) (leb b 57) e), leb-true b 57 (both_right (leb 48 b) (leb b 57) e))

-- whether a further digit stays within m, where all but the last are at the limit or past it
pub last_digit : (n d m : ℕ) → m / 10 ≤ n → (eqb n (m / 10) && leb d (m % 10)) ≡ leb (n * 10 + d) m
last_digit n d m h = go (eqb n (m / 10)) (leb d (m % 10)) refl refl
  where
    go : (x y : Bool) → eqb n (m / 10) ≡ x → leb d (m % 10) ≡ y → (x && y) ≡ leb (n * 10 + d) m
    go true true p q = sym (le-leb (n * 10 + d) m (omega (arith, eqb-true n (m / 10) p, leb-true d (m % 10) q)))
    go true false p q = sym (lt-leb (n * 10 + d) m (omega (arith, eqb-true n (m / 10) p, leb-false d (m % 10) q)))
    go false y p q = sym (lt-leb (n * 10 + d) m (omega (arith, eqb-false n (m / 10) p)))

-- more digits make no smaller number
pub digits_least : (l : List ℕ) (a : ℕ) → a ≤ value (digits a l)
unfolding digits
digits_least [] a = omega arith
digits_least (b ∷ l) a = go (is_digit b) (digits_least l (a * 10 + (b - 48)))
  where
    go : (t : Bool) → a * 10 + (b - 48) ≤ value (digits (a * 10 + (b - 48)) l)
        → a ≤ value (cond t (digits (a * 10 + (b - 48)) l) (seen a (b ∷ l)))
    go true ih = omega arith
    go false ih = omega arith

-- one digit more, and no digit

pub digits_next : (n : ℕ) (r : List ℕ) → 0 < length r → 48 ≤ get_or r 0 0 → get_or r 0 0 ≤ 57
    → digits n r ≡ digits (n * 10 + (get_or r 0 0 - 48)) (take (length r - 1) (drop 1 r))
unfolding digits
digits_next n [] h a b = absurd (omega arith)
digits_next n (b ∷ l) h a c = rw (take_rest (b ∷ l) 1) (simp (digit_yes b a c))

pub digits_stop : (n : ℕ) (r : List ℕ) → (0 < length r → 48 ≤ get_or r 0 0 → get_or r 0 0 ≤ 57 → ⊥)
    → digits n r ≡ seen n r
unfolding digits
digits_stop n [] h = refl
digits_stop n (b ∷ l) h = go (is_digit b) refl
  where
    go : (t : Bool) → is_digit b ≡ t → cond t (digits (n * 10 + (b - 48)) l) (seen n (b ∷ l)) ≡ seen n (b ∷ l)
    go true e = let d = digit_from b e in absurd (h (omega arith) d.0 d.1)
    go false e = refl

-- a numeral by its first byte

pub numeral_zero : (r : List ℕ) → 0 < length r → get_or r 0 0 ≡ 48
    → numeral_at r ≡ seen 0 (take (length r - 1) (drop 1 r))
unfolding numeral_at
numeral_zero [] h e = absurd (omega arith)
numeral_zero (b ∷ l) h e = rw (take_rest (b ∷ l) 1) (simp (eq-eqb b 48 e))

pub numeral_lead : (r : List ℕ) → 0 < length r → 49 ≤ get_or r 0 0 → get_or r 0 0 ≤ 57 → numeral_at r ≡ digits 0 r
unfolding numeral_at digits
numeral_lead [] h a d = absurd (omega arith)
numeral_lead (b ∷ l) h a d =
    let z : b - 48 ≡ 0 * 10 + (b - 48) = omega arith in
    simp (ne_eqb b 48 (λ p. omega arith), digit_yes b (omega arith) d) (ap (λ (n : ℕ). digits n l) z)

pub numeral_none : (r : List ℕ) → (0 < length r → 48 ≤ get_or r 0 0 → get_or r 0 0 ≤ 57 → ⊥) → numeral_at r ≡ unseen
unfolding numeral_at
numeral_none [] h = refl
numeral_none (b ∷ l) h = go (is_digit b) refl
  where
    go : (t : Bool) → is_digit b ≡ t → cond (eqb b 48) (seen 0 l) (cond t (digits (b - 48) l) unseen) ≡ unseen
    go true e = let d = digit_from b e in absurd (h (omega arith) d.0 d.1)
    go false e = simp (ne_eqb b 48 (λ p. h (omega arith) (omega arith) (omega arith)))

-- every slot has room for a digit, and stays within 64 bits
pub max_range : (slot : ℕ) → (9 ≤ slot_max slot) × (slot_max slot < 2 ^ 64)
max_range slot =
    go (eqb slot input_slot) (eqb slot output_slot) (eqb slot campaign_slot) (eqb slot refusal_slot)
    (eqb slot money_slot)
  where
    go : (i n c r m : Bool)
        → let most : ℕ = cond i max_input (cond n max_output (cond c max_campaign (cond r max_question
        (cond m max_money max_u64)))) in
        (9 ≤ most) × (most < 2 ^ 64)
    go true n c r m = (omega arith, omega arith)
    go false true c r m = (omega arith, omega arith)
    go false false true r m = (omega arith, omega arith)
    go false false false true m = (omega arith, omega arith)
    go false false false false true = (omega arith, omega arith)
    go false false false false false = (omega arith, omega arith)

pub slot_most : (slot n : ℕ) → in_slot slot n ≡ true → n ≤ slot_max slot
unfolding in_slot
slot_most slot n h =
    leb-true n (slot_max slot) (both_right (not (eqb slot refusal_slot) || leb 1 n) (leb n (slot_max slot)) h)

pub slot_small : (slot n : ℕ) → in_slot slot n ≡ true → n < 2 ^ 64
slot_small slot n h = omega (arith, slot_most slot n h, max_range slot)

pub slot_yes : (slot n : ℕ) → 1 ≤ n → n ≤ slot_max slot → in_slot slot n ≡ true
unfolding in_slot
slot_yes slot n h m = go (not (eqb slot refusal_slot))
  where
    go : (t : Bool) → ((t || leb 1 n) && leb n (slot_max slot)) ≡ true
    go true = le-leb n (slot_max slot) m
    go false = simp (le-leb 1 n h) (le-leb n (slot_max slot) m)

pub ranged_yes : (slot n : ℕ) (l : List ℕ) → in_slot slot n ≡ true → ranged slot (seen n l) ≡ seen n l
ranged_yes slot n l e = simp e

pub ranged_no : (slot n : ℕ) (l : List ℕ) → in_slot slot n ≡ false → ranged slot (seen n l) ≡ unseen
ranged_no slot n l e = simp e

pub ranged_above : (slot : ℕ) (s : Seen) → slot_max slot < value s → ranged slot s ≡ unseen
ranged_above slot unseen h = refl
ranged_above slot (seen n l) h = go (in_slot slot n) refl
  where
    go : (t : Bool) → in_slot slot n ≡ t → ranged slot (seen n l) ≡ unseen
    go true e = absurd (omega (arith, slot_most slot n e))
    go false e = ranged_no slot n l e

-- what was seen in the range was seen, and is in the range
pub ranged_sound : (slot n : ℕ) (m : List ℕ) (s : Seen) → ranged slot s ≡ seen n m
    → (s ≡ seen n m) × (in_slot slot n ≡ true)
ranged_sound slot n m unseen e = clash (cc)
ranged_sound slot n m (seen k l) e = go (in_slot slot k) refl e
  where
    go : (t : Bool) → in_slot slot k ≡ t → cond t (seen k l) unseen ≡ seen n m
        → (seen k l ≡ seen n m) × (in_slot slot n ≡ true)
    go true f q = let z : k ≡ n = cc in (q, ap (in_slot slot) (sym z) ∙ f)
    go false f q = clash (cc)
