-- What is read as a numeral to its end is decimal, and so is a numeral, which is read as its number.
use mathlib.Core.Path.{◌≡◌, refl, sym, ap, ◌∙◌, subst}
use mathlib.Core.Bool.{Bool, true, false, cond}
use mathlib.Core.List.{List, [], ◌∷◌, append-nil}
use Prim.Native.Nat.{ℕ, zero, suc, ◌+◌, ◌*◌, ◌-◌, ◌≤◌, ◌<◌}
use native.Mathlib.Omega.{arith}
use lib.Dec.{eqb}
use lib.ListN.{length, get_or}
use borrow.Author.Tests.{eqb-true, eqb-false}
use Rattle.lines.specs.Numeral.{numeral, decimal_value, InDecimal, NumeralsInDecimal}
use Rattle.lines.specs.Reading.{seen, unseen, value, is_digit, digits, numeral_at}
use Rattle.lines.proofs.Digits.{clash, digit_yes, digit_from}
use Rattle.lines.proofs.Numerals.{numeral_back}

abbrev Digits : List ℕ → Type 0
Digits l = (i : ℕ) → i < length l → (48 ≤ get_or l i 0) × (get_or l i 0 ≤ 57)

no_digits : Digits []
no_digits i h = absurd (omega arith)

digit_then : (b : ℕ) (l : List ℕ) → is_digit b ≡ true → Digits l → Digits (b ∷ l)
digit_then b l e d zero h = digit_from b e
digit_then b l e d (suc i) h = d i (omega arith)

digits_whole : (l : List ℕ) (a n : ℕ) → digits a l ≡ seen n [] → (decimal_value a l ≡ n) × Digits l
unfolding digits decimal_value
digits_whole [] a n e = (ap value e, no_digits)
digits_whole (b ∷ l) a n e = go (is_digit b) refl e (λ p. digits_whole l (a * 10 + (b - 48)) n p)
  where
    go : (t : Bool) → is_digit b ≡ t → cond t (digits (a * 10 + (b - 48)) l) (seen a (b ∷ l)) ≡ seen n []
        → (digits (a * 10 + (b - 48)) l ≡ seen n [] → (decimal_value (a * 10 + (b - 48)) l ≡ n) × Digits l)
        → (decimal_value (a * 10 + (b - 48)) l ≡ n) × Digits (b ∷ l)
    go true d q ih = ((ih q).0, digit_then b l d (ih q).1)
    go false d q ih = let none : b ∷ l ≡ [] = cc in clash (cc)

zero_whole : InDecimal 0 (48 ∷ [])
unfolding decimal_value
zero_whole = record {
  value_is = refl;
  some_digit = omega arith;
  digits_are = digit_then 48 [] (digit_yes 48 (omega arith) (omega arith)) no_digits;
  no_leading_zero = λ z. refl;
}

numeral_whole : (l : List ℕ) (n : ℕ) → numeral_at l ≡ seen n [] → InDecimal n l
unfolding numeral_at decimal_value
numeral_whole [] n e = clash (cc)
numeral_whole (b ∷ l) n e = go (eqb b 48) (is_digit b) refl refl e
  where
    go : (z t : Bool) → eqb b 48 ≡ z → is_digit b ≡ t
        → cond z (seen 0 l) (cond t (digits (b - 48) l) unseen) ≡ seen n [] → InDecimal n (b ∷ l)
    go true t ez et q =
        let p : 0 ≡ n = ap value q in
        let r : [] ≡ l = cc in
        let s : 48 ≡ b = sym (eqb-true b 48 ez) in
        let zero_is : 48 ∷ [] ≡ b ∷ l = ap (λ (x : List ℕ). 48 ∷ x) r ∙ ap (λ (x : ℕ). x ∷ l) s in
        subst (λ (m : ℕ). InDecimal m (b ∷ l)) p (subst (InDecimal 0) zero_is zero_whole)
    go false true ez et q =
        let d = digits_whole l (b - 48) n q in
        let first : 0 * 10 + (b - 48) ≡ b - 48 = omega arith in
        record {
          value_is = ap (λ (x : ℕ). decimal_value x l) first ∙ d.0;
          some_digit = omega arith;
          digits_are = digit_then b l et d.1;
          no_leading_zero = λ z. absurd (eqb-false b 48 ez z);
        }
    go false false ez et q = clash (cc)

pub numerals_in_decimal : NumeralsInDecimal
numerals_in_decimal n h =
    numeral_whole (numeral n) n (ap numeral_at (sym (append-nil (numeral n))) ∙ numeral_back n [] h refl)
