-- The texts of a page: how long they are, that no byte of them is 10, that the digits of a figure in its columns give
-- the figure, and that nothing but spaces stands before it. Lengths and plain bytes go column by column; values go
-- digit by digit from the last.
use mathlib.Core.Path.{◌≡◌, refl, sym, ap, ◌∙◌}
use mathlib.Core.Bool.{Bool, true, false, cond}
use mathlib.Core.List.{List, [], ◌∷◌, ◌++◌, append-nil}
use Prim.Native.Nat.{ℕ, zero, suc, ◌+◌, ◌*◌, ◌-◌, ◌/◌, ◌%◌, ◌^◌, ◌≤◌, ◌<◌}
use native.Mathlib.Nat.{pow-suc, div-lt_iff_lt-mul}
use native.Mathlib.Omega.{arith}
use lib.Dec.{ltb, eqb, lit<}
use lib.ListN.{length, replicate, length-append, length-replicate}
use borrow.Author.Tests.{ltb-true, ltb-false, eqb-true}
use Rattle.lines.specs.Numeral.{numeral}
use Rattle.lines.specs.Reading.{seen, unseen, is_digit, numeral_at}
use Rattle.lines.proofs.Digits.{clash, digit_yes}
use Rattle.lines.proofs.Numerals.{numeral_one, numeral_more, numeral_back}
use Rattle.lines.proofs.Plain.{plain, append_plain, digit_plain, numeral_plain}
use Rattle.print.proofs.Lengths.{len_within}
use Rattle.page.specs.Page.{Row, RowFits, flush, spaces, cents, row_text, total_text, number_in, text_in}
use Rattle.page.specs.Promises.{behind_spaces, NumberShows, AmountShows}

-- Lengths.

pub flush_length : (a b : ℕ) (t : List ℕ) → length t ≤ b + 1 - a → length (flush a b t) ≡ b + 1 - a
unfolding flush
flush_length a b t h =
    omega (
      arith,
      length-append (replicate (b + 1 - a - length t) 32) t,
      length-replicate {A = ℕ} (b + 1 - a - length t) 32,
    )

pub cents_size : (n : ℕ) → length (cents n) ≡ length (numeral (n / 100)) + 3
unfolding cents
cents_size n = length-append (numeral (n / 100)) (46 ∷ (48 + n / 10 % 10) ∷ (48 + n % 10) ∷ [])

-- a number of 3 or 6 digits, and an amount of 8 or 11 digits before the point
pub number_3 : (n : ℕ) → n < 10 ^ 3 → length (numeral n) ≤ 3
number_3 n h = len_within 2 n h (omega arith)

pub number_6 : (n : ℕ) → n < 10 ^ 6 → length (numeral n) ≤ 6
number_6 n h = len_within 5 n h (omega arith)

pub cents_11 : (n : ℕ) → n < 10 ^ 10 → length (cents n) ≤ 11
cents_11 n h = omega (arith, cents_size n, len_within 7 (n / 100) (omega arith) (omega arith))

pub cents_14 : (n : ℕ) → n < 10 ^ 13 → length (cents n) ≤ 14
cents_14 n h = omega (arith, cents_size n, len_within 10 (n / 100) (omega arith) (omega arith))

pub row_length : (i : ℕ) (r : Row) → i < 10 ^ 3 → RowFits r → length (row_text i r) ≡ 40
unfolding row_text
row_length i r k h =
    simp length-append
    (omega (
      arith,
      flush_length 1 3 (numeral i) (number_3 i k),
      flush_length 4 9 (numeral r.plays) (number_6 r.plays h.plays_fit),
      flush_length 10 20 (cents r.price) (cents_11 r.price h.price_fits),
      flush_length 21 34 (cents r.paid) (cents_14 r.paid h.paid_fits),
      flush_length 35 40 (numeral r.named) (number_6 r.named h.named_fit),
    ))

pub total_length : (t : ℕ) → t < 10 ^ 13 → length (total_text t) ≡ 40
unfolding total_text
total_length t h =
    simp length-append (omega (arith, flush_length 21 34 (cents t) (cents_14 t h)))

-- No byte is 10.

spaces_plain : (k : ℕ) → plain (replicate k 32) ≡ true
spaces_plain zero = refl
spaces_plain (suc k) = spaces_plain k

flush_plain : (a b : ℕ) (t : List ℕ) → plain t ≡ true → plain (flush a b t) ≡ true
unfolding flush
flush_plain a b t h = append_plain (replicate (b + 1 - a - length t) 32) t (spaces_plain (b + 1 - a - length t)) h

cents_plain : (n : ℕ) → plain (cents n) ≡ true
unfolding cents
cents_plain n =
    append_plain (numeral (n / 100)) (46 ∷ (48 + n / 10 % 10) ∷ (48 + n % 10) ∷ []) (numeral_plain (n / 100))
    (append_plain ((48 + n / 10 % 10) ∷ []) ((48 + n % 10) ∷ []) (digit_plain (n / 10 % 10)) (digit_plain (n % 10)))

pub row_plain : (i : ℕ) (r : Row) → plain (row_text i r) ≡ true
unfolding row_text
row_plain i r =
    let number = flush 1 3 (numeral i) in
    let plays = flush 4 9 (numeral r.plays) in
    let price = flush 10 20 (cents r.price) in
    let paid = flush 21 34 (cents r.paid) in
    let named = flush 35 40 (numeral r.named) in
    append_plain number (plays ++ (price ++ (paid ++ named))) (flush_plain 1 3 (numeral i) (numeral_plain i))
    (append_plain plays (price ++ (paid ++ named)) (flush_plain 4 9 (numeral r.plays) (numeral_plain r.plays))
    (append_plain price (paid ++ named) (flush_plain 10 20 (cents r.price) (cents_plain r.price))
    (append_plain paid named (flush_plain 21 34 (cents r.paid) (cents_plain r.paid))
    (flush_plain 35 40 (numeral r.named) (numeral_plain r.named)))))

pub total_plain : (t : ℕ) → plain (total_text t) ≡ true
unfolding total_text
total_plain t =
    append_plain (flush 21 34 (cents t)) (spaces 35 40) (flush_plain 21 34 (cents t) (cents_plain t)) refl

-- Values.

value_append : (a : ℕ) (l m : List ℕ) → number_in a (l ++ m) ≡ number_in (number_in a l) m
unfolding number_in
value_append a [] m = refl
value_append a (b ∷ l) m = value_append (cond (is_digit b) (a * 10 + (b - 48)) a) l m

value_spaces : (k a : ℕ) (t : List ℕ) → number_in a (replicate k 32 ++ t) ≡ number_in a t
unfolding number_in is_digit
value_spaces zero a t = refl
value_spaces (suc k) a t = value_spaces k a t

value_digit : (a d : ℕ) → d < 10 → number_in a ((48 + d) ∷ []) ≡ a * 10 + d
unfolding number_in
value_digit a d h =
    let e : 48 + d - 48 ≡ d = omega arith in
    simp (digit_yes (48 + d) (omega arith) (omega arith)) (ap (λ (x : ℕ). a * 10 + x) e)

-- a digit by itself
value_one : (n : ℕ) → n < 10 → number_in 0 (numeral n) ≡ n
value_one n h = let e : 0 * 10 + n ≡ n = omega arith in ap (number_in 0) (numeral_one n h) ∙ value_digit 0 n h ∙ e

value_in : (k n : ℕ) → n < 10 ^ suc k → n < 2 ^ 64 → number_in 0 (numeral n) ≡ n
value_in zero n h b = value_one n h
value_in (suc k) n h b = go (ltb n 10) refl (λ p. value_in k (n / 10) p (omega arith))
  where
    go : (t : Bool) → ltb n 10 ≡ t → (n / 10 < 10 ^ suc k → number_in 0 (numeral (n / 10)) ≡ n / 10)
        → number_in 0 (numeral n) ≡ n
    go true e ih = value_one n (ltb-true n 10 e)
    go false e ih =
        let one = (48 + n % 10) ∷ [] in
        let whole : n / 10 * 10 + n % 10 ≡ n = omega arith in
        ap (number_in 0) (numeral_more n (ltb-false n 10 e) b) ∙ value_append 0 (numeral (n / 10)) one
        ∙ ap (λ (x : ℕ). number_in x one) (ih ((div-lt_iff_lt-mul (lit< tt)).1 (rw pow-suc at h)))
        ∙ value_digit (n / 10) (n % 10) (omega arith) ∙ whole

value_cents : (n : ℕ) → n < 2 ^ 64 → number_in 0 (cents n) ≡ n
unfolding cents number_in is_digit
value_cents n h =
    let tens = (48 + n / 10 % 10) ∷ [] in
    let ones = (48 + n % 10) ∷ [] in
    let whole : (n / 100 * 10 + n / 10 % 10) * 10 + n % 10 ≡ n = omega arith in
    value_append 0 (numeral (n / 100)) (46 ∷ (tens ++ ones))
    ∙ ap (λ (x : ℕ). number_in x (tens ++ ones)) (value_in 19 (n / 100) (omega arith) (omega arith))
    ∙ value_append (n / 100) tens ones
    ∙ ap (λ (x : ℕ). number_in x ones) (value_digit (n / 100) (n / 10 % 10) (omega arith))
    ∙ value_digit (n / 100 * 10 + n / 10 % 10) (n % 10) (omega arith) ∙ whole

-- a figure is read from its columns
value_number : (a b n : ℕ) → n < 2 ^ 64 → number_in 0 (flush a b (numeral n)) ≡ n
unfolding flush
value_number a b n h =
    value_spaces (b + 1 - a - length (numeral n)) 0 (numeral n) ∙ value_in 19 n (omega arith) h

value_amount : (a b n : ℕ) → n < 2 ^ 64 → number_in 0 (flush a b (cents n)) ≡ n
unfolding flush
value_amount a b n h = value_spaces (b + 1 - a - length (cents n)) 0 (cents n) ∙ value_cents n h

-- Flush right.

-- a numeral that is seen at the front of t is seen behind spaces
seen_behind : (k n : ℕ) (t m : List ℕ) → numeral_at t ≡ seen n m
    → numeral_at (behind_spaces (replicate k 32 ++ t)) ≡ seen n m
unfolding numeral_at is_digit
seen_behind (suc k) n t m e = seen_behind k n t m e
seen_behind zero n [] m e = e
seen_behind zero n (b ∷ t) m e = go (eqb b 32) refl
  where
    go : (x : Bool) → eqb b 32 ≡ x → numeral_at (cond x (behind_spaces t) (b ∷ t)) ≡ seen n m
    go true z =
        let none : unseen ≡ seen n m = ap (λ (c : ℕ). numeral_at (c ∷ t)) (sym (eqb-true b 32 z)) ∙ e in
        clash (cc)
    go false z = e

pub shows_number : {l : List ℕ} (a b n : ℕ) → n < 2 ^ 64 → text_in a b l ≡ flush a b (numeral n) → NumberShows a b n l
unfolding flush
shows_number a b n h e = record {
  figure_is = ap (number_in 0) e ∙ value_number a b n h;
  flush_right =
      ap (λ (t : List ℕ). numeral_at (behind_spaces t)) e
      ∙ seen_behind (b + 1 - a - length (numeral n)) n (numeral n) []
      (ap numeral_at (sym (append-nil (numeral n))) ∙ numeral_back n [] h refl);
}

pub shows_amount : {l : List ℕ} (a b n : ℕ) → n < 2 ^ 64 → text_in a b l ≡ flush a b (cents n) → AmountShows a b n l
unfolding flush cents is_digit
shows_amount a b n h e =
    let decimals : List ℕ = 46 ∷ (48 + n / 10 % 10) ∷ (48 + n % 10) ∷ [] in
    record {
      figure_is = ap (number_in 0) e ∙ value_amount a b n h;
      flush_right =
          ap (λ (t : List ℕ). numeral_at (behind_spaces t)) e
          ∙ seen_behind (b + 1 - a - length (cents n)) (n / 100) (cents n) decimals
          (numeral_back (n / 100) decimals (omega arith) refl);
    }
