-- A numeral is read as its number, and what is read as a number is its numeral.
-- Both go digit by digit from the last: a number of several digits is its tenth with one digit behind it.
use mathlib.Core.Path.{◌≡◌, refl, sym, ap, ◌∙◌, subst}
use mathlib.Core.Bool.{Bool, true, false, cond, not, ◌&&◌}
use mathlib.Core.List.{List, [], ◌∷◌, ◌++◌, append_assoc}
use Prim.Native.Nat.{ℕ, zero, suc, ◌+◌, ◌*◌, ◌-◌, ◌/◌, ◌%◌, ◌^◌, ◌≤◌, ◌<◌}
use native.Mathlib.Nat.{pow-suc, div-lt_iff_lt-mul}
use native.Mathlib.Omega.{arith}
use lib.Dec.{ltb, leb, eqb, lit<}
use lib.ListN.{length, length-append}
use borrow.Author.Tests.{ltb-true, ltb-false, lt-ltb, le-ltb, leb-true, le-leb, eqb-true, eqb-false, ne_eqb, not-true}
use Rattle.finite.proofs.Tests.{both_left, both_right}
use Rattle.lines.specs.Limits.{max_digits}
use Rattle.lines.specs.Numeral.{numeral_in, numeral}
use Rattle.lines.specs.Reading.{seen, unseen, value, is_digit, digits, numeral_at}
use Rattle.lines.proofs.Digits.{clash, apart, digit_yes, digit_from, digits_least}

-- Digit by digit.

one_digit : (k n : ℕ) → n < 10 → numeral_in (suc k) n ≡ (48 + n) ∷ []
unfolding numeral_in
one_digit k n h = simp (lt-ltb n 10 h)

last_of : (k n : ℕ) → 10 ≤ n → numeral_in (suc k) n ≡ numeral_in k (n / 10) ++ ((48 + n % 10) ∷ [])
unfolding numeral_in
last_of k n h = simp (le-ltb n 10 h)

tenth : (k n : ℕ) → n < 10 ^ suc (suc k) → n / 10 < 10 ^ suc k
tenth k n h = (div-lt_iff_lt-mul (lit< tt)).1 (rw pow-suc at h)

-- room for one digit more changes nothing
spare : (k n : ℕ) → n < 10 ^ suc k → numeral_in (suc (suc k)) n ≡ numeral_in (suc k) n
spare zero n h = one_digit 1 n h ∙ sym (one_digit 0 n h)
spare (suc k) n h = go (ltb n 10) refl (λ p. spare k (n / 10) p)
  where
    go : (t : Bool) → ltb n 10 ≡ t
        → (n / 10 < 10 ^ suc k → numeral_in (suc (suc k)) (n / 10) ≡ numeral_in (suc k) (n / 10))
        → numeral_in (suc (suc (suc k))) n ≡ numeral_in (suc (suc k)) n
    go true e ih = one_digit (suc (suc k)) n (ltb-true n 10 e) ∙ sym (one_digit (suc k) n (ltb-true n 10 e))
    go false e ih =
        last_of (suc (suc k)) n (ltb-false n 10 e) ∙ ap (λ (l : List ℕ). l ++ ((48 + n % 10) ∷ [])) (ih (tenth k n h))
        ∙ sym (last_of (suc k) n (ltb-false n 10 e))

pub numeral_one : (n : ℕ) → n < 10 → numeral n ≡ (48 + n) ∷ []
unfolding numeral
numeral_one n h = one_digit 19 n h

pub numeral_more : (n : ℕ) → 10 ≤ n → n < 2 ^ 64 → numeral n ≡ numeral (n / 10) ++ ((48 + n % 10) ∷ [])
unfolding numeral
numeral_more n h b =
    last_of 19 n h ∙ ap (λ (l : List ℕ). l ++ ((48 + n % 10) ∷ [])) (sym (spare 18 (n / 10) (omega arith)))

most_digits : (k n : ℕ) → length (numeral_in k n) ≤ k
unfolding numeral_in
most_digits zero n = omega arith
most_digits (suc k) n = go (ltb n 10) (most_digits k (n / 10))
  where
    go : (t : Bool) → length (numeral_in k (n / 10)) ≤ k
        → length (cond t ((48 + n) ∷ []) (numeral_in k (n / 10) ++ ((48 + n % 10) ∷ []))) ≤ suc k
    go true ih = omega arith
    go false ih = rw length-append (omega arith)

pub numeral_most : (n : ℕ) → length (numeral n) ≤ max_digits
unfolding numeral
numeral_most n = most_digits max_digits n

-- What is read is the numeral.

digits_sound : (l : List ℕ) (a n : ℕ) (m : List ℕ) → 1 ≤ a → n < 2 ^ 64 → digits a l ≡ seen n m
    → numeral a ++ l ≡ numeral n ++ m
unfolding digits
digits_sound [] a n m h b e = let p : a ≡ n = cc in let q : [] ≡ m = cc in cc
digits_sound (c ∷ l) a n m h b e = go (is_digit c) refl e (λ k p q. digits_sound l k n m p b q)
  where
    go : (t : Bool) → is_digit c ≡ t → cond t (digits (a * 10 + (c - 48)) l) (seen a (c ∷ l)) ≡ seen n m
        → ((k : ℕ) → 1 ≤ k → digits k l ≡ seen n m → numeral k ++ l ≡ numeral n ++ m)
        → numeral a ++ (c ∷ l) ≡ numeral n ++ m
    go true d q ih =
        let f = digit_from c d in
        let k = a * 10 + (c - 48) in
        let tens : k / 10 ≡ a = omega arith in
        let ones : 48 + k % 10 ≡ c = omega arith in
        let longer : numeral k ≡ numeral a ++ (c ∷ []) =
        numeral_more k (omega arith) (omega (arith, digits_least l k, ap value q))
        ∙ ap (λ (x : ℕ). numeral x ++ ((48 + k % 10) ∷ [])) tens ∙ ap (λ (x : ℕ). numeral a ++ (x ∷ [])) ones in
        sym (append_assoc (numeral a) (c ∷ []) l) ∙ ap (λ (x : List ℕ). x ++ l) (sym longer) ∙ ih k (omega arith) q
    go false d q ih = let p : a ≡ n = cc in let r : c ∷ l ≡ m = cc in cc

pub numeral_sound : (l : List ℕ) (n : ℕ) (m : List ℕ) → n < 2 ^ 64 → numeral_at l ≡ seen n m → l ≡ numeral n ++ m
unfolding numeral_at
numeral_sound [] n m b e = clash (cc)
numeral_sound (c ∷ l) n m b e = go (eqb c 48) (is_digit c) refl refl e
  where
    go : (z t : Bool) → eqb c 48 ≡ z → is_digit c ≡ t
        → cond z (seen 0 l) (cond t (digits (c - 48) l) unseen) ≡ seen n m → c ∷ l ≡ numeral n ++ m
    go true t ez et q =
        let p : 0 ≡ n = ap value q in
        let r : l ≡ m = cc in
        let s : c ≡ 48 = eqb-true c 48 ez in
        ap (λ (x : ℕ). x ∷ l) s ∙ ap (λ (x : List ℕ). 48 ∷ x) r
        ∙ ap (λ (x : List ℕ). x ++ m) (sym (numeral_one 0 (lit< tt))) ∙ ap (λ (x : ℕ). numeral x ++ m) p
    go false true ez et q =
        let f = digit_from c et in
        let d : 48 + (c - 48) ≡ c = omega arith in
        ap (λ (x : ℕ). x ∷ l) (sym d) ∙ ap (λ (x : List ℕ). x ++ l) (sym (numeral_one (c - 48) (omega arith)))
        ∙ digits_sound l (c - 48) n m (omega (arith, eqb-false c 48 ez)) b q
    go false false ez et q = clash (cc)

-- The numeral is read as its number.

-- l does not begin with a digit
abbrev pub stops : List ℕ → Bool
stops [] = true
stops (b ∷ l) = not (is_digit b)

pub digits_stop : (l : List ℕ) (a : ℕ) → stops l ≡ true → digits a l ≡ seen a l
unfolding digits
digits_stop [] a h = refl
digits_stop (b ∷ l) a h = simp (not-true (is_digit b) h)

digits_cons : (a d : ℕ) (l : List ℕ) → d < 10 → digits a ((48 + d) ∷ l) ≡ digits (a * 10 + d) l
unfolding digits
digits_cons a d l h =
    let e : 48 + d - 48 ≡ d = omega arith in
    simp (digit_yes (48 + d) (omega arith) (omega arith)) (ap (λ (x : ℕ). digits (a * 10 + x) l) e)

-- l begins with a digit from 1 to 9
abbrev leads : List ℕ → Bool
leads [] = false
leads (b ∷ l) = leb 49 b && leb b 57

-- w is read as n with l behind it, and begins with no 0 unless n is 0
record Front (n : ℕ) (w l : List ℕ) : Type 0 where
  read : digits 0 w ≡ digits n l
  led : 1 ≤ n → leads w ≡ true

front_one : (n : ℕ) (l : List ℕ) → n < 10 → Front n ((48 + n) ∷ l) l
front_one n l h = record {
  read = digits_cons 0 n l h ∙ ap (λ (x : ℕ). digits x l) (omega arith);
  led = λ p. simp (le-leb 49 (48 + n) (omega arith), le-leb (48 + n) 57 (omega arith));
}

front : (j n : ℕ) (l : List ℕ) → n < 10 ^ suc j → Front n (numeral_in (suc j) n ++ l) l
front zero n l h = subst (λ (w : List ℕ). Front n (w ++ l) l) (sym (one_digit 0 n h)) (front_one n l h)
front (suc j) n l h = go (ltb n 10) refl (λ m p. front j (n / 10) m p)
  where
    go : (t : Bool) → ltb n 10 ≡ t
        → ((m : List ℕ) → n / 10 < 10 ^ suc j → Front (n / 10) (numeral_in (suc j) (n / 10) ++ m) m)
        → Front n (numeral_in (suc (suc j)) n ++ l) l
    go true e ih =
        subst (λ (w : List ℕ). Front n (w ++ l) l) (sym (one_digit (suc j) n (ltb-true n 10 e)))
        (front_one n l (ltb-true n 10 e))
    go false e ih =
        let d = n % 10 in
        let f = ih ((48 + d) ∷ l) (tenth j n h) in
        let w : numeral_in (suc (suc j)) n ++ l ≡ numeral_in (suc j) (n / 10) ++ ((48 + d) ∷ l) =
        ap (λ (x : List ℕ). x ++ l) (last_of (suc j) n (ltb-false n 10 e))
        ∙ append_assoc (numeral_in (suc j) (n / 10)) ((48 + d) ∷ []) l in
        let whole : n / 10 * 10 + d ≡ n = omega arith in
        record {
          read = ap (digits 0) w ∙ f.read ∙ digits_cons (n / 10) d l (omega arith) ∙ ap (λ (x : ℕ). digits x l) whole;
          led = λ p. ap leads w ∙ f.led (omega (arith, ltb-false n 10 e));
        }

lead_digits : (l : List ℕ) → leads l ≡ true → numeral_at l ≡ digits 0 l
unfolding numeral_at digits
lead_digits [] h = apart h
lead_digits (b ∷ l) h =
    let p = leb-true 49 b (both_left (leb 49 b) (leb b 57) h) in
    let q = leb-true b 57 (both_right (leb 49 b) (leb b 57) h) in
    let e : b - 48 ≡ 0 * 10 + (b - 48) = omega arith in
    simp (ne_eqb b 48 (λ z. omega arith), digit_yes b (omega arith) q) (ap (λ (x : ℕ). digits x l) e)

pub numeral_back : (n : ℕ) (m : List ℕ) → n < 2 ^ 64 → stops m ≡ true → numeral_at (numeral n ++ m) ≡ seen n m
unfolding numeral numeral_at
numeral_back n m h s = go (ltb 0 n) refl
  where
    go : (t : Bool) → ltb 0 n ≡ t → numeral_at (numeral n ++ m) ≡ seen n m
    go true e =
        let f = front 19 n m (omega arith) in
        lead_digits (numeral n ++ m) (f.led (ltb-true 0 n e)) ∙ f.read ∙ digits_stop m n s
    go false e =
        let z : n ≡ 0 = omega (arith, ltb-false 0 n e) in
        ap (λ (x : ℕ). numeral_at (numeral x ++ m)) z
        ∙ ap (λ (x : List ℕ). numeral_at (x ++ m)) (numeral_one 0 (lit< tt)) ∙ ap (λ (x : ℕ). seen x m) (sym z)
