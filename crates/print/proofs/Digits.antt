-- A numeral is put from its last digit to its first: the digits from a place on stand, and those of `rest` are to come.
-- The idea: the numeral of a number of several digits is that of its tenth with one digit behind it.
use mathlib.Core.Path.{◌≡◌, subst}
use mathlib.Core.List.{List}
use Prim.Native.Nat.{ℕ, ◌+◌, ◌-◌, ◌/◌, ◌%◌, ◌^◌, ◌≤◌, ◌<◌}
use native.Mathlib.Omega.{arith}
use lib.ListN.{length, set}
use Rattle.buffer.specs.Buffer.{Put}
use Rattle.buffer.proofs.Puts.{Backward, backward_byte, backward_last}
use Rattle.lines.specs.Numeral.{numeral}
use Rattle.lines.proofs.Numerals.{numeral_more}
use Rattle.print.proofs.Lengths.{numeral_some, len_more, name_one}

-- from 10 on a numeral has a second digit
pub numeral_two : (n : ℕ) → 10 ≤ n → n < 2 ^ 64 → 1 < length (numeral n)
numeral_two n h b = omega (arith, len_more n h b, numeral_some (n / 10))

-- the numeral of n in d, ending at the place to: in e the digits from the place i on stand
abbrev pub Digits : List ℕ → List ℕ → ℕ → ℕ → ℕ → ℕ → Type 0
Digits d e to n i rest = Backward (numeral n) d to e i (numeral rest)

-- one digit more, the byte x
pub next_digit : {d e : List ℕ} {to i : ℕ} (n rest : ℕ) → Digits d e to n i rest → (x : ℕ) → x ≡ 48 + rest % 10
    → 0 < i → i ≤ length d → 10 ≤ rest → rest < 2 ^ 64 → Digits d (set e (i - 1) x) to n (i - 1) (rest / 10)
next_digit {d} {e} {to} {i} n rest s x is h b ten small =
    rw is (backward_byte (48 + rest % 10) (subst (Backward (numeral n) d to e i) (numeral_more rest ten small) s) h b)

-- the first digit
pub first_digit : {d e : List ℕ} {to i : ℕ} (n rest : ℕ) → Digits d e to n i rest → (x : ℕ) → x ≡ 48 + rest % 10
    → 0 < i → i ≤ length d → rest < 10 → Put d (set e (i - 1) x) (i - 1) to (numeral n)
first_digit {d} {e} {to} {i} n rest s x is h b few =
    rw is (backward_last (48 + rest % 10) (subst (Backward (numeral n) d to e i) (name_one rest few) s) h b)

-- two digits at a time
pub next_pair : {d e : List ℕ} {to i : ℕ} (n rest : ℕ) → Digits d e to n i rest → (x y : ℕ) → x ≡ 48 + rest % 10
    → y ≡ 48 + rest / 10 % 10 → 1 < i → i ≤ length d → 100 ≤ rest → rest < 2 ^ 64
    → Digits d (set (set e (i - 2 + 1) x) (i - 2) y) to n (i - 2) (rest / 100)
next_pair {i = i} n rest s x y is is' h b many small =
    let one = next_digit n rest s x is (omega arith) b (omega arith) small in
    let two = next_digit n (rest / 10) one y is' (omega arith) (omega arith) (omega arith) (omega arith) in
    let f₁ : i - 2 + 1 ≡ i - 1 = omega arith in
    let f₂ : rest / 100 ≡ rest / 10 / 10 = omega arith in
    let f₃ : i - 2 ≡ i - 1 - 1 = omega arith in
    rw (f₁, f₂, f₃) two
