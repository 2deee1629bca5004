-- Numerals: decimal, without leading zeros except 0 itself.
use Rattle.std.specs.Prelude.{ℕ, zero, suc, ◌+◌, ◌*◌, ◌-◌, ◌/◌, ◌%◌, ◌^◌, ◌≤◌, ◌<◌, ◌≡◌, cond, List, [], ◌∷◌, ◌++◌}
use Rattle.std.specs.Prelude.{ltb, length, get_or}
use Rattle.lines.specs.Limits.{max_digits}

-- the numeral of n, where k digits are enough for it
unfoldable pub numeral_in : ℕ → ℕ → List ℕ
numeral_in zero n = []
numeral_in (suc k) n = cond (ltb n 10) ((48 + n) ∷ []) (numeral_in k (n / 10) ++ ((48 + n % 10) ∷ []))

-- the numeral of a number of 64 bits
unfoldable pub numeral : ℕ → List ℕ
numeral n = numeral_in max_digits n

-- the number that the digits l make behind those of a
unfoldable pub decimal_value : ℕ → List ℕ → ℕ
decimal_value a [] = a
decimal_value a (b ∷ l) = decimal_value (a * 10 + (b - 48)) l

-- l is n in decimal
pub record InDecimal (n : ℕ) (l : List ℕ) : Type 0 where
  pub value_is : decimal_value 0 l ≡ n
  pub some_digit : 0 < length l
  pub digits_are : (i : ℕ) → i < length l → (48 ≤ get_or l i 0) × (get_or l i 0 ≤ 57)
  pub no_leading_zero : get_or l 0 0 ≡ 48 → l ≡ 48 ∷ []

abbrev pub NumeralsInDecimal : Type 0
NumeralsInDecimal = (n : ℕ) → n < 2 ^ 64 → InDecimal n (numeral n)
