-- Fractions as pairs of whole numbers: a numerator over a positive denominator, compared by cross products.
use Rattle.std.specs.Prelude.{◌≡◌, Bool, cond, ℕ, ◌+◌, ◌-◌, ◌*◌, ◌^◌, ◌<◌, ltb, eqb}

pub record Fraction : Type 0 where
  pub numerator : ℕ
  pub denominator : ℕ

infix 4 ◌≈◌
infixl 65 ◌⊕◌ ◌⊖◌
infixl 70 ◌⊗◌
infix 75 ◌÷◌
-- n/m
abbrev pub ◌÷◌ : ℕ → ℕ → Fraction
n ÷ m = record { numerator = n; denominator = m }

-- a whole number
abbrev pub integer : ℕ → Fraction
integer n = n ÷ 1

-- n/m + n'/m' = (n m' + n' m)/(m m')
abbrev pub ◌⊕◌ : Fraction → Fraction → Fraction
p ⊕ q = (p.numerator * q.denominator + q.numerator * p.denominator) ÷ (p.denominator * q.denominator)

-- n/m − n'/m' = (n m' − n' m)/(m m'), where the first is no smaller
abbrev pub ◌⊖◌ : Fraction → Fraction → Fraction
p ⊖ q = (p.numerator * q.denominator - q.numerator * p.denominator) ÷ (p.denominator * q.denominator)

-- n/m · n'/m' = (n n')/(m m')
abbrev pub ◌⊗◌ : Fraction → Fraction → Fraction
p ⊗ q = (p.numerator * q.numerator) ÷ (p.denominator * q.denominator)

-- (n/m)^e = n^e/m^e
abbrev pub power : Fraction → ℕ → Fraction
power q e = (q.numerator ^ e) ÷ (q.denominator ^ e)

-- 1/(n/m) = m/n
abbrev pub inverse : Fraction → Fraction
inverse q = q.denominator ÷ q.numerator

-- n/m < n'/m' exactly if n m' < n' m
abbrev pub less : Fraction → Fraction → Bool
less p q = ltb (p.numerator * q.denominator) (q.numerator * p.denominator)

-- n/m = n'/m' exactly if n m' = n' m
abbrev pub equal : Fraction → Fraction → Bool
equal p q = eqb (p.numerator * q.denominator) (q.numerator * p.denominator)

-- min{p, q}
abbrev pub lesser : Fraction → Fraction → Fraction
lesser p q = cond (less q p) q p

-- the two fractions are proper, and they are the same number
pub record ◌≈◌ (p q : Fraction) : Type 0 where
  pub left : 0 < p.denominator
  pub right : 0 < q.denominator
  pub cross : p.numerator * q.denominator ≡ q.numerator * p.denominator
