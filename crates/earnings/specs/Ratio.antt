-- A ratio in lowest terms.
use Rattle.std.specs.Prelude.{◌≡◌, cond, ◌&&◌, ℕ, zero, suc, ◌*◌, ◌/◌, ◌%◌, ◌<◌, ◌≤◌, eqb}
use Rattle.earnings.specs.declared.ratio.Ratio.{Ratio}

-- the greatest number up to k that divides both a and b
unfoldable pub common_up_to : (k a b : ℕ) → ℕ
common_up_to zero a b = 1
common_up_to (suc k) a b = cond (eqb (a % suc k) 0 && eqb (b % suc k) 0) (suc k) (common_up_to k a b)

-- the greatest common divisor of a and of b, which is not 0
abbrev pub gcd : ℕ → ℕ → ℕ
gcd a b = common_up_to b a b

-- takings to the greatest takings; 1 to 1 where nothing could be earned
abbrev pub ratio_of : (takings greatest : ℕ) → Ratio
ratio_of t g = record {
  numerator = cond (eqb g 0) 1 (t / gcd t g);
  denominator = cond (eqb g 0) 1 (g / gcd t g);
}

-- they are in lowest terms: the same ratio, and no number above 1 divides both
pub record Lowest (t g : ℕ) : Type 0 where
  pub same : (ratio_of t g).numerator * g ≡ t * (ratio_of t g).denominator
  pub none_divides : (k : ℕ) → (ratio_of t g).numerator % k ≡ 0 → (ratio_of t g).denominator % k ≡ 0 → k ≤ 1

abbrev pub InLowestTerms : Type 0
InLowestTerms = (t g : ℕ) → 0 < g → Lowest t g
