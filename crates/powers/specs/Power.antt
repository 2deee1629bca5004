-- Powers as the table holds them, and the weights made of them, at depth k and width d.
use Rattle.std.specs.Prelude.{false, cond, ◌&&◌, List, [], ◌≡◌, ℕ, ◌+◌, ◌-◌, ◌*◌, ◌^◌, ◌≤◌, ◌<◌, leb, length, get_or}
use Rattle.finite.specs.Finite.{table}
use Rattle.powers.specs.Limits.{max_depth, max_width, max_power}

-- an entry: the power, or 0 where the power is above 4,294,967,296
unfoldable pub entry : ℕ → ℕ → ℕ
entry base exponent = cond (leb (base ^ exponent) max_power) (base ^ exponent) 0

-- no true entry is 0: where a width's entry is 0, its power is above 4,294,967,296
abbrev pub NoTrueEntryIs0 : Type 0
NoTrueEntryIs0 =
    (base exponent : ℕ) → 1 ≤ base → entry base exponent ≡ 0 → leb (base ^ exponent) max_power ≡ false

-- one column for each exponent from 0 to 32
unfoldable pub row_of : ℕ → List ℕ
row_of base = table (max_depth + 1) (entry base)

-- one row for each width from 1 to 16
unfoldable pub grid : List (List ℕ)
grid = table max_width (λ i. row_of (i + 1))

-- the entry for a width and an exponent, or 0 where the table has none
unfoldable pub listed : ℕ → ℕ → ℕ
listed width exponent = cond (leb 1 width && leb width max_width && leb exponent max_depth) (entry width exponent) 0

-- the table has 528 numbers: at each width and exponent the power, or 0 where the power is above 4,294,967,296
pub record TableHolds : Type 0 where
  pub rows : length grid ≡ 16
  pub columns : (width : ℕ) → 1 ≤ width → width ≤ 16 → length (get_or grid (width - 1) []) ≡ 33
  pub power_is : (width exponent : ℕ) → 1 ≤ width → width ≤ 16 → exponent ≤ 32 → width ^ exponent ≤ 4_294_967_296
      → get_or (get_or grid (width - 1) []) exponent 0 ≡ width ^ exponent
  pub above : (width exponent : ℕ) → 1 ≤ width → width ≤ 16 → exponent ≤ 32 → 4_294_967_296 < width ^ exponent
      → get_or (get_or grid (width - 1) []) exponent 0 ≡ 0
  -- an entry is read at its place, and there is no other
  pub read : (width exponent : ℕ) → 1 ≤ width → width ≤ 16 → exponent ≤ 32
      → listed width exponent ≡ get_or (get_or grid (width - 1) []) exponent 0
  pub no_other : (width exponent : ℕ) → (1 ≤ width → width ≤ 16 → exponent ≤ 32 → ⊥) → listed width exponent ≡ 0

-- an exponent up to 32 is at most r exactly if its power is at most 4,294,967,296
abbrev pub Deepest : (width r : ℕ) → Type 0
Deepest w r = (k : ℕ) → k ≤ max_depth → leb k r ≡ leb (w ^ k) max_power

-- W(a) = d^a × (d − 1)^(k − a); (d − 1)^0 is 1 also for d = 1
unfoldable pub weight : (k d : ℕ) → ℕ → ℕ
weight k d a = d ^ a * (d - 1) ^ (k - a)

-- d^k − (d − 1)^k: what a finished turn claims for each cent of the price
unfoldable pub share : (k d : ℕ) → ℕ
share k d = d ^ k - (d - 1) ^ k
