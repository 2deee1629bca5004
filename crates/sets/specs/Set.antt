-- A set of numbers from 0 to 63 as one number: bit i stands for i.
use Rattle.std.specs.Prelude.{◌≡◌, Bool, true, false, cond, not, ◌&&◌, ◌||◌, ℕ, zero, suc, ◌+◌, ◌/◌, ◌%◌, ◌^◌, ◌≤◌}
use Rattle.std.specs.Prelude.{◌<◌, leb, ltb, eqb}
use Rattle.finite.specs.Finite.{sum, count, every, least}

-- bit i is set
unfoldable pub member : ℕ → ℕ → Bool
member set i = eqb (set / 2 ^ i % 2) 1

-- so a number of 64 bits is the sum of 2^i over its members i, and has none from 64 on
pub record BitsAre : Type 0 where
  pub sum_is : (set : ℕ) → set < 2 ^ 64 → sum 64 (λ i. cond (member set i) (2 ^ i) 0) ≡ set
  pub none_beyond : (set i : ℕ) → set < 2 ^ 64 → 64 ≤ i → member set i ≡ false

-- the number of members
unfoldable pub size : ℕ → ℕ
size set = count 64 (member set)

-- every member is below n
unfoldable pub within : ℕ → ℕ → Bool
within n set = every 64 (λ i. cond (member set i) (ltb i n) true)

-- the least member that is a or more, or 64
unfoldable pub next : ℕ → ℕ → ℕ
next set a = least 64 (λ i. leb a i && member set i)

-- the set of the numbers below n that pass the test
unfoldable pub collect : ℕ → (ℕ → Bool) → ℕ
collect zero p = 0
collect (suc n) p = collect n p + cond (p n) (2 ^ n) 0

-- the members of a set that are not in the other
unfoldable pub without : ℕ → ℕ → ℕ
without set out = collect 64 (λ i. member set i && not (member out i))

-- the set with i
unfoldable pub including : ℕ → ℕ → ℕ
including set i = collect 64 (λ j. member set j || eqb j i)

-- the set without i
abbrev pub excluding : ℕ → ℕ → ℕ
excluding set i = without set (including 0 i)

-- the members above a
unfoldable pub beyond : ℕ → ℕ → ℕ
beyond set a = collect 64 (λ i. member set i && ltb a i)
