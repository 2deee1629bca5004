-- The greatest takings, as a number: the last view goes to nobody, or to a campaign that it names and that has plays
-- left.
use Rattle.std.specs.Prelude.{◌≡◌, cond, ◌&&◌, ℕ, zero, suc, ◌+◌, ◌-◌, ◌≤◌, max, ltb, eqb}
use Rattle.sets.specs.Set.{member}
use Rattle.allotments.specs.Allotment.{nobody, Allotment, takings}

-- the greatest of f at the indices below n, 0 where there is none
unfoldable pub greatest : ℕ → (ℕ → ℕ) → ℕ
greatest zero f = 0
greatest (suc n) f = max (greatest n f) (f n)

-- one play less for c
abbrev pub one_less : (ℕ → ℕ) → ℕ → ℕ → ℕ
one_less left c d = cond (eqb d c) (left d - 1) (left d)

-- the most that the first m views bring, where a campaign c has left c plays
unfoldable pub most : ℕ → (ℕ → ℕ) → (ℕ → ℕ) → ℕ → (ℕ → ℕ) → ℕ
most n price left zero view = 0
most n price left (suc m) view =
    max (most n price left m view)
    (greatest n (λ c. cond (member (view m) c && ltb 0 (left c)) (price c + most n price (one_less left c) m view) 0))

-- an allotment that takes x
pub record Takes (n : ℕ) (price whole : ℕ → ℕ) (m : ℕ) (view : ℕ → ℕ) (x : ℕ) : Type 0 where
  pub to : ℕ → ℕ
  pub allotted : Allotment n whole m view to
  pub takes : takings n price m to ≡ x

-- any number of views, and campaigns whose numbers are not nobody's: some allotment takes the most, and none takes
-- more
pub record IsMost (n : ℕ) (price whole : ℕ → ℕ) (m : ℕ) (view : ℕ → ℕ) : Type 0 where
  pub taken : Takes n price whole m view (most n price whole m view)
  pub no_more : (to : ℕ → ℕ) → Allotment n whole m view to → takings n price m to ≤ most n price whole m view

abbrev pub MostIsMost : Type 0
MostIsMost = (n : ℕ) (price whole : ℕ → ℕ) (m : ℕ) (view : ℕ → ℕ) → n ≤ nobody → IsMost n price whole m view
