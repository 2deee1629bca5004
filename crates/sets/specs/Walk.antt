-- The walk of a set (document 02, request 9): the first step goes to the least mark, each later one to the least above
-- the last, and there are as many steps as marks.
use Rattle.std.specs.Prelude.{◌≡◌, ◌≢◌, Option, MatchOption, true, false, cond, List, []}
use Rattle.std.specs.Prelude.{◌∷◌, ℕ, zero, suc, ◌+◌, ◌≤◌, ◌<◌, ltb, length}
use Rattle.sets.specs.Set.{member, size, next, beyond}

-- at most `fuel` steps, the first to the least member from a on, each later one to the least above the last
unfoldable pub walk : (fuel : ℕ) → ℕ → ℕ → List ℕ
walk zero set a = []
walk (suc f) set a = cond (ltb (next set a) 64) (next set a ∷ walk f set (next set a + 1)) []

-- the members in the order of the walk
unfoldable pub members : ℕ → List ℕ
members set = walk 64 set 0

-- r is the least mark from a on, or 64 where there is none
pub record Next (set a r : ℕ) : Type 0 where
  pub low : a ≤ r
  pub high : r ≤ 64
  pub gap : (j : ℕ) → a ≤ j → j < r → member set j ≡ false
  pub here : r < 64 → member set r ≡ true

-- a walk from a on, by its steps: each goes to the least mark from there on, the next begins above it, and the last
-- leaves no mark
pub data Steps (set : ℕ) : ℕ → List ℕ → Type 0 where
  end : {a : ℕ} → Next set a 64 → Steps set a []
  step : {a r : ℕ} {rs : List ℕ} → Next set a r → r < 64 → Steps set (r + 1) rs → Steps set a (r ∷ rs)

-- The members are such a walk, from the least mark on, of as many steps as marks; it is the only one; and what `first`
-- and `rest` give, the least mark and what is above it, is its first step and the walk that is left.
pub record OneWay (set : ℕ) : Type 0 where
  pub by_steps : Steps set 0 (members set)
  pub as_many : length (members set) ≡ size set
  pub only : (rs : List ℕ) → Steps set 0 rs → rs ≡ members set
  pub one_step : next set 0 < 64 → members set ≡ next set 0 ∷ members (beyond set (next set 0))

-- a step of the walk from `set`: nothing where nothing is left, else the least member, and `left` is what is behind it
abbrev pub StepGives : (set : ℕ) → Option ℕ → (left : ℕ) → Type 0
StepGives set r left =
    MatchOption r ((set ≡ 0) × (left ≡ 0)) (λ i. (set ≢ 0) × (i ≡ next set 0) × (left ≡ beyond set (next set 0)))

abbrev pub AlwaysOneWay : Type 0
AlwaysOneWay = (set : ℕ) → OneWay set
