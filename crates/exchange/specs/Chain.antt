-- A chain of exchanges, as request 4 has each play sought.
use Rattle.std.specs.Prelude.{◌≡◌, true, List, ℕ, ◌<◌, length, set}
use Rattle.sets.specs.Set.{member}
use Rattle.allotments.specs.Allotment.{at, nobody}

-- one view more for campaign c, which turns the allotment `to` into `to'`: a view that names c and is given to nobody,
-- or one that names c and that another campaign d holds, moved to c after such a chain gave d another in its place
pub data Chain (views : List ℕ) : (to to' : List ℕ) (c : ℕ) → Type 0 where
  given : {to : List ℕ} {c : ℕ} (j : ℕ) → j < length views → member (at views j) c ≡ true → at to j ≡ nobody
      → Chain views to (set to j c) c
  moved : {to to' : List ℕ} {c d : ℕ} (j : ℕ) → j < length views → member (at views j) c ≡ true → (d ≡ c → ⊥)
      → at to j ≡ d → Chain views to to' d → at to' j ≡ d → Chain views to (set to' j c) c
