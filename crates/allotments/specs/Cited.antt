-- Names for the contracts of the search and of the check.
use Rattle.std.specs.Prelude.{◌≡◌, true, List, ℕ, ◌≤◌, ◌<◌, length}
use Rattle.sets.specs.Set.{within}
use Rattle.allotments.specs.Allotment.{at, nobody}

-- n campaigns, and views that name no other
pub record Market (n : ℕ) (views : List ℕ) : Type 0 where
  pub few : n ≤ nobody
  pub inside : (j : ℕ) → j < length views → within n (at views j) ≡ true

-- enough entries are lent for the allotment, for the campaign figures and for the view figures
pub record EnoughLent (n : ℕ) (views allotment surplus worth : List ℕ) : Type 0 where
  pub market : Market n views
  pub for_allotment : length views ≤ length allotment
  pub for_campaigns : n ≤ length surplus
  pub for_views : length views ≤ length worth
