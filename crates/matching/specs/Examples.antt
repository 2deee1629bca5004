-- The method worked out: chains that move one held view, two, and any number, and allotments that it does not reach.
use Rattle.std.specs.Prelude.{◌≡◌, true, List, [], ◌∷◌, ℕ, ◌+◌, ◌≤◌, ◌<◌, length}
use Rattle.sets.specs.Set.{member}
use Rattle.allotments.specs.Allotment.{at, nobody}
use Rattle.exchange.specs.Chain.{Chain}
use Rattle.matching.specs.Method.{ByFallingPrice}

-- Campaigns 0 and 1 have one play each, and 0 is no cheaper than 1; view 0 names both, view 1 names 0 alone.
abbrev pub two_views : List ℕ
two_views = 3 ∷ 1 ∷ []

-- campaign 0 is served first, by view 0; then campaign 1, to which view 0 is moved after 0 was given view 1
pub record Worked (price whole : ℕ → ℕ) : Type 0 where
  pub first_served : Chain two_views (nobody ∷ nobody ∷ []) (0 ∷ nobody ∷ []) 0
  pub view_moved : Chain two_views (0 ∷ nobody ∷ []) (1 ∷ 0 ∷ []) 1
  pub all_served : ByFallingPrice 2 price whole two_views (1 ∷ 0 ∷ []) 0

abbrev pub MethodWorks : Type 0
MethodWorks = (price whole : ℕ → ℕ) → price 1 ≤ price 0 → whole 0 ≡ 1 → whole 1 ≡ 1 → Worked price whole

-- Three campaigns in falling price, of one play each; view 0 names 0 and 2, view 1 names 0 and 1, view 2 names 1 alone.
abbrev pub three_views : List ℕ
three_views = 5 ∷ 3 ∷ 2 ∷ []

-- campaigns 0 and 1 are served first, by the views 0 and 1; then campaign 2, to which view 0 is moved after 0 was given
-- view 1, and that after 1 was given view 2
pub record Chained (price whole : ℕ → ℕ) : Type 0 where
  pub two_served : ByFallingPrice 3 price whole three_views (0 ∷ 1 ∷ nobody ∷ []) 4
  pub views_moved : Chain three_views (0 ∷ 1 ∷ nobody ∷ []) (2 ∷ 0 ∷ 1 ∷ []) 2
  pub all_served : ByFallingPrice 3 price whole three_views (2 ∷ 0 ∷ 1 ∷ []) 0

abbrev pub ChainWorks : Type 0
ChainWorks = (price whole : ℕ → ℕ) → price 1 ≤ price 0 → price 2 ≤ price 1 → ((c : ℕ) → c < 3 → whole c ≡ 1)
    → Chained price whole

-- A chain of any length: view 0 is moved to campaign m, each later view goes to the campaign that held the one before.
pub record AllMoved (views to : List ℕ) (m : ℕ) : Type 0 where
  pub next : List ℕ
  pub chain : Chain views to next m
  pub first : at next 0 ≡ m
  pub later : (j : ℕ) → j < m → at next (j + 1) ≡ j

-- campaign j holds view j, for each j below m, and view m is free; view 0 names m, and view j + 1 names j
abbrev pub AnyLength : Type 0
AnyLength = (m : ℕ) (views to : List ℕ) → length views ≡ m + 1 → length to ≡ m + 1
    → ((j : ℕ) → j < m → at to j ≡ j) → at to m ≡ nobody
    → member (at views 0) m ≡ true → ((j : ℕ) → j < m → member (at views (j + 1)) j ≡ true) → AllMoved views to m

-- every view names c
abbrev pub AllName : (views : List ℕ) (c : ℕ) → Type 0
AllName views c = (j : ℕ) → j < length views → member (at views j) c ≡ true

-- What the method does not reach at any step, whatever the plan, though each view may go to a campaign that it names.
-- Where all views name a campaign that has a play for each of them, none goes to a cheaper one, which is served later.
-- Where they name every campaign, and each has a play for each of them, they are not shared: whatever the prices, the
-- campaign that is served first gets them all.
pub record NotReached : Type 0 where
  pub cheaper_first : {n : ℕ} {price whole : ℕ → ℕ} {views to : List ℕ} {unserved c d j : ℕ} → n ≤ 64 → c < n → d < n
      → price d < price c → AllName views c → length views ≤ whole c → j < length views → at to j ≡ d
      → ByFallingPrice n price whole views to unserved → ⊥
  pub shared : {n : ℕ} {price whole : ℕ → ℕ} {views to : List ℕ} {unserved i j : ℕ}
      → ((c : ℕ) → c < n → AllName views c × (length views ≤ whole c))
      → i < length views → j < length views → (at to i ≡ at to j → ⊥)
      → ByFallingPrice n price whole views to unserved → ⊥
