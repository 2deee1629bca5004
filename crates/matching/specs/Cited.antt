-- What serving a campaign gives, and what holds between one served campaign and the next. Campaigns not served yet are
-- a set; closed campaigns, those that a failed search visited, are another, each with a level.
use Rattle.std.specs.Prelude.{◌≡◌, ◌⊎◌, true, false, cond, List, ℕ, ◌+◌, ◌-◌, ◌≤◌, ◌<◌, ltb, length}
use Rattle.sets.specs.Set.{member}
use Rattle.allotments.specs.Allotment.{at, nobody, certified}
use Rattle.allotments.specs.Cited.{Market}
use Rattle.exchange.specs.Cited.{holds, Bare, Changed, Failed}
use Rattle.matching.specs.Method.{Found, ByFallingPrice}

-- k more views for c, and as many for the others; what a closed campaign held it still holds
pub record Gains (views to to' : List ℕ) (c closed k : ℕ) : Type 0 where
  pub found : Found views to c to' k
  pub more : holds views to' c ≡ k + holds views to c
  pub same : (d : ℕ) → d < 64 → (d ≡ c → ⊥) → holds views to' d ≡ holds views to d
  pub changed : (j : ℕ) → j < length views → Changed views to to' j
  pub kept : (j : ℕ) → at to j < 64 → member closed (at to j) ≡ true → at to' j ≡ at to j
  pub beyond : (j : ℕ) → length views ≤ j → at to' j ≡ at to j

-- all the whole plays found a view and none is newly closed, or fewer did and the last search failed
pub record ServedIs (views to to' : List ℕ) (c closed whole closed' bare : ℕ) : Type 0 where
  pub plays : ℕ
  pub gains : Gains views to to' c closed plays
  pub most : plays ≤ whole
  pub ended : ((plays ≡ whole) × (closed' ≡ closed)) ⊎ Failed views to' to' c closed closed'
  pub none_free : Bare views to' bare

-- the members of the set at the price, the others as before
pub record Frozen (level level' : List ℕ) (set price : ℕ) : Type 0 where
  pub long : length level' ≡ length level
  pub each : (d : ℕ) → d < 64 → at level' d ≡ cond (member set d) price (at level d)

-- no view is given yet, and no campaign closed
pub record Unserved (n : ℕ) (views to level : List ℕ) : Type 0 where
  pub market : Market n views
  pub room : length views ≤ length to
  pub free : (j : ℕ) → j < length views → at to j ≡ nobody
  pub long : length level ≡ 64
  pub zeros : (d : ℕ) → at level d ≡ 0

-- a view is given to nobody, or to a campaign of the plan that it names
abbrev pub Entry : ℕ → List ℕ → List ℕ → ℕ → Type 0
Entry n views to j = (at to j ≡ nobody) ⊎ ((at to j < n) × (member (at views j) (at to j) ≡ true))

-- between two served campaigns: those served have their plays or are closed at their own price; a closed campaign is
-- shut off from those that are open, and from those at a lower level
pub record Standing (n : ℕ) (prices wholes views to level : List ℕ) (closed unserved : ℕ) : Type 0 where
  pub entries : (j : ℕ) → j < length views → Entry n views to j
  pub bought : (d : ℕ) → d < n → holds views to d ≤ at wholes d
  pub planned : (d : ℕ) → d < 64 → member unserved d ≡ true → d < n
  pub idle : (d : ℕ) → d < 64 → member unserved d ≡ true → holds views to d ≡ 0
  pub waiting : (d : ℕ) → d < 64 → member unserved d ≡ true → member closed d ≡ false
  pub full : (d : ℕ) → d < n → member unserved d ≡ false
      → (holds views to d ≡ at wholes d) ⊎ ((member closed d ≡ true) × (at level d ≡ at prices d))
  pub low : (d : ℕ) → d < n → at level d ≤ at prices d
  pub none : (d : ℕ) → d < 64 → member closed d ≡ false → at level d ≡ 0
  pub held : (d : ℕ) → d < n → member closed d ≡ true → (j : ℕ) → j < length views
      → member (at views j) d ≡ true
      → (at to j < 64) × (member closed (at to j) ≡ true) × (at level d ≤ at level (at to j))
  pub falling : (d : ℕ) → d < 64 → member unserved d ≡ true → (e : ℕ) → e < n → member unserved e ≡ false
      → at prices d ≤ at prices e
  pub levels : (d : ℕ) → d < 64 → member unserved d ≡ true → (e : ℕ) → e < 64 → member closed e ≡ true
      → at prices d ≤ at level e

-- all are served, in falling price, and the standing holds
pub record Matched (n : ℕ) (prices wholes views to to' level : List ℕ) : Type 0 where
  pub method : ByFallingPrice n (at prices) (at wholes) views to' 0
  pub closed : ℕ
  pub standing : Standing n prices wholes views to' level closed 0
  pub beyond : (j : ℕ) → length views ≤ j → at to' j ≡ at to j

-- a campaign's figure is what its price exceeds its level by, a view's the level of its holder, 0 where it has none
abbrev pub campaign_figure : List ℕ → List ℕ → ℕ → ℕ
campaign_figure prices level c = at prices c - at level c

abbrev pub level_of : List ℕ → ℕ → ℕ
level_of level holder = cond (ltb holder 64) (at level holder) 0

abbrev pub view_figure : List ℕ → List ℕ → ℕ → ℕ
view_figure to level j = level_of level (at to j)

-- the first n entries are f's and the others as before
pub record Filled (xs xs' : List ℕ) (n : ℕ) (f : ℕ → ℕ) : Type 0 where
  pub front : (j : ℕ) → j < n → at xs' j ≡ f j
  pub beyond : (j : ℕ) → n ≤ j → at xs' j ≡ at xs j

-- what comes out is certified and made by the method, and entries beyond keep their values
pub record BestIs (n : ℕ) (prices wholes views to to' us us' vs vs' : List ℕ) : Type 0 where
  pub method : ByFallingPrice n (at prices) (at wholes) views to' 0
  pub accepted : certified n (at prices) (at wholes) (length views) (at views) (at to') (at us') (at vs') ≡ true
  pub to_beyond : (j : ℕ) → length views ≤ j → at to' j ≡ at to j
  pub us_beyond : (c : ℕ) → n ≤ c → at us' c ≡ at us c
  pub vs_beyond : (j : ℕ) → length views ≤ j → at vs' j ≡ at vs j
