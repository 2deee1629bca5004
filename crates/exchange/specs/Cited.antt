-- What a search for one more view of a campaign asks and gives. The campaigns visited are a set.
use Rattle.std.specs.Prelude.{◌≡◌, ◌⊎◌, Bool, true, false, ◌&&◌, List, ℕ, suc, ◌≤◌, ◌<◌, eqb, length}
use Rattle.std.specs.Prelude.{Option, Some, None}
use Rattle.finite.specs.Finite.{least}
use Rattle.sets.specs.Set.{member, including}
use Rattle.allotments.specs.Allotment.{at, times, nobody}
use Rattle.exchange.specs.declared.Sought.{Sought}
use Rattle.exchange.specs.declared.Sought.TheVariants.{Found, Shut}
use Rattle.exchange.specs.Chain.{Chain}

-- how many of the entries of the views are d
abbrev pub holds : List ℕ → List ℕ → ℕ → ℕ
holds views to d = times (length views) (at to) d

-- the view at j names the campaign and is given to nobody
abbrev pub free : List ℕ → List ℕ → ℕ → ℕ → Bool
free views to c j = eqb (at to j) nobody && member (at views j) c

-- the first such view, or the number of views
unfoldable pub first_free : List ℕ → List ℕ → ℕ → ℕ
first_free views to c = least (length views) (free views to c)

-- it is that view, or there is none
abbrev pub FreeIs : List ℕ → List ℕ → ℕ → Option ℕ → Type 0
FreeIs views to c (Some j) = (j ≡ first_free views to c) × (j < length views)
FreeIs views to c None = length views ≤ first_free views to c

-- the first of n views that is given to nobody, or n
unfoldable pub first_open : ℕ → List ℕ → ℕ
first_open n to = least n (λ j. eqb (at to j) nobody)

-- no view below the place is free
abbrev pub NoneFree : List ℕ → ℕ → Type 0
NoneFree to first = (j : ℕ) → j < first → at to j ≡ nobody → ⊥

-- no free view names a campaign of the set
abbrev pub Bare : List ℕ → List ℕ → ℕ → Type 0
Bare views to set = (d : ℕ) → d < 64 → member set d ≡ true → (j : ℕ) → j < length views → free views to d j ≡ false

-- every entry is a campaign or nobody, those below a place are campaigns, the campaign is not visited, and of some it
-- is known that no free view names them
pub record Seekable (views to : List ℕ) (c visited first bare : ℕ) : Type 0 where
  pub room : length views ≤ length to
  pub entries : (j : ℕ) → j < length views → at to j ≤ nobody
  pub campaign : c < 64
  pub fresh : member visited c ≡ false
  pub inside : first ≤ length views
  pub taken : NoneFree to first
  pub none_free : Bare views to bare

-- an entry that changed went to a campaign that the view names
abbrev pub Changed : List ℕ → List ℕ → List ℕ → ℕ → Type 0
Changed views to to' j = (at to' j ≡ at to j) ⊎ ((at to' j < 64) × (member (at views j) (at to' j) ≡ true))

-- a view was found, by a chain: c has one more, every other as many as before; what a visited campaign held, or c
-- itself, it still holds; entries past the views stay
pub record Gained (views to to' : List ℕ) (c visited : ℕ) : Type 0 where
  pub chain : Chain views to to' c
  pub more : holds views to' c ≡ suc (holds views to c)
  pub same : (d : ℕ) → d < 64 → (d ≡ c → ⊥) → holds views to' d ≡ holds views to d
  pub changed : (j : ℕ) → j < length views → Changed views to to' j
  pub kept : (j : ℕ) → at to j < 64 → member (including visited c) (at to j) ≡ true → at to' j ≡ at to j
  pub beyond : (j : ℕ) → length views ≤ j → at to' j ≡ at to j

-- if the view at j names d, a campaign of the set holds it
abbrev pub Held : List ℕ → List ℕ → ℕ → ℕ → ℕ → Type 0
Held views to set d j = member (at views j) d ≡ true → (at to j < 64) × (member set (at to j) ≡ true)

-- no view was found: nothing moved; the campaigns newly visited are c and holders of views, and shut off: whatever view
-- names one is held by a visited campaign
pub record Failed (views to to' : List ℕ) (c visited visited' : ℕ) : Type 0 where
  pub still : to' ≡ to
  pub self : member visited' c ≡ true
  pub grown : (d : ℕ) → d < 64 → member visited d ≡ true → member visited' d ≡ true
  pub reached : (d : ℕ) → d < 64 → member visited d ≡ false → member visited' d ≡ true
      → (d ≡ c) ⊎ (0 < holds views to d)
  pub shut : (d : ℕ) → d < 64 → member visited d ≡ false → member visited' d ≡ true → (j : ℕ) → j < length views
      → Held views to visited' d j

-- a view was found, or none was; either way no free view names a bare campaign
abbrev pub SoughtIs : (views to to' : List ℕ) (c visited : ℕ) → Sought → Type 0
SoughtIs views to to' c visited (Found bare) = Gained views to to' c visited × Bare views to' bare
SoughtIs views to to' c visited (Shut visited' bare) = Failed views to to' c visited visited' × Bare views to' bare
