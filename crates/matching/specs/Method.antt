-- How request 4 has the greatest allotment found: campaigns are served in falling price, each play sought through a
-- chain of exchanges.
use Rattle.std.specs.Prelude.{◌≡◌, true, List, ℕ, ◌+◌, ◌≤◌, ◌<◌, ltb, length}
use Rattle.sets.specs.Set.{member, excluding}
use Rattle.allotments.specs.Allotment.{at, nobody}
use Rattle.exchange.specs.Chain.{Chain}

-- k plays for campaign c, found one after another
pub data Found (views to : List ℕ) (c : ℕ) : (to' : List ℕ) (k : ℕ) → Type 0 where
  none : Found views to c to 0
  one_more : {to' to'' : List ℕ} {k : ℕ} → Found views to c to' k → Chain views to' to'' c
      → Found views to c to'' (k + 1)

-- c is served: it has its whole plays, or there is no chain for one more
pub record Served (views to to' : List ℕ) (c whole : ℕ) : Type 0 where
  pub plays : ℕ
  pub found : Found views to c to' plays
  pub most : plays ≤ whole
  pub ended : plays < whole → (next : List ℕ) → Chain views to' next c → ⊥

-- the campaigns of a plan of n, as a set
abbrev pub Everyone : (n set : ℕ) → Type 0
Everyone n set = (d : ℕ) → d < 64 → member set d ≡ ltb d n

-- of the campaigns not served c is a dearest; which of equals is free
pub record Dearest (price : ℕ → ℕ) (unserved c : ℕ) : Type 0 where
  pub inside : c < 64
  pub waiting : member unserved c ≡ true
  pub top : (d : ℕ) → d < 64 → member unserved d ≡ true → price d ≤ price c

-- the allotment `to` was reached by serving campaigns in falling price, from one that gives every view to nobody; not
-- served yet are `unserved`, at first every campaign of the plan
pub data ByFallingPrice (n : ℕ) (price whole : ℕ → ℕ) (views : List ℕ) : (to : List ℕ) (unserved : ℕ) → Type 0 where
  start : {to : List ℕ} {unserved : ℕ} → ((j : ℕ) → j < length views → at to j ≡ nobody) → Everyone n unserved
      → ByFallingPrice n price whole views to unserved
  serve : {to to' : List ℕ} {unserved c : ℕ} → ByFallingPrice n price whole views to unserved
      → Dearest price unserved c → Served views to to' c (whole c)
      → ByFallingPrice n price whole views to' (excluding unserved c)
