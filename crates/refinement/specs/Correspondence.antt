-- The day beside Algorithm 4: the paper's instance for a plan and its campaigns' terms, what a campaign's counts stand
-- for among the paper's variables, and the claim that our rule chooses as the algorithm does.
use Rattle.std.specs.Prelude.{◌≡◌, true, false, List, [], ◌∷◌, map, ℕ, ◌-◌, ◌*◌, ◌≤◌, ◌<◌, ltb, length}
use Rattle.finite.specs.Finite.{sum}
use Rattle.powers.specs.Power.{weight}
use Rattle.campaigns.specs.declared.Campaign.{Campaign}
use Rattle.campaigns.specs.declared.Plan.{Plan}
use Rattle.campaigns.specs.declared.Terms.{Terms}
use Rattle.campaigns.specs.declared.View.{View}
use Rattle.campaigns.specs.Choice.{Choice}
use Rattle.campaigns.specs.Choice.Choice.{nobody, plays}
use Rattle.campaigns.specs.Campaign.{whole_plays, fresh}
use Rattle.campaigns.specs.View.{names, chosen_of, viewed}
use Rattle.refinement.specs.Fraction.{Fraction, ◌÷◌, integer, ◌⊖◌, ◌⊗◌, power, less, ◌≈◌}
use Rattle.refinement.specs.Algorithm4.{Instance, Neighbors, Variables, C, part, feasible_neighbor, quantity}
use Rattle.refinement.specs.Algorithm4.{line_4}
use Rattle.refinement.specs.Algorithm4.{line_9, algorithm_4, matches}

-- B_i: "Without loss of generality, B_i/b_i is integral". The budget that was handed in, the budget without the cents
-- left over, and any other amount that buys as many whole plays will do.
abbrev pub BuysAlike : (Terms → ℕ) → Type 0
BuysAlike B = (t : Terms) → whole_plays t.price (B t) ≡ whole_plays t.price t.budget

-- the budget without the cents left over: price × whole plays
abbrev pub spendable : Terms → ℕ
spendable t = t.price * whole_plays t.price t.budget

abbrev pub BudgetsBuyAlike : Type 0
BudgetsBuyAlike = BuysAlike (λ t. t.budget) × BuysAlike spendable

-- k is the depth, d the width, the advertisers are n campaigns, and b_i is the price of campaign i
abbrev pub instance : (Terms → ℕ) → Plan → (n : ℕ) → (ℕ → Terms) → Instance
instance B pl n t = record { k = pl.depth; d = pl.width; n = n; b = λ i. (t i).price; B = λ i. B (t i) }

-- the ad slots are the views, and their neighbors the campaigns that they name
abbrev pub slots : List View → List Neighbors
slots ws = map names ws

-- "z_i^c = C · b_i/B_i · ((d/(d−1))^{d^c(i)} − 1), where d^c(i) is the degree of i's current copy, or equivalently, the
-- number of i's edges since z_i^c was last nullified" (the proof of Theorem 5.1)
abbrev pub copy : Instance → ℕ → (degree : ℕ) → Fraction
copy I i degree = C I ⊗ part I i ⊗ (power (I.d ÷ (I.d - 1)) degree ⊖ integer 1)

-- "its compared quantity is C × price × (d/(d−1))^age when d > 1" (document 01)
abbrev pub compared_quantity : Instance → ℕ → (age : ℕ) → Fraction
compared_quantity I i age = C I ⊗ integer (I.b i) ⊗ power (I.d ÷ (I.d - 1)) age

-- document 01's score, price × W(age), orders campaigns of any prices and ages as that quantity does
abbrev pub ScoresOrder : Type 0
ScoresOrder =
    (I : Instance) → 0 < I.k → 1 < I.d → (m i a a' : ℕ) → a ≤ I.k → a' ≤ I.k
    → less (compared_quantity I m a) (compared_quantity I i a')
    ≡ ltb (I.b m * weight I.k I.d a) (I.b i * weight I.k I.d a')

-- a campaign's counts stand for the variables of advertiser i before slot j: its plays are the slots matched to i; and,
-- but at width 1, where the paper divides by 0, its age is the degree of the current copy, and each of its turns is a
-- finished copy, which has added b_i/B_i to z_i
pub record Represents (I : Instance) (j : ℕ) (v : Variables) (i : ℕ) (c : Campaign) : Type 0 where
  pub plays_are : sum j (v.x i) ≡ c.plays
  pub age_is : 1 < I.d → v.zᶜ i ≈ copy I i c.age
  pub turns_are : 1 < I.d → v.z i ≈ integer c.turns ⊗ part I i
  pub quantity_is : 1 < I.d → quantity I v i ≈ compared_quantity I i c.age

-- no two ages and no two turns stand for one value, and "by our choice of C, after at most k i-edges, z_i^c = b_i/B_i"
-- (the same proof)
pub record Injective (I : Instance) (i : ℕ) : Type 0 where
  pub one_age : (a a' : ℕ) → copy I i a ≈ copy I i a' → a ≡ a'
  pub one_turns : (t t' : ℕ) → integer t ⊗ part I i ≈ integer t' ⊗ part I i → t ≡ t'
  pub complete : copy I i I.k ≈ part I i

-- lines 3 and 4 in their words: a feasible neighbor is matched, none has a greater quantity, and none of a lower number
-- an equal one; or there is no feasible neighbor
abbrev pub Maximizes : Instance → (j : ℕ) → Neighbors → Variables → Choice → Type 0
Maximizes I j N v nobody = (i : ℕ) → i < I.n → feasible_neighbor I v j N i ≡ false
Maximizes I j N v (plays m) =
    (m < I.n) × (feasible_neighbor I v j N m ≡ true) ×
    ((i : ℕ) → i < I.n → feasible_neighbor I v j N i ≡ true → (less (quantity I v m) (quantity I v i) ≡ false)
    × (i < m → less (quantity I v i) (quantity I v m) ≡ true))

-- slot j arrives: line 4 matches as its words say, and nobody else would do; and no copy waits to be finished, so that
-- lines 9 to 11 do nothing where nobody is matched, whether they stand under line 3 or not
pub record Arrives (I : Instance) (j : ℕ) (N : Neighbors) (v : Variables) : Type 0 where
  pub maximizing : Maximizes I j N v (line_4 I j N v)
  pub only_one : (m : Choice) → Maximizes I j N v m → m ≡ line_4 I j N v
  pub none_waits : (i : ℕ) → i < I.n → line_9 I N v i ≡ false

-- our rule over a list of views: who plays each, and the campaigns after it
unfoldable pub choices : (n : ℕ) → Plan → List View → (ℕ → Campaign) → List Choice
choices n pl [] f = []
choices n pl (w ∷ ws) f = chosen_of n pl w f ∷ choices n pl ws (viewed n pl w f)

unfoldable pub campaigns_after : (n : ℕ) → Plan → List View → (ℕ → Campaign) → ℕ → Campaign
campaigns_after n pl [] f = f
campaigns_after n pl (w ∷ ws) f = campaigns_after n pl ws (viewed n pl w f)

-- a plan of width above 1, and terms that are taken (questions 3, 8 and 9)
pub record Valid (pl : Plan) (n : ℕ) (t : ℕ → Terms) : Type 0 where
  pub deep : 1 ≤ pl.depth
  pub wide : 1 < pl.width
  pub priced : (i : ℕ) → i < n → 1 ≤ (t i).price
  pub funded : (i : ℕ) → i < n → (t i).price ≤ (t i).budget

-- from fresh campaigns and through the views ws: the matches are our choices, and our counts stand for the variables,
-- and tell them
pub record Agrees (I : Instance) (pl : Plan) (t : ℕ → Terms) (ws : List View) : Type 0 where
  pub same_choices : matches I (slots ws) ≡ choices I.n pl ws (λ i. fresh (t i))
  pub injective : (i : ℕ) → i < I.n → Injective I i
  pub same_counts : (i : ℕ) → i < I.n → Represents I (length ws) (algorithm_4 I (slots ws)) i
      (campaigns_after I.n pl ws (λ i'. fresh (t i')) i)
  pub next : (w : View) → Arrives I (length ws) (names w) (algorithm_4 I (slots ws))

abbrev pub AsAlgorithm4 : Type 0
AsAlgorithm4 = (B : Terms → ℕ) → BuysAlike B → (pl : Plan) (n : ℕ) (t : ℕ → Terms) → Valid pl n t → (ws : List View)
    → Agrees (instance B pl n t) pl t ws
