-- Allotments of views, their takings, and the figures that show an allotment to be greatest. There are n campaigns,
-- each with a price and whole plays, and m views, each a set of names; what stands at an index is a function of it, and
-- `to j` is who is given view j.
use Rattle.std.specs.Prelude.{◌≡◌, Bool, true, cond, ◌||◌, ◌⊎◌, List, [], ◌∷◌, ℕ, ◌+◌, ◌*◌, ◌≤◌, ◌<◌, leb, ltb, eqb}
use Rattle.std.specs.Prelude.{get_or}
use Rattle.finite.specs.Finite.{sum, count, every, all}
use Rattle.sets.specs.Set.{member}

-- the entry of a list at an index, 0 past the end
abbrev pub at : List ℕ → ℕ → ℕ
at l i = get_or l i 0

-- how often m views are given to campaign i
unfoldable pub times : (m : ℕ) → (ℕ → ℕ) → ℕ → ℕ
times m to i = count m (λ j. eqb (to j) i)

-- an entry for nobody
abbrev pub nobody : ℕ
nobody = 64

-- each view goes to nobody or to one campaign that it names, and no campaign is given more than its whole plays
pub record Allotment (n : ℕ) (whole : ℕ → ℕ) (m : ℕ) (view to : ℕ → ℕ) : Type 0 where
  pub given : (j : ℕ) → j < m → (to j ≡ nobody) ⊎ (member (view j) (to j) ≡ true)
  pub bought : (i : ℕ) → i < n → times m to i ≤ whole i

-- what an entry brings: the price of the campaign, and 0 for nobody
abbrev pub brings : (n : ℕ) (price : ℕ → ℕ) → ℕ → ℕ
brings n price i = cond (ltb i n) (price i) 0

-- an allotment's takings: the prices so given
unfoldable pub takings : (n : ℕ) (price : ℕ → ℕ) (m : ℕ) → (ℕ → ℕ) → ℕ
takings n price m to = sum m (λ j. brings n price (to j))

-- no allotment takes more
abbrev pub Greatest : (n : ℕ) (price whole : ℕ → ℕ) (m : ℕ) (view to : ℕ → ℕ) → Type 0
Greatest n price whole m view to = (other : ℕ → ℕ) → Allotment n whole m view other
    → takings n price m other ≤ takings n price m to

-- an allotment with figures that fit it: a campaign's figure plus a view's is at least the price wherever that view
-- names that campaign, and the sum of campaign figures × whole plays, plus view figures, equals the takings
pub record Certified (n : ℕ) (price whole : ℕ → ℕ) (m : ℕ) (view to campaign_figure view_figure : ℕ → ℕ) : Type 0 where
  pub allotted : Allotment n whole m view to
  pub covers : (j : ℕ) → j < m → (i : ℕ) → i < n → member (view j) i ≡ true
      → price i ≤ campaign_figure i + view_figure j
  pub equal : sum n (λ i. campaign_figure i * whole i) + sum m view_figure ≡ takings n price m to

-- the same as tests: of one entry, of one view with its figure, and of the sum
abbrev pub entry_fits : (view : ℕ) → ℕ → Bool
entry_fits view i = eqb i nobody || member view i

abbrev pub covered : (n : ℕ) (price campaign_figure : ℕ → ℕ) (view view_figure : ℕ) → Bool
covered n price campaign_figure view f =
    every n (λ i. cond (member view i) (leb (price i) (campaign_figure i + f)) true)

abbrev pub figures_sum : (n : ℕ) (whole : ℕ → ℕ) (m : ℕ) (campaign_figure view_figure : ℕ → ℕ) → ℕ
figures_sum n whole m campaign_figure view_figure = sum n (λ i. campaign_figure i * whole i) + sum m view_figure

abbrev pub tests : (n : ℕ) (price whole : ℕ → ℕ) (m : ℕ) (view to campaign_figure view_figure : ℕ → ℕ) → List Bool
tests n price whole m view to campaign_figure view_figure =
    every m (λ j. entry_fits (view j) (to j)) ∷ every n (λ i. leb (times m to i) (whole i)) ∷
    every m (λ j. covered n price campaign_figure (view j) (view_figure j)) ∷
    eqb (figures_sum n whole m campaign_figure view_figure) (takings n price m to) ∷ []

unfoldable pub certified : (n : ℕ) (price whole : ℕ → ℕ) (m : ℕ) (view to campaign_figure view_figure : ℕ → ℕ) → Bool
certified n price whole m view to campaign_figure view_figure =
    all (tests n price whole m view to campaign_figure view_figure)
