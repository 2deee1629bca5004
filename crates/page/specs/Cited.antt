-- How the contracts of the inner functions speak of a page that is put over spaces, from its last byte to its first.
-- Nothing that a caller of the crate relies on is here.
use Rattle.std.specs.Prelude.{ℕ, ◌*◌, ◌≤◌, ◌<◌, ◌≡◌, List, ◌++◌, length, replicate}
use Rattle.finite.specs.Finite.{table}
use Rattle.campaigns.specs.declared.Campaign.{Campaign}
use Rattle.campaigns.specs.Limits.{max_campaigns}
use Rattle.page.specs.Page.{RowFits, line_length, row_lines}
use Rattle.page.specs.Figures.{page_row}

-- the buffer d has spaces up to the place at, and the bytes w from there on
pub record Spaced (d : List ℕ) (at : ℕ) (w : List ℕ) : Type 0 where
  pub is : d ≡ replicate at 32 ++ w

-- over spaces, d became e: the bytes l end at the place to and begin at the place at
pub record Lays (d e : List ℕ) (at to : ℕ) (l : List ℕ) : Type 0 where
  pub same : length e ≡ length d
  pub lays : (w : List ℕ) → Spaced d to w → Spaced e at (l ++ w)

-- d has room for a line that ends at the place to
abbrev pub LineRoom : List ℕ → ℕ → Type 0
LineRoom d to = (line_length ≤ to) × (to ≤ length d)

-- the figures of the first n campaigns f fit, and there is room for their lines
pub record RowsRoom (n : ℕ) (f : ℕ → Campaign) (d : List ℕ) : Type 0 where
  pub few : n ≤ max_campaigns
  pub room : line_length * n ≤ length d
  pub all_fit : (i : ℕ) → i < n → RowFits (page_row (f i))

-- their lines
abbrev pub campaign_lines : ℕ → (ℕ → Campaign) → List ℕ
campaign_lines n f = row_lines 0 (table n (λ i. page_row (f i)))
