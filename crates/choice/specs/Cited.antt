-- Names for the contracts of the walk: an array that holds campaigns, and what is asked of the named ones.
use Rattle.std.specs.Prelude.{◌≡◌, true, List, ℕ, ◌≤◌, ◌<◌, set}
use Rattle.powers.specs.Limits.{max_depth}
use Rattle.campaigns.specs.declared.Campaign.{Campaign}
use Rattle.campaigns.specs.declared.Plan.{Plan}
use Rattle.campaigns.specs.declared.View.{View}
use Rattle.campaigns.specs.Limits.{max_campaigns, max_views}
use Rattle.campaigns.specs.Campaign.{priced, column, campaign_at}
use Rattle.campaigns.specs.View.{names}
use Rattle.campaigns.specs.Cited.{Sized}

-- the counts of campaign c at i
abbrev pub put : List ℕ → ℕ → Campaign → List ℕ
put n i c =
    set (set (set (set n i c.plays) (column 1 i) c.turns) (column 2 i) c.age) (column 3 i) c.named

-- an array of counts that, beside the terms, holds campaigns g
pub record Counts (g : ℕ → Campaign) (terms counts : List ℕ) : Type 0 where
  pub room : Sized terms counts
  pub at : (i : ℕ) → i < max_campaigns → campaign_at terms counts i ≡ g i

-- the named campaigns are priced and not past the depth, and their counts leave room for one more
pub record InBounds (pl : Plan) (w : View) (f : ℕ → Campaign) : Type 0 where
  pub named_priced : (i : ℕ) → i < max_campaigns → names w i ≡ true → priced (f i) ≡ true
  pub named_young : (i : ℕ) → i < max_campaigns → names w i ≡ true → (f i).age < pl.depth
  pub shallow : pl.depth ≤ max_depth
  pub named_few : (i : ℕ) → i < max_campaigns → names w i ≡ true → (f i).named ≤ max_views
  pub turns_few : (i : ℕ) → i < max_campaigns → names w i ≡ true → (f i).turns ≤ max_views
  pub plays_few : (i : ℕ) → i < max_campaigns → names w i ≡ true → (f i).plays ≤ max_views
