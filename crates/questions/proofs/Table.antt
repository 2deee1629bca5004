-- Question 5 by the table: an entry of 0 is a power above the limit, any other is the power itself.
use mathlib.Core.Path.{◌≡◌, ◌∙◌}
use mathlib.Core.Bool.{true}
use lib.Dec.{leb}
use Rattle.finite.proofs.Tests.{both_right}
use Rattle.powers.specs.Limits.{max_depth}
use Rattle.powers.specs.Power.{entry, listed}
use Rattle.powers.proofs.Entries.{entry_under}
use Rattle.campaigns.specs.declared.Plan.{Plan}
use Rattle.campaigns.specs.Campaign.{depth_fits, width_fits, power_fits}

module _ (pl : Plan) (d : depth_fits pl ≡ true) (w : width_fits pl ≡ true) where
  listed_is : listed pl.width pl.depth ≡ entry pl.width pl.depth
  unfolding listed
  listed_is = rw (w, both_right (leb 1 pl.depth) (leb pl.depth max_depth) d)

  pub listed_under : (listed pl.width pl.depth ≡ 0 → ⊥) → power_fits pl ≡ true
  listed_under z = entry_under pl.width pl.depth (λ x. z (listed_is ∙ x))
