-- What the tests of the questions mean: each passes exactly if the sentence of `specs/Door` holds.
use mathlib.Core.Path.{◌≡◌}
use mathlib.Core.Bool.{true}
use mathlib.Core.Logic.{◌↔◌}
use Prim.Native.Nat.{ℕ, ◌^◌}
use Rattle.finite.proofs.Meanings.{leb_means, both_means}
use Rattle.campaigns.specs.declared.Plan.{Plan}
use Rattle.campaigns.specs.Campaign.{depth_fits, width_fits, power_fits, price_fits, budget_fits}
use Rattle.demands.specs.Door.{DepthFits, WidthFits, PowerFits, PriceFits, BudgetFits}

pub depth_means : (pl : Plan) → (depth_fits pl ≡ true) ↔ DepthFits pl
depth_means pl = both_means (leb_means 1 pl.depth) (leb_means pl.depth 32)

pub width_means : (pl : Plan) → (width_fits pl ≡ true) ↔ WidthFits pl
width_means pl = both_means (leb_means 1 pl.width) (leb_means pl.width 16)

pub power_means : (pl : Plan) → (power_fits pl ≡ true) ↔ PowerFits pl
power_means pl = leb_means (pl.width ^ pl.depth) 4_294_967_296

pub price_means : (p : ℕ) → (price_fits p ≡ true) ↔ PriceFits p
price_means p = both_means (leb_means 1 p) (leb_means p 1_000_000)

pub budget_means : (p b : ℕ) → (budget_fits p b ≡ true) ↔ BudgetFits p b
budget_means p b = both_means (leb_means p b) (leb_means b 2_000_000_000)
