-- plays < budget / price is price × (plays + 1) ≤ budget, for a price of at least 1; the product fits 64 bits.
use Prim.Native.Nat.{◌+◌}
use Rattle.campaigns.proofs.Laws.{plays_below, product_fits}
use native.Mathlib.Omega.{arith}
use Rattle.campaigns.proofs.Campaign.can_pay.Goals as goal

pub overflow_mul-result : goal.overflow_mul-result
overflow_mul-result c = record {
  fits = product_fits c.args.self.price (c.args.self.plays + 1)
      (omega arith) (omega arith);
}

pub returns : goal.returns
returns c = plays_below c.args.self c.requires.le_price
