-- The weight at the depth is d^k and that at 0 is (d − 1)^k, the smaller.
use native.Mathlib.Omega.{arith}
use Rattle.audit.proofs.Claims.{share_is, low_below}
use Rattle.noon.proofs.share.Goals as goal

pub overflow_sub-result : goal.overflow_sub-result
overflow_sub-result c =
    omega (
      arith,
      low_below c.args.plan c.requires c.weigh-high.result c.weigh.result c.weigh-high.ensures.0 c.weigh.ensures.0,
    )

pub returns : goal.returns
returns c = (
  share_is c.args.plan c.requires c.weigh-high.result c.weigh.result c.weigh-high.ensures.0 c.weigh.ensures.0,
  omega (arith, c.weigh-high.ensures.1),
)
