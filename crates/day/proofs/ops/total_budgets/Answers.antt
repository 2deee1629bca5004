-- The loop keeps: the sum so far is that of the first i budgets, at most i × 2^32.
use Rattle.finite.proofs.Sums.{sum_next}
use Rattle.finite.specs.Finite.{sum}
use Rattle.campaigns.specs.Campaign.{campaign_at}
use Prim.Native.Nat.{ℕ}
use mathlib.Core.List.{List}
use native.Mathlib.Omega.{arith}
use mathlib.Core.Path.{◌≡◌, refl, ap, ◌∙◌}
use Rattle.day.proofs.ops.total_budgets.Goals as goal

abbrev budget : (terms counts : List ℕ) → ℕ → ℕ
budget t n i = (campaign_at t n i).budget

pub loop-i-init : goal.loop-i-init
unfolding sum
loop-i-init c = (omega arith, refl, omega arith)

pub loop-i-preserved : goal.loop-i-preserved
loop-i-preserved c =
    let l = c.loop-i in (
      omega arith,
      omega (arith, sum_next l.i (budget c.args.terms.now c.args.counts.now), l.invariant.1, c.from-all.ensures),
      omega (arith, l.invariant.2),
    )

pub returns : goal.returns
returns c = let e : c.loop-i.i ≡ c.args.n = omega arith in (
  c.loop-i.invariant.1 ∙ ap (λ (m : ℕ). sum m (budget c.args.terms.now c.args.counts.now)) e,
  omega (arith, c.loop-i.invariant.2),
)
