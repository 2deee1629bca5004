-- The loop keeps: the sum so far is that of the first i campaigns, at most i × 1,000,000 × 2^32. No difference is
-- negative, since the weights rise with the age.
use Rattle.finite.proofs.Sums.{sum_next}
use Rattle.campaigns.proofs.Laws.{plan_sized}
use Rattle.powers.proofs.Weight.{weight_mono}
use native.Mathlib.Nat.{mul-le-mul}
use Rattle.audit.specs.Cited.{waited_of, waiting}
use Rattle.finite.specs.Finite.{sum}
use Rattle.powers.specs.Power.{weight}
use mathlib.Core.Path.{◌≡◌, refl, ap, ap₂, ◌∙◌}
use Rattle.campaigns.specs.Campaign.{campaign_at}
use native.Mathlib.Omega.{arith}
use Prim.Native.Nat.{ℕ, ◌-◌, ◌*◌, ◌≤◌}
use Rattle.audit.proofs.sums.wait_all.Goals as goal

pub loop-i-init : goal.loop-i-init
unfolding waited_of sum
loop-i-init c = (omega arith, refl, omega arith)

pub overflow_sub-sum : goal.overflow_sub-sum
overflow_sub-sum c =
    let pl = c.args.plan in
    let f = campaign_at c.args.terms.now c.args.counts.now in
    let i = c.loop-i.i in
    let z = plan_sized pl c.requires.weights.plan_sound in
    let w : c.weigh-weight.result ≡ weight pl.depth pl.width (f i).age =
    c.weigh-weight.ensures.0 ∙ ap (weight pl.depth pl.width) c.from.ensures in
    omega (
      arith,
      w,
      c.weigh-low.ensures.0,
      weight_mono pl.depth pl.width z.wide (f i).age (c.requires.entries_bounded.age_most i c.loop-i-test.true),
    )

-- what the campaign at hand adds to the sum
gained_most : (p x y : ℕ) → p ≤ 1_000_000 → x ≤ 4_294_967_296 → p * (x - y) ≤ 4_294_967_296_000_000
gained_most p x y h k =
    let l : x - y ≤ 4_294_967_296 = omega arith in
    mul-le-mul h l

pub overflow_add-sum : goal.overflow_add-sum
overflow_add-sum c =
    let p : c.from-in-loop-i.result ≤ 1_000_000 =
    omega (arith, c.from-in-loop-i.ensures, c.requires.entries_bounded.price_most c.loop-i.i c.loop-i-test.true) in
    omega (arith, gained_most c.from-in-loop-i.result c.weigh-weight.result c.weigh-low.result p c.weigh-weight.ensures.1)

pub loop-i-preserved : goal.loop-i-preserved
unfolding waited_of
loop-i-preserved c =
    let pl = c.args.plan in
    let f = campaign_at c.args.terms.now c.args.counts.now in
    let l = c.loop-i in
    let p : c.from-in-loop-i.result ≤ 1_000_000 =
    omega (arith, c.from-in-loop-i.ensures, c.requires.entries_bounded.price_most l.i c.loop-i-test.true) in
    let m = gained_most c.from-in-loop-i.result c.weigh-weight.result c.weigh-low.result p c.weigh-weight.ensures.1 in
    let w : c.weigh-weight.result ≡ weight pl.depth pl.width (f l.i).age =
    c.weigh-weight.ensures.0 ∙ ap (weight pl.depth pl.width) c.from.ensures in
    let g : c.from-in-loop-i.result * (c.weigh-weight.result - c.weigh-low.result) ≡ (f l.i).price * waiting pl (f l.i) =
    ap₂ (λ (x y : ℕ). x * y) c.from-in-loop-i.ensures (ap₂ (λ (x y : ℕ). x - y) w c.weigh-low.ensures.0) in (
      omega arith,
      omega (arith, sum_next l.i (λ j. (f j).price * waiting pl (f j)), l.invariant.1, g),
      omega (arith, m, l.invariant.2),
    )
