-- The loop keeps: the first i campaigns have each paid at most their budgets, and the three sums are theirs; each sum
-- is at most i times the greatest term of the widths, so that none overflows.
use Rattle.finite.proofs.Tests.{every_next, every_not, both_join}
use Rattle.finite.proofs.Sums.{sum_next}
use borrow.Author.Tests.{le-leb, lt-leb}
use native.Mathlib.Nat.{mul-le-mul}
use Rattle.audit.specs.Cited.{spent_of}
use Rattle.finite.specs.Finite.{sum, every}
use lib.Dec.{leb}
use mathlib.Core.Path.{◌≡◌, refl, ap₂, ◌∙◌}
use Rattle.campaigns.specs.declared.Campaign.{Campaign}
use Rattle.campaigns.specs.Campaign.{campaign_at}
use native.Mathlib.Omega.{arith}
use Prim.Native.Nat.{ℕ, ◌+◌, ◌*◌, ◌≤◌, ◌<◌}
use Rattle.audit.proofs.sums.spend_all.Goals as goal

-- what a campaign has paid
abbrev paid : (ℕ → Campaign) → ℕ → ℕ
paid f i = (f i).price * (f i).plays

-- a product of two entries of the arrays
product_most : (x y : ℕ) → x < 4_294_967_296 → y < 65_536 → x * y ≤ 281_474_976_710_656
product_most x y h k =
    let a : x ≤ 4_294_967_296 = omega arith in
    let b : y ≤ 65_536 = omega arith in
    mul-le-mul a b

pub loop-i-init : goal.loop-i-init
unfolding every sum
loop-i-init c = (omega arith, refl, refl, refl, refl, omega arith, omega arith, omega arith)

pub returns-then-budget-spent : goal.returns-then-budget-spent
unfolding spent_of
returns-then-budget-spent c =
    let f = campaign_at c.args.terms.now c.args.counts.now in
    let i = c.loop-i.i in
    let e : c.from-price.result * c.from.result ≡ paid f i =
    ap₂ (λ (x y : ℕ). x * y) c.from-price.ensures c.from.ensures in
    rw (every_not c.args.n (λ j. leb (paid f j) (f j).budget) i (omega arith)
    (lt-leb (paid f i) (f i).budget (omega (arith, e, c.from-budget.ensures))))

pub loop-i-preserved : goal.loop-i-preserved
loop-i-preserved c =
    let f = campaign_at c.args.terms.now c.args.counts.now in
    let l = c.loop-i in
    let e : c.from-price.result * c.from.result ≡ paid f l.i =
    ap₂ (λ (x y : ℕ). x * y) c.from-price.ensures c.from.ensures in
    let t : c.from-price.result * c.from-in-loop-i.result ≡ (f l.i).price * (f l.i).turns =
    ap₂ (λ (x y : ℕ). x * y) c.from-price.ensures c.from-in-loop-i.ensures in
    let price_most : c.from-price.result < 4_294_967_296 = omega (arith, c.fits-terms l.i) in
    let plays_most : c.from.result < 65_536 = omega (arith, c.fits-counts l.i) in
    let turns_most : c.from-in-loop-i.result < 65_536 = omega (arith, c.fits-counts (l.i + 64)) in
    let spent_most = product_most c.from-price.result c.from.result price_most plays_most in
    let turned_most = product_most c.from-price.result c.from-in-loop-i.result price_most turns_most in
    let b = c.from-budget.ensures in (
      omega arith,
      every_next l.i (λ j. leb (paid f j) (f j).budget)
          ∙ both_join (every l.i (λ j. leb (paid f j) (f j).budget))
          (leb (paid f l.i) (f l.i).budget) l.invariant.1
          (le-leb (paid f l.i) (f l.i).budget (omega (arith, e, b, c.if-budget-spent.false))),
      omega (arith, sum_next l.i (λ j. (f j).budget), l.invariant.2, b),
      omega (arith, sum_next l.i (paid f), l.invariant.3, e),
      omega (arith, sum_next l.i (λ j. (f j).price * (f j).turns), l.invariant.4, t),
      omega (arith, c.fits-terms (l.i + 64), l.invariant.5),
      omega (arith, spent_most, l.invariant.6),
      omega (arith, turned_most, l.invariant.7),
    )

pub returns : goal.returns
unfolding spent_of
returns c =
    let l = c.loop-i in
    let e : l.i ≡ c.args.n = omega arith in
    rw (← e, l.invariant.1, l.invariant.2, l.invariant.3, l.invariant.4)
