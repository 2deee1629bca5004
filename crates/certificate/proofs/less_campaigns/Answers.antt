-- A part of 64 bits or more is more than is left, and so is one that cannot be taken off.
use mathlib.Core.Path.{ap, ◌∙◌}
use Prim.Native.Nat.{ℕ, ◌*◌}
use native.Mathlib.Omega.{arith}
use Rattle.finite.proofs.Sums.{sum_zero}
use Rattle.allotments.specs.Allotment.{at}
use Rattle.certificate.proofs.Passes.{counted_on, counted_short, counted_rest}
use Rattle.certificate.proofs.less_campaigns.Goals as goal

pub loop-i-init : goal.loop-i-init
loop-i-init c = omega (arith, sum_zero (λ d. at c.args.surplus.now d * at c.args.wholes d))

pub returns-in_err-part : goal.returns-in_err-part
returns-in_err-part c =
    let a = c.args in
    let l = c.loop-i in
    let part = ap (λ (x : ℕ). at a.surplus.now l.i * x) c.from.ensures in
    c.from_residual.ensures ∙ counted_short a.count (λ d. at a.surplus.now d * at a.wholes d) a.amount l.left l.i
    l.invariant c.loop-i-test.true (omega (arith, part, c.in_err-part.ensures, l.invariant, c.ranges.amount.fits))

pub returns-in_err-left : goal.returns-in_err-left
returns-in_err-left c =
    let a = c.args in
    let l = c.loop-i in
    let part = ap (λ (x : ℕ). at a.surplus.now l.i * x) c.from.ensures in
    c.from_residual-in_err-left.ensures ∙ counted_short a.count (λ d. at a.surplus.now d * at a.wholes d) a.amount
    l.left l.i l.invariant c.loop-i-test.true (omega (arith, part, c.in_ok-part.ensures, c.in_err-left.ensures))

pub loop-i-preserved : goal.loop-i-preserved
loop-i-preserved c =
    let a = c.args in
    let l = c.loop-i in
    let part = ap (λ (x : ℕ). at a.surplus.now l.i * x) c.from.ensures in
    omega (
      arith,
      part,
      c.in_ok-part.ensures,
      c.in_ok-left.ensures,
      counted_on a.count (λ d. at a.surplus.now d * at a.wholes d) a.amount l.left l.i l.invariant
          (omega (arith, part, c.in_ok-part.ensures, c.in_ok-left.ensures)),
    )

pub returns : goal.returns
returns c =
    let a = c.args in
    let l = c.loop-i in
    counted_rest a.count (λ d. at a.surplus.now d * at a.wholes d) a.amount l.left l.i l.invariant (omega arith)
