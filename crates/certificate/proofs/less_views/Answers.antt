-- A figure that cannot be taken off is more than is left.
use mathlib.Core.Path.{ap, ◌∙◌}
use Prim.Native.Nat.{ℕ}
use native.Mathlib.Omega.{arith}
use lib.ListN.{take}
use Rattle.std.proofs.lemmas.List.{length-take-le}
use Rattle.finite.proofs.Sums.{sum_zero}
use Rattle.allotments.specs.Allotment.{at}
use Rattle.certificate.specs.Cited.{rest_left}
use Rattle.certificate.proofs.Passes.{counted_on, counted_short, counted_rest, sum_front}
use Rattle.certificate.proofs.less_views.Goals as goal

pub loop-own-init : goal.loop-own-init
loop-own-init c = omega (arith, sum_zero (at (take c.args.n c.args.worth.now)))

pub returns-in_err-left : goal.returns-in_err-left
returns-in_err-left c =
    let a = c.args in
    let l = c.loop-own in
    c.from_residual.ensures ∙ counted_short a.n (at (take a.n a.worth.now)) a.amount l.left l.own-index l.invariant
    (omega (arith, length-take-le a.n a.worth.now c.requires)) (omega (arith, c.in_err-left.ensures))
    ∙ ap (λ (x : ℕ). rest_left x a.amount) (sum_front a.n a.worth.now)

pub loop-own-preserved : goal.loop-own-preserved
loop-own-preserved c =
    let a = c.args in
    let l = c.loop-own in
    omega (
      arith,
      c.in_ok-left.ensures,
      counted_on a.n (at (take a.n a.worth.now)) a.amount l.left l.own-index l.invariant
          (omega (arith, c.in_ok-left.ensures)),
    )

pub returns : goal.returns
returns c =
    let a = c.args in
    let l = c.loop-own in
    counted_rest a.n (at (take a.n a.worth.now)) a.amount l.left l.own-index l.invariant
    (omega (arith, length-take-le a.n a.worth.now c.requires))
    ∙ ap (λ (x : ℕ). rest_left x a.amount) (sum_front a.n a.worth.now)
