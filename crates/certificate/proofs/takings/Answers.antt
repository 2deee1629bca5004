-- Each price has 32 bits and there are at most 256 views, so that the sum never wraps.
use mathlib.Core.Path.{◌≡◌, ap, ◌∙◌, subst⁻¹}
use Prim.Native.Nat.{ℕ, ◌+◌}
use native.Mathlib.Omega.{arith}
use lib.ListN.{take}
use Rattle.std.proofs.lemmas.List.{length-take-le}
use Rattle.allotments.specs.Allotment.{at, takings}
use Rattle.certificate.proofs.Passes.{Summed, summed_none, summed_more, summed_same, takings_front}
use Rattle.certificate.proofs.takings.Goals as goal
use Rattle.certificate.proofs.takings.Goals.{then-entry-count, else-entry-count}

pub loop-entry-init : goal.loop-entry-init
loop-entry-init c = summed_none c.args.count (at c.args.prices.now) (at (take c.args.n c.args.allotment.now))

pub loop-entry-preserved : goal.loop-entry-preserved
loop-entry-preserved c =
    let a = c.args in
    let l = c.loop-entry in
    let to = at (take a.n a.allotment.now) in
    let Kept : ℕ → Type 0 = λ x. Summed a.count (at a.prices.now) to (l.entry-index + 1) x in
    elim c.if-entry-count.branch [
      | then-entry-count w ↦ subst⁻¹ Kept w.sum-is (summed_more a.count (at a.prices.now) to l.entry-index l.sum
          w.from-sum.result l.invariant w.if-entry-count.true w.from-sum.ensures
          (omega (arith, w.from-sum.ensures, c.fits-prices (to l.entry-index))))
      | else-entry-count w ↦ subst⁻¹ Kept w.sum-is (summed_same a.count (at a.prices.now) to l.entry-index l.sum
          l.invariant w.if-entry-count.false)
    ]

pub returns : goal.returns
returns c =
    let a = c.args in
    let l = c.loop-entry in
    let to = at (take a.n a.allotment.now) in
    let e : l.entry-index ≡ a.n = omega (arith, length-take-le a.n a.allotment.now c.requires.2) in
    l.invariant.0 ∙ ap (λ (k : ℕ). takings a.count (at a.prices.now) k to) e
    ∙ takings_front a.count (at a.prices.now) a.n a.allotment.now
