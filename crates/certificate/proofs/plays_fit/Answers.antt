-- Each campaign has left what its whole plays exceed the entries looked at by that it is given; one given with none left
-- is one too many.
use mathlib.Core.Path.{◌≡◌, sym, subst, subst⁻¹, ◌∙◌}
use mathlib.Core.Bool.{true}
use mathlib.Core.List.{List}
use Prim.Native.Nat.{ℕ, ◌+◌}
use native.Mathlib.Omega.{arith}
use lib.Dec.{leb}
use lib.ListN.{take}
use borrow.Author.Rules.{rules}
use Rattle.std.proofs.lemmas.List.{length-take-le}
use Rattle.finite.specs.Finite.{every}
use Rattle.allotments.specs.Allotment.{at, times}
use Rattle.certificate.proofs.Passes.{Left, left_start, left_same, left_less, left_none, left_end, plays_front}
use Rattle.certificate.proofs.plays_fit.Goals as goal
use Rattle.certificate.proofs.plays_fit.Goals.{then-entry-count+else-left-i-eq0, else-entry-count}

pub loop-entry-init : goal.loop-entry-init
loop-entry-init c = left_start c.args.count c.args.wholes (at (take c.args.n c.args.allotment.now)) (search rules)

pub returns-then-left-i-eq0 : goal.returns-then-left-i-eq0
returns-then-left-i-eq0 c =
    let a = c.args in
    let l = c.loop-entry in
    sym (left_none a.count a.wholes (at (take a.n a.allotment.now)) l.left l.entry-index l.invariant a.n
    (omega (arith, c.loop-entry-test.true, length-take-le a.n a.allotment.now c.requires.1)) c.if-entry-count.true
    c.if-left-i-eq0.true) ∙ plays_front a.count a.n a.wholes a.allotment.now

pub loop-entry-preserved : goal.loop-entry-preserved
loop-entry-preserved c =
    let a = c.args in
    let l = c.loop-entry in
    let to = at (take a.n a.allotment.now) in
    let Kept : List ℕ → Type 0 = λ x. Left a.count a.wholes x to (l.entry-index + 1) in
    elim c.if-entry-count.branch [
      | then-entry-count+else-left-i-eq0 w ↦ subst⁻¹ Kept w.left-is (left_less a.count a.wholes to l.left
          l.entry-index l.invariant c.requires.0 w.if-entry-count.true (omega (arith, w.if-left-i-eq0.false)))
      | else-entry-count w ↦ subst⁻¹ Kept w.left-is (left_same a.count a.wholes to l.left l.entry-index
          l.invariant w.if-entry-count.false)
    ]

pub returns : goal.returns
returns c =
    let a = c.args in
    let l = c.loop-entry in
    let to = at (take a.n a.allotment.now) in
    let e : l.entry-index ≡ a.n = omega (arith, length-take-le a.n a.allotment.now c.requires.1) in
    sym (subst (λ (k : ℕ). every a.count (λ i. leb (times k to i) (at a.wholes i)) ≡ true) e
    (left_end a.count a.wholes to l.left l.entry-index l.invariant)) ∙ plays_front a.count a.n a.wholes a.allotment.now
