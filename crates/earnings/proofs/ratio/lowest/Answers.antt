-- Where nothing could be earned 1 to 1, else both divided by their greatest common divisor.
use mathlib.Core.Path.{◌≡◌, ap, ◌∙◌}
use Prim.Native.Nat.{ℕ, ◌/◌}
use borrow.Author.Tests.{eq-eqb, ne_eqb}
use Rattle.earnings.specs.Ratio.{gcd, ratio_of}
use Rattle.earnings.proofs.ratio.lowest.Goals as goal

nothing : (t g : ℕ) → g ≡ 0 → record { numerator = 1; denominator = 1 } ≡ ratio_of t g
nothing t g e = rw (eq-eqb g 0 e)

divided : (t g k : ℕ) → (g ≡ 0 → ⊥) → k ≡ gcd t g → record { numerator = t / k; denominator = g / k } ≡ ratio_of t g
divided t g k n e =
    ap (λ (j : ℕ). record { numerator = t / j; denominator = g / j }) e
    ∙ rw (ne_eqb g 0 n)

pub returns-then-greatest-eq0 : goal.returns-then-greatest-eq0
returns-then-greatest-eq0 c = nothing c.args.takings c.args.greatest c.if-greatest-eq0.true

pub returns : goal.returns
returns c = let a = c.args in
    divided a.takings a.greatest c.gcd-common.result c.if-greatest-eq0.false c.gcd-common.ensures.0
