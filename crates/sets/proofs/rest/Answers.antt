-- One less turns the least member and the zeros below it, so that both together keep what is above.
use mathlib.Core.Path.{ap, ◌∙◌, sym}
use Prim.Native.Nat.{ℕ}
use native.Mathlib.Omega.{arith}
use Rattle.sets.specs.Set.{next, beyond}
use Rattle.sets.proofs.Walk.{rest_is, rest_none}
use Rattle.sets.proofs.rest.Goals as goal

pub returns-then-set-eq0 : goal.returns-then-set-eq0
returns-then-set-eq0 c = rest_none ∙ sym (ap (λ (x : ℕ). beyond x (next x 0)) c.if-set-eq0.true)

pub overflow_sub-result : goal.overflow_sub-result
overflow_sub-result c = omega (arith, c.if-set-eq0.false)

pub returns : goal.returns
returns c = let s = c.before in rest_is s.args.set s.ranges.set.fits c.if-set-eq0.false
