-- Two to the power n, less one, has the members below n.
use mathlib.Core.Path.{◌≡◌, ap, sym, ◌∙◌}
use Prim.Native.Nat.{ℕ, ◌-◌, ◌*◌, ◌%◌, ◌^◌, ◌<◌}
use native.Mathlib.Nat.{mod-eq_of_lt, one-mul}
use native.Mathlib.Omega.{arith}
use lib.Pow.{pow-lt, pow_pos}
use Rattle.matching.proofs.Choosing.{everyone_of}
use Rattle.matching.proofs.everyone.Goals as goal

shifted : (n : ℕ) → n < 64 → 1 * 2 ^ n % 2 ^ 64 ≡ 2 ^ n
shifted n h = ap (λ (x : ℕ). x % 2 ^ 64) (one-mul (2 ^ n)) ∙ mod-eq_of_lt (pow-lt h)

pub returns-then-count-eq64 : goal.returns-then-count-eq64
returns-then-count-eq64 c =
    everyone_of c.args.count 18446744073709551615 (sym (ap (λ (x : ℕ). 2 ^ x) c.if-count-eq64.true))

below : (c : goal.Else-count-eq64) → c.args.count < 64
below c = omega (arith, c.requires, c.if-count-eq64.false)

pub overflow_sub-result : goal.overflow_sub-result
overflow_sub-result c =
    let n = c.args.count in
    omega (arith, shifted n (below c), pow_pos n)

pub returns-else-count-eq64 : goal.returns-else-count-eq64
returns-else-count-eq64 c =
    let n = c.args.count in
    everyone_of n (1 * 2 ^ n % 2 ^ 64 - 1) (omega (arith, shifted n (below c), pow_pos n))
