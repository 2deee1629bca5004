-- Each width's row of tests is computed and compared.
use mathlib.Core.Path.{◌≡◌, refl, sym, subst}
use mathlib.Core.Bool.{Bool, true, false, cond, not}
use Prim.Native.Nat.{ℕ, zero, suc, ◌^◌, ◌≤◌, zero-le}
use native.Mathlib.Omega.{arith}
use lib.Dec.{leb}
use Rattle.finite.specs.Finite.{every}
use Rattle.finite.proofs.Tests.{never, every_at}
use Rattle.powers.specs.Power.{Deepest}
use Rattle.powers.proofs.deepest.Goals as goal

abbrev same : Bool → Bool → Bool
same a b = cond a b (not b)

same_is : (a b : Bool) → same a b ≡ true → a ≡ b
same_is true true e = refl
same_is true false e = absurd (never false refl e)
same_is false true e = absurd (never false refl e)
same_is false false e = refl

-- the row of a width, by computing
row : (w r : ℕ) → every 33 (λ k. same (leb k r) (leb (w ^ k) 4_294_967_296)) ≡ true → {v : ℕ} → v ≡ w → Deepest v r
row w r e q = subst (λ x. Deepest x r) (sym q)
    (λ k h. same_is (leb k r) (leb (w ^ k) 4_294_967_296)
    (every_at 33 (λ k. same (leb k r) (leb (w ^ k) 4_294_967_296)) e k (omega arith)))

pub returns-in-0 : goal.returns-in-0
unfolding every
returns-in-0 c = (λ h. row 0 32 refl c.in-0.is, omega arith)

pub returns-in-1 : goal.returns-in-1
unfolding every
returns-in-1 c = (λ h. row 1 32 refl c.in-1.is, omega arith)

pub returns-in-2 : goal.returns-in-2
unfolding every
returns-in-2 c = (λ h. row 2 32 refl c.in-2.is, omega arith)

pub returns-in-3 : goal.returns-in-3
unfolding every
returns-in-3 c = (λ h. row 3 20 refl c.in-3.is, omega arith)

pub returns-in-4 : goal.returns-in-4
unfolding every
returns-in-4 c = (λ h. row 4 16 refl c.in-4.is, omega arith)

pub returns-in-5 : goal.returns-in-5
unfolding every
returns-in-5 c = (λ h. row 5 13 refl c.in-5.is, omega arith)

pub returns-in-6 : goal.returns-in-6
unfolding every
returns-in-6 c = (λ h. row 6 12 refl c.in-6.is, omega arith)

pub returns-in-7 : goal.returns-in-7
unfolding every
returns-in-7 c = (λ h. row 7 11 refl c.in-7.is, omega arith)

pub returns-in-8 : goal.returns-in-8
unfolding every
returns-in-8 c = (λ h. row 8 10 refl c.in-8.is, omega arith)

pub returns-in-9 : goal.returns-in-9
unfolding every
returns-in-9 c = (λ h. row 9 10 refl c.in-9.is, omega arith)

pub returns-in-10 : goal.returns-in-10
unfolding every
returns-in-10 c = (λ h. row 10 9 refl c.in-10.is, omega arith)

pub returns-in-11 : goal.returns-in-11
unfolding every
returns-in-11 c = (λ h. row 11 9 refl c.in-11.is, omega arith)

pub returns-in-12 : goal.returns-in-12
unfolding every
returns-in-12 c = (λ h. row 12 8 refl c.in-12.is, omega arith)

pub returns-in-13 : goal.returns-in-13
unfolding every
returns-in-13 c = (λ h. row 13 8 refl c.in-13.is, omega arith)

pub returns-in-14 : goal.returns-in-14
unfolding every
returns-in-14 c = (λ h. row 14 8 refl c.in-14.is, omega arith)

pub returns-in-15 : goal.returns-in-15
unfolding every
returns-in-15 c = (λ h. row 15 8 refl c.in-15.is, omega arith)

pub returns-in_default : goal.returns-in_default
unfolding every
returns-in_default c =
    let l : 16 ≤ c.args.width = omega arith in
    (λ h. row 16 8 refl (omega arith), omega arith)
