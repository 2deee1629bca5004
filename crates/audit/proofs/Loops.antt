-- What a loop over columns keeps, and what it has found at its end.
use mathlib.Core.Path.{◌≡◌, refl, ap, sym, ◌∙◌}
use mathlib.Core.Bool.{Bool, true, cond, ◌&&◌}
use Prim.Native.Nat.{ℕ, ◌+◌, ◌≤◌, ◌<◌}
use native.Mathlib.Nat.{le_refl}
use native.Mathlib.Omega.{arith}
use lib.Dec.{ltb}
use Rattle.finite.specs.Finite.{every}
use Rattle.finite.proofs.Tests.{every_next, from_start, from_next}

-- b says whether each of the first i passes the test p, of m that are tested
pub record Passed (m : ℕ) (p : ℕ → Bool) (b : Bool) (i : ℕ) : Type 0 where
  pub below : i ≤ m
  pub is : b ≡ every i p

pub none_passed : {m : ℕ} {p : ℕ → Bool} → Passed m p true 0
unfolding every
none_passed = record { below = omega arith; is = refl }

pub next_passed : {m : ℕ} {p : ℕ → Bool} {b d : Bool} {i : ℕ} → Passed m p b i → i < m → d ≡ (b && p i)
    → Passed m p d (i + 1)
next_passed {p = p} {i = i} k l e = record {
  below = omega arith;
  is = e ∙ ap (λ (x : Bool). x && p i) k.is ∙ sym (every_next i p);
}

pub all_passed : {m : ℕ} {p : ℕ → Bool} {b : Bool} {i : ℕ} → Passed m p b i → m ≤ i → b ≡ every m p
all_passed {m} {p} {b} {i} k l = let e : i ≡ m = omega (arith, k.below) in k.is ∙ ap (λ (j : ℕ). every j p) e

-- the same where only those from n on are tested
pub record PassedFrom (n m : ℕ) (p : ℕ → Bool) (b : Bool) (i : ℕ) : Type 0 where
  pub above : n ≤ i
  pub passed : Passed m (λ j. cond (ltb j n) true (p j)) b i

pub none_passed_from : {n m : ℕ} {p : ℕ → Bool} → n ≤ m → PassedFrom n m p true n
none_passed_from {n} {m} {p} h = record { above = le_refl n; passed = record { below = h; is = from_start n p } }

pub next_passed_from : {n m : ℕ} {p : ℕ → Bool} {b d : Bool} {i : ℕ} → PassedFrom n m p b i → i < m
    → d ≡ (b && p i) → PassedFrom n m p d (i + 1)
next_passed_from {n} {m} {p} {b} {d} {i} k l e = record {
  above = omega (arith, k.above);
  passed = record {
    below = omega arith;
    is = e ∙ ap (λ (x : Bool). x && p i) k.passed.is ∙ sym (from_next n i p k.above);
  };
}
