-- What tests mean: each passes exactly if its proposition holds. Comparisons, both of two tests, a test of every index.
use mathlib.Core.Path.{◌≡◌}
use mathlib.Core.Bool.{Bool, true, ◌&&◌}
use mathlib.Core.Logic.{◌↔◌}
use Prim.Native.Nat.{ℕ, ◌≤◌, ◌<◌}
use lib.Dec.{leb, ltb, eqb}
use borrow.Author.Tests.{leb-true, le-leb, ltb-true, lt-ltb, eqb-true, eq-eqb}
use Rattle.finite.specs.Finite.{every}
use Rattle.finite.proofs.Tests.{both_left, both_right, both_join, every_at, every_of}

pub leb_means : (x y : ℕ) → (leb x y ≡ true) ↔ (x ≤ y)
leb_means x y = (leb-true x y, le-leb x y)

pub ltb_means : (x y : ℕ) → (ltb x y ≡ true) ↔ (x < y)
ltb_means x y = (ltb-true x y, lt-ltb x y)

pub eqb_means : (x y : ℕ) → (eqb x y ≡ true) ↔ (x ≡ y)
eqb_means x y = (eqb-true x y, eq-eqb x y)

pub both_means : {a b : Bool} {P Q : Type 0} → ((a ≡ true) ↔ P) → ((b ≡ true) ↔ Q) → ((a && b) ≡ true) ↔ (P × Q)
both_means {a} {b} f g = (
  λ e. (f.0 (both_left a b e), g.0 (both_right a b e)),
  λ p. both_join a b (f.1 p.0) (g.1 p.1),
)

pub every_means : (n : ℕ) (p : ℕ → Bool) (P : ℕ → Type 0) → ((i : ℕ) → i < n → (p i ≡ true) ↔ P i)
    → (every n p ≡ true) ↔ ((i : ℕ) → i < n → P i)
every_means n p P h = (
  λ e i l. (h i l).0 (every_at n p e i l),
  λ f. every_of n p (λ i l. (h i l).1 (f i l)),
)
