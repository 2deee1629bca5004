-- The greatest common divisor, as it is defined and as Euclid's loop finds it: a turn keeps the common divisors, and at
-- the end they are the divisors of one number. Divided by it, a ratio is in lowest terms.
use mathlib.Core.Path.{◌≡◌, refl, ap, subst⁻¹, subst}
use mathlib.Core.Bool.{Bool, true, false, cond, ◌&&◌}
use Prim.Native.Nat.{ℕ, zero, suc, ◌+◌, ◌*◌, ◌/◌, ◌%◌, ◌∣◌, ◌≤◌, ◌<◌}
use native.Mathlib.Nat.{dvd_refl, dvd-zero, dvd-mod_iff, le_of_dvd, mod-eq-zero_of_dvd, dvd_of_mod-eq-zero, one-dvd}
use native.Mathlib.Nat.{mul-div_cancel', mul-dvd-mul_left, mul-le-mul_left}
use native.Mathlib.Omega.{arith}
use lib.Dec.{eqb, leb}
use borrow.Author.Tests.{eqb-true, eq-eqb, ne_eqb, leb-true, leb-false}
use Rattle.finite.proofs.Tests.{both_left, both_right, both_join, never}
use Rattle.earnings.specs.Ratio.{common_up_to, gcd, InLowestTerms}

-- k divides both
abbrev pub Common : (k a b : ℕ) → Type 0
Common k a b = (k ∣ a) × (k ∣ b)

common_of : (k a b : ℕ) → (eqb (a % k) 0 && eqb (b % k) 0) ≡ true → Common k a b
common_of k a b e =
    let p = eqb (a % k) 0 in
    let q = eqb (b % k) 0 in (
      dvd_of_mod-eq-zero k (eqb-true (a % k) 0 (both_left p q e)),
      dvd_of_mod-eq-zero k (eqb-true (b % k) 0 (both_right p q e)),
    )

common_test : (k a b : ℕ) → Common k a b → (eqb (a % k) 0 && eqb (b % k) 0) ≡ true
common_test k a b d =
    both_join (eqb (a % k) 0) (eqb (b % k) 0) (eq-eqb (a % k) 0 (mod-eq-zero_of_dvd k d.0))
    (eq-eqb (b % k) 0 (mod-eq-zero_of_dvd k d.1))

-- x is the greatest up to k that divides a and b
pub record GreatestUpTo (k a b x : ℕ) : Type 0 where
  pub some : 0 < x
  pub divides : Common x a b
  pub most : (j : ℕ) → j ≤ k → Common j a b → j ≤ x

pub up_to : (k a b : ℕ) → GreatestUpTo k a b (common_up_to k a b)
unfolding common_up_to
up_to zero a b = record { some = omega arith; divides = (one-dvd a, one-dvd b); most = λ j l d. omega arith }
up_to (suc k) a b = go (eqb (a % suc k) 0 && eqb (b % suc k) 0) refl (up_to k a b)
  where
    go : (t : Bool) → (eqb (a % suc k) 0 && eqb (b % suc k) 0) ≡ t → GreatestUpTo k a b (common_up_to k a b)
        → GreatestUpTo (suc k) a b (cond t (suc k) (common_up_to k a b))
    go true e g = record { some = omega arith; divides = common_of (suc k) a b e; most = λ j l d. l }
    go false e g = record {
      some = g.some;
      divides = g.divides;
      most = λ j l d.
          let other : j ≡ suc k → ⊥ = λ z. never (eqb (a % suc k) 0 && eqb (b % suc k) 0) e
          (common_test (suc k) a b (subst (λ (i : ℕ). Common i a b) z d)) in
          g.most j (omega (arith, other)) d;
    }

-- Euclid's loop: what divides x and y is what divides a and b.
pub record Euclid (a b x y : ℕ) : Type 0 where
  pub some : 0 < x + y
  pub into : (k : ℕ) → Common k x y → Common k a b
  pub back : (k : ℕ) → Common k a b → Common k x y

pub euclid_begins : (a b : ℕ) → 0 < b → Euclid a b a b
euclid_begins a b h = record { some = omega arith; into = λ k d. d; back = λ k d. d }

pub euclid_turn : (a b x y : ℕ) → (y ≡ 0 → ⊥) → Euclid a b x y → Euclid a b y (x % y)
euclid_turn a b x y h e = record {
  some = omega arith;
  into = λ k d. e.into k ((dvd-mod_iff k {m = x} {n = y} d.0).0 d.1, d.0);
  back = λ k d. let f = e.back k d in (f.1, (dvd-mod_iff k {m = x} {n = y} f.1).1 f.0);
}

pub euclid_ends : (a b x y : ℕ) → 0 < b → y ≡ 0 → Euclid a b x y → (x ≡ gcd a b) × (0 < x)
euclid_ends a b x y h z e =
    let d : Common x a b = e.into x (dvd_refl x, subst⁻¹ (λ (i : ℕ). x ∣ i) z (dvd-zero x)) in
    let g = up_to b a b in
    let some : 0 < x = omega (arith, e.some) in
    let above : gcd a b ≤ x = le_of_dvd some (e.back (gcd a b) g.divides).0 in
    (omega (arith, above, g.most x (le_of_dvd h d.1) d), some)

-- In lowest terms.

module _ (t g : ℕ) (h : 0 < g) where
  abbrev d : ℕ
  d = gcd t g

  whole_over : d * (t / d) ≡ t
  whole_over = mul-div_cancel' d (up_to g t g).divides.0

  whole_under : d * (g / d) ≡ g
  whole_under = mul-div_cancel' d (up_to g t g).divides.1

  same_ratio : t / d * g ≡ t * (g / d)
  same_ratio =
      omega (
        arith,
        ap (λ (x : ℕ). t / d * x) whole_under,
        ap (λ (x : ℕ). x * (g / d)) whole_over,
      )

  -- what divides both parts makes a greater common divisor
  none_divides : (k : ℕ) → t / d % k ≡ 0 → g / d % k ≡ 0 → k ≤ 1
  none_divides k p q = go (leb k 1) refl
    where
      go : (b : Bool) → leb k 1 ≡ b → k ≤ 1
      go true e = leb-true k 1 e
      go false e =
          let over : d * k ∣ t =
          subst (λ (x : ℕ). d * k ∣ x) whole_over (mul-dvd-mul_left k d (dvd_of_mod-eq-zero k p)) in
          let under : d * k ∣ g =
          subst (λ (x : ℕ). d * k ∣ x) whole_under (mul-dvd-mul_left k d (dvd_of_mod-eq-zero k q)) in
          let u = up_to g t g in
          let above : 2 ≤ k = leb-false k 1 e in
          absurd (omega (arith, u.some, u.most (d * k) (le_of_dvd h under) (over, under), mul-le-mul_left d above))

pub in_lowest_terms : InLowestTerms
in_lowest_terms t g h =
    let n = ne_eqb g 0 (λ (e : g ≡ 0). omega arith) in
    record { same = rw n (same_ratio t g h); none_divides = rw n (none_divides t g h) }
