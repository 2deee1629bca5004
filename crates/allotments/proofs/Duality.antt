-- Weak duality: figures that cover the prices bound the takings of every allotment, so that what the check accepts is
-- greatest; and the test accepts what is certified and nothing else.
use mathlib.Core.Path.{◌≡◌, refl, ap}
use mathlib.Core.Bool.{Bool, true, false, cond}
use Prim.Native.Nat.{ℕ, ◌+◌, ◌*◌, ◌≤◌, ◌<◌}
use native.Mathlib.Nat.{mul-le-mul_left}
use native.Mathlib.Omega.{arith}
use lib.Dec.{leb, ltb}
use borrow.Author.Tests.{eqb-true, eq-eqb, ltb-true, leb-true, le-leb}
use Rattle.finite.specs.Finite.{sum}
use Rattle.finite.proofs.Sums.{sum_le, sum_eq, sum_add}
use Rattle.finite.proofs.Tests.{every_at, every_of, every_eq, all_parts, all_of, never}
use Rattle.sets.specs.Set.{member}
use Rattle.allotments.proofs.Takings.{by_campaign, given_named, entry_given, given_entry}
use Rattle.allotments.specs.Allotment.{times, brings, takings, Allotment, Greatest, figures_sum, Certified}
use Rattle.allotments.specs.Allotment.{entry_fits, covered, tests, certified}

module _ (n : ℕ) (price whole : ℕ → ℕ) (m : ℕ) (view to u v : ℕ → ℕ) where
  -- weak duality: the figures bound every allotment
  pub bounded : n ≤ 64 → ((j : ℕ) → j < m → (c : ℕ) → c < n → member (view j) c ≡ true → price c ≤ u c + v j)
      → (other : ℕ → ℕ) → Allotment n whole m view other
      → takings n price m other ≤ sum n (λ c. u c * whole c) + sum m v
  unfolding takings
  bounded few cov other al =
      omega (
        arith,
        sum_le m (λ j. brings n price (other j)) (λ j. brings n u (other j) + v j) (λ j l. each j l (ltb (other j) n)
            refl),
        sum_add m (λ j. brings n u (other j)) v,
        by_campaign n u m other,
        sum_le n (λ c. u c * times m other c) (λ c. u c * whole c) (λ c l. mul-le-mul_left (u c) (al.bought c l)),
      )
    where
      each : (j : ℕ) → j < m → (b : Bool) → ltb (other j) n ≡ b → cond b (price (other j)) 0 ≤ cond b (u (other j)) 0
          + v j
      each j l true e =
          let q : other j < n = ltb-true (other j) n e in
          cov j l (other j) q (given_named n (view j) (other j) few (al.given j l) q)
      each j l false e = omega arith

  pub certified_greatest : n ≤ 64 → Certified n price whole m view to u v → Greatest n price whole m view to
  certified_greatest few t other al = omega (arith, bounded few t.covers other al, t.equal)

  -- the test accepts what is certified and nothing else
  implied : (b p : Bool) → cond b p true ≡ true → b ≡ true → p ≡ true
  implied true p e q = e
  implied false p e q = absurd (never false refl q)

  implied_of : (b p : Bool) → (b ≡ true → p ≡ true) → cond b p true ≡ true
  implied_of true p h = h refl
  implied_of false p h = refl

  pub test_certified : certified n price whole m view to u v ≡ true → Certified n price whole m view to u v
  unfolding certified
  test_certified e =
      let parts = all_parts (tests n price whole m view to u v) e in
      record {
        allotted = record {
          given = λ j l. entry_given (view j) (to j) (every_at m (λ i. entry_fits (view i) (to i))
              parts.0 j l);
          bought = λ c l. leb-true (times m to c) (whole c)
              (every_at n (λ d. leb (times m to d) (whole d)) parts.1.0 c l);
        };
        covers = λ j l c k q. leb-true (price c) (u c + v j)
            (implied (member (view j) c) (leb (price c) (u c + v j))
            (every_at n (λ d. cond (member (view j) d) (leb (price d) (u d + v j)) true)
            (every_at m (λ i. covered n price u (view i) (v i)) parts.1.1.0 j l) c k) q);
        equal = eqb-true (figures_sum n whole m u v) (takings n price m to) parts.1.1.1.0;
      }

  pub certified_test : Certified n price whole m view to u v → certified n price whole m view to u v ≡ true
  unfolding certified
  certified_test t =
      all_of (tests n price whole m view to u v) (
        every_of m (λ j. entry_fits (view j) (to j)) (λ j l. given_entry (view j) (to j) (t.allotted.given j l)),
        (
          every_of n (λ c. leb (times m to c) (whole c)) (λ c l. le-leb (times m to c) (whole c)
              (t.allotted.bought c l)),
          (
            every_of m (λ j. covered n price u (view j) (v j))
                (λ j l. every_of n (λ c. cond (member (view j) c) (leb (price c) (u c + v j)) true)
                (λ c k. implied_of (member (view j) c) (leb (price c) (u c + v j)) (λ q. le-leb (price c) (u c + v j)
                (t.covers j l c k q)))),
            (eq-eqb (figures_sum n whole m u v) (takings n price m to) t.equal, tt),
          ),
        ),
      )

  pub test_greatest : n ≤ 64 → certified n price whole m view to u v ≡ true → Greatest n price whole m view to
  test_greatest few e = certified_greatest few (test_certified e)

-- figures are what they are at the campaigns and the views
pub certified_same : (n : ℕ) (price whole : ℕ → ℕ) (m : ℕ) (view to u v u' v' : ℕ → ℕ) → Certified n price whole m
    view to u v
    → ((c : ℕ) → c < n → u' c ≡ u c) → ((j : ℕ) → j < m → v' j ≡ v j) → Certified n price whole m view to u' v'
certified_same n price whole m view to u v u' v' t hu hv = record {
  allotted = t.allotted;
  covers = λ j l c k nm. omega (arith, t.covers j l c k nm, hu c k, hv j l);
  equal = omega (
    arith,
    t.equal,
    sum_eq m v' v hv,
    sum_eq n (λ c. u' c * whole c) (λ c. u c * whole c)
        (λ c l. ap (λ (x : ℕ). x * whole c) (hu c l)),
  );
}

-- and whole plays what they are at the campaigns
pub certified_wholes : (n : ℕ) (price w w' : ℕ → ℕ) (m : ℕ) (view to u v : ℕ → ℕ) → ((i : ℕ) → i < n → w i ≡ w' i)
    → certified n price w m view to u v ≡ certified n price w' m view to u v
unfolding certified
certified_wholes n price w w' m view to u v h =
    rw (
      every_eq n (λ i. leb (times m to i) (w i)) (λ i. leb (times m to i) (w' i))
          (λ i l. ap (λ (x : ℕ). leb (times m to i) x) (h i l)),
      sum_eq n (λ i. u i * w i) (λ i. u i * w' i) (λ i l. ap (λ (x : ℕ). u i * x) (h i l)),
    )
