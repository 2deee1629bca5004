-- The takings of what is certified are the greatest, as a number.
use mathlib.Core.Path.{◌≡◌, refl, ap, subst⁻¹}
use mathlib.Core.Logic.{◌⊎◌, inl, inr, ⊎_elim}
use mathlib.Core.Bool.{Bool, true, false, cond, ◌&&◌}
use Prim.Native.Nat.{ℕ, zero, suc, ◌+◌, ◌-◌, ◌*◌, ◌≤◌, ◌<◌, max}
use native.Mathlib.Nat.{le_refl, le_step, not-suc-le-zero, le_antisymm}
use native.Mathlib.Omega.{arith}
use lib.Dec.{ltb, eqb}
use borrow.Author.Tests.{eq-eqb, ne_eqb, ltb-true, lt-ltb}
use Rattle.finite.specs.Finite.{sum, one_if, count}
use Rattle.finite.proofs.Sums.{sum_eq, sum_suc, sum_zero, sum_split, hide}
use Rattle.finite.proofs.Tests.{both_left, both_right}
use Rattle.sets.specs.Set.{member}
use Rattle.allotments.specs.Allotment.{times, brings, takings, Allotment, Certified}
use Rattle.allotments.specs.Most.{greatest, one_less, most}
use Rattle.allotments.proofs.Takings.{given_named}
use Rattle.allotments.proofs.Cases.{same_or_not, one_same}

-- the greatest is at least each, and at most what each is
pub greatest_at : (n : ℕ) (f : ℕ → ℕ) (c : ℕ) → c < n → f c ≤ greatest n f
unfolding greatest
greatest_at zero f c l = absurd (not-suc-le-zero l)
greatest_at (suc n) f c l = go (λ k. greatest_at n f c k) (same_or_not c n)
  where
    go : (c < n → f c ≤ greatest n f) → (c ≡ n) ⊎ (c ≡ n → ⊥) → f c ≤ max (greatest n f) (f n)
    go ih (inl e) = omega (arith, ap f e)
    go ih (inr ne) = omega (arith, ih (omega arith))

pub greatest_below : (n : ℕ) (f : ℕ → ℕ) (b : ℕ) → ((c : ℕ) → c < n → f c ≤ b) → greatest n f ≤ b
unfolding greatest
greatest_below zero f b h = omega arith
greatest_below (suc n) f b h = omega (arith, greatest_below n f b (λ c l. h c (le_step l)), h n (le_refl (suc n)))

-- one play less, in a sum
less_sum : (n : ℕ) (u left : ℕ → ℕ) (c : ℕ) → c < n → 0 < left c → sum n (λ d. u d * one_less left c d) + u c ≡ sum n
    (λ d. u d * left d)
less_sum n u left c l p =
    omega (
      arith,
      sum_split n c g l,
      sum_split n c f l,
      sum_eq n (hide c g) (hide c f) (λ d k. hidden d (eqb d c)
          refl),
      here,
    )
  where
    f : ℕ → ℕ
    f d = u d * left d

    g : ℕ → ℕ
    g d = u d * one_less left c d

    hidden : (d : ℕ) (b : Bool) → eqb d c ≡ b → cond b 0 (g d) ≡ cond b 0 (f d)
    hidden d true e = refl
    hidden d false e = ap (λ (b : Bool). u d * cond b (left d - 1) (left d)) e

    here : g c + u c ≡ f c
    here =
        let q : left c - 1 + 1 ≡ left c = omega arith in
        let r : g c ≡ u c * (left c - 1) = ap (λ (b : Bool). u c * cond b (left c - 1) (left c)) (eq-eqb c c refl) in
        omega (arith, r, ap (λ (x : ℕ). u c * x) q)

module _ (n : ℕ) (price : ℕ → ℕ) (view : ℕ → ℕ) where
  -- figures bound it
  most_figured : (u v : ℕ → ℕ) (m : ℕ) (left : ℕ → ℕ) → ((j : ℕ) → j < m → (c : ℕ) → c < n → member (view j) c ≡ true
      → price c ≤ u c + v j)
      → most n price left m view ≤ sum n (λ c. u c * left c) + sum m v
  unfolding most
  most_figured u v zero left h = omega arith
  most_figured u v (suc m) left h =
      let ih : (l : ℕ → ℕ) → most n price l m view ≤ sum n (λ c. u c * l c) + sum m v = λ l. most_figured u v m l
      (λ j k. h j (le_step k)) in
      omega (
        arith,
        ih left,
        sum_suc m v,
        greatest_below n (λ c. cond (member (view m) c && ltb 0 (left c)) (price c + most n price (one_less left c) m
            view) 0) (sum n (λ c. u c * left c) + sum (suc m) v)
            (λ c l. each c l (ih (one_less left c)) (member (view m) c && ltb 0 (left c)) refl),
      )
    where
      each : (c : ℕ) → c < n → most n price (one_less left c) m view ≤ sum n (λ d. u d * one_less left c d) + sum m v
          → (b : Bool) → (member (view m) c && ltb 0 (left c)) ≡ b
          → cond b (price c + most n price (one_less left c) m view) 0 ≤ sum n (λ d. u d * left d) + sum (suc m) v
      each c l ih true e =
          omega (
            arith,
            ih,
            sum_suc m v,
            h m (le_refl (suc m)) c l (both_left (member (view m) c) (ltb 0 (left c)) e),
            less_sum n u left c l (ltb-true 0 (left c) (both_right (member (view m) c) (ltb 0 (left c)) e)),
          )
      each c l ih false e = omega arith

  -- no allotment takes more
  pub allotted_most : n ≤ 64 → (m : ℕ) (left to : ℕ → ℕ) → Allotment n left m view to → takings n price m to ≤ most n
      price left m view
  unfolding most takings times count
  allotted_most few zero left to al = omega (arith, sum_zero (λ j. brings n price (to j)))
  allotted_most few (suc m) left to al = go (allotted_most few m) (ltb (to m) n) refl
    where
      grows : (d : ℕ) → times (suc m) to d ≡ times m to d + one_if (eqb (to m) d)
      grows d = sum_suc m (λ j. one_if (eqb (to j) d))

      go : ((l t : ℕ → ℕ) → Allotment n l m view t → sum m (λ j. brings n price (t j)) ≤ most n price l m view)
          → (b : Bool) → ltb (to m) n ≡ b
          → sum (suc m) (λ j. brings n price (to j))
          ≤ max (most n price left m view) (greatest n (λ c. cond (member (view m) c && ltb 0 (left c))
          (price c + most n price (one_less left c) m view) 0))
      go ih true e =
          let c = to m in
          let l : c < n = ltb-true c n e in
          let nm : member (view m) c ≡ true = given_named n (view m) c few (al.given m (le_refl (suc m))) l in
          let held : times m to c + 1 ≤ left c = omega (arith, al.bought c l, grows c, one_same c c refl) in
          let rest : Allotment n (one_less left c) m view to = record {
            given = λ j k. al.given j (le_step k);
            bought = λ d k. ⊎_elim
                (λ (q : d ≡ c). subst⁻¹ (λ (x : ℕ). times m to x ≤ one_less left c x) q
                (subst⁻¹ (λ (b : Bool). times m to c ≤ cond b (left c - 1) (left c)) (eq-eqb c c refl)
                (omega arith)))
                (λ (ne : d ≡ c → ⊥). subst⁻¹ (λ (b : Bool). times m to d ≤ cond b (left d - 1) (left d))
                (ne_eqb d c ne) (omega (arith, al.bought d k, grows d)))
                (same_or_not d c);
          } in
          let here : (member (view m) c && ltb 0 (left c)) ≡ true = rw (nm, lt-ltb 0 (left c) (omega arith)) in
          let at_c : cond (member (view m) c && ltb 0 (left c)) (price c + most n price (one_less left c) m view) 0 ≡
          price c + most n price (one_less left c) m view = rw here in
          let p : brings n price c ≡ price c = rw e in
          omega (
            arith,
            sum_suc m (λ j. brings n price (to j)),
            ih (one_less left c) to rest,
            p,
            at_c,
            greatest_at n (λ d. cond (member (view m) d && ltb 0 (left d)) (price d + most n price (one_less left d) m
                view) 0) c l,
          )
      go ih false e =
          let rest : Allotment n left m view to = record {
            given = λ j k. al.given j (le_step k);
            bought = λ d k.
                omega (arith, al.bought d k, grows d);
          } in
          let p : brings n price (to m) ≡ 0 = rw e in
          omega (arith, sum_suc m (λ j. brings n price (to j)), ih left to rest, p)

  -- so the takings of what is certified are it
  pub certified_most : n ≤ 64 → (whole : ℕ → ℕ) (m : ℕ) (to u v : ℕ → ℕ) → Certified n price whole m view to u v
      → takings n price m to ≡ most n price whole m view
  certified_most few whole m to u v t = le_antisymm (allotted_most few m whole to t.allotted)
      (omega (arith, most_figured u v m whole t.covers, t.equal))
