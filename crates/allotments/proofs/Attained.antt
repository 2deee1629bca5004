-- Some allotment takes the most: the last view goes to nobody, or to the campaign that is the greatest choice for it.
use mathlib.Core.Path.{◌≡◌, refl, ap, sym, subst, subst⁻¹}
use mathlib.Core.Logic.{◌⊎◌, inl, inr, ⊎_elim}
use mathlib.Core.Bool.{Bool, true, false, cond, ◌&&◌}
use Prim.Native.Nat.{ℕ, zero, suc, ◌+◌, ◌-◌, ◌≤◌, ◌<◌, max}
use native.Mathlib.Nat.{le_refl, le_step, not-suc-le-zero}
use native.Mathlib.Omega.{arith}
use lib.Dec.{leb, ltb, eqb}
use borrow.Author.Tests.{eq-eqb, ne_eqb, leb-true, leb-false, ltb-true, le-ltb, lt-ltb}
use Rattle.finite.specs.Finite.{one_if, count}
use Rattle.finite.proofs.Sums.{sum_eq, sum_suc, sum_zero}
use Rattle.finite.proofs.Tests.{both_left, both_right}
use Rattle.sets.specs.Set.{member}
use Rattle.allotments.specs.Allotment.{times, brings, takings}
use Rattle.allotments.specs.Most.{greatest, one_less, most, Takes, MostIsMost}
use Rattle.allotments.proofs.Most.{allotted_most}
use Rattle.allotments.proofs.Cases.{same_or_not, one_same, one_other}

-- x is f at some index below n
record Reached (n : ℕ) (f : ℕ → ℕ) (x : ℕ) : Type 0 where
  place : ℕ
  below : place < n
  is : x ≡ f place

-- the greatest is 0 or reached
some_greatest : (n : ℕ) (f : ℕ → ℕ) → (greatest n f ≡ 0) ⊎ Reached n f (greatest n f)
unfolding greatest
some_greatest zero f = inl refl
some_greatest (suc n) f = go (some_greatest n f) (leb (greatest n f) (f n)) refl
  where
    g : ℕ
    g = greatest n f

    go : (g ≡ 0) ⊎ Reached n f g → (b : Bool) → leb g (f n) ≡ b → (max g (f n) ≡ 0) ⊎ Reached (suc n) f (max g (f n))
    go ih true e = inr (record { place = n; below = le_refl (suc n); is = omega (arith, leb-true g (f n) e) })
    go (inl z) false e = inl (omega (arith, leb-false g (f n) e))
    go (inr r) false e =
        inr (record { place = r.place; below = le_step r.below; is = omega (arith, leb-false g (f n) e, r.is) })

-- an allotment of m views with the next given to c
next_to : (m c : ℕ) (to : ℕ → ℕ) → ℕ → ℕ
next_to m c to j = cond (eqb j m) c (to j)

module _ (m c : ℕ) (to : ℕ → ℕ) where
  at_next : next_to m c to m ≡ c
  unfolding next_to
  at_next = rw (eq-eqb m m refl)

  before_next : (j : ℕ) → (j ≡ m → ⊥) → next_to m c to j ≡ to j
  unfolding next_to
  before_next j ne = rw (ne_eqb j m ne)

  next_times : (d : ℕ) → times (suc m) (next_to m c to) d ≡ times m to d + one_if (eqb c d)
  unfolding times count
  next_times d =
      let f : ℕ → ℕ = λ j. one_if (eqb (next_to m c to j) d) in
      omega (
        arith,
        sum_suc m f,
        ap (λ (x : ℕ). one_if (eqb x d)) at_next,
        sum_eq m f (λ j. one_if (eqb (to j) d)) (λ j l. ap (λ (x : ℕ). one_if (eqb x d)) (before_next j
            (λ (e : j ≡ m). omega arith))),
      )

  next_takings : (n : ℕ) (price : ℕ → ℕ) → takings n price (suc m) (next_to m c to) ≡ takings n price m to + brings n
      price c
  unfolding takings
  next_takings n price =
      let f : ℕ → ℕ = λ j. brings n price (next_to m c to j) in
      omega (
        arith,
        sum_suc m f,
        ap (brings n price) at_next,
        sum_eq m f (λ j. brings n price (to j)) (λ j l. ap (brings n price) (before_next j
            (λ (e : j ≡ m). omega arith))),
      )

  -- the next view may be given to c where it names c, or c is nobody
  next_given : (view : ℕ → ℕ) → ((j : ℕ) → j < m → (to j ≡ 64) ⊎ (member (view j) (to j) ≡ true))
      → (c ≡ 64) ⊎ (member (view m) c ≡ true) → (j : ℕ) → j < suc m
      → (next_to m c to j ≡ 64) ⊎ (member (view j) (next_to m c to j) ≡ true)
  next_given view given last j l = ⊎_elim
      (λ (e : j ≡ m). subst⁻¹ (λ (k : ℕ). (next_to m c to k ≡ 64) ⊎ (member (view k) (next_to m c to k) ≡ true)) e
      (subst⁻¹ (λ (x : ℕ). (x ≡ 64) ⊎ (member (view m) x ≡ true)) at_next last))
      (λ (ne : j ≡ m → ⊥). subst⁻¹ (λ (x : ℕ). (x ≡ 64) ⊎ (member (view j) x ≡ true)) (before_next j ne)
      (given j (omega arith)))
      (same_or_not j m)

module _ (n : ℕ) (price : ℕ → ℕ) (view : ℕ → ℕ) (few : n ≤ 64) where
  -- the next view goes to nobody
  to_nobody : (m : ℕ) (left : ℕ → ℕ) (x : ℕ) → Takes n price left m view x → Takes n price left (suc m) view x
  to_nobody m left x t = record {
    to = next_to m 64 t.to;
    allotted = record {
      given = next_given m 64 t.to view t.allotted.given (inl refl);
      bought = λ d l. omega (
        arith,
        next_times m 64 t.to d,
        one_other 64 d (λ (e : 64 ≡ d). omega arith),
        t.allotted.bought d l,
      );
    };
    takes =
        let none : brings n price 64 ≡ 0 = rw (le-ltb 64 n few) in
        omega (arith, next_takings m 64 t.to n price, none, t.takes);
  }

  -- or to a campaign that it names and that has plays left
  to_named : (m : ℕ) (left : ℕ → ℕ) (c x : ℕ) → c < n → member (view m) c ≡ true → 0 < left c
      → Takes n price (one_less left c) m view x → Takes n price left (suc m) view (price c + x)
  to_named m left c x l named some t = record {
    to = next_to m c t.to;
    allotted = record {
      given = next_given m c t.to view t.allotted.given (inr named);
      bought = λ d k. ⊎_elim
          (λ (e : d ≡ c).
          let one : one_less left c d ≡ left d - 1 = rw (eq-eqb d c e) in
          omega (
            arith,
            next_times m c t.to d,
            one_same c d (sym e),
            t.allotted.bought d k,
            one,
            ap left e,
          ))
          (λ (ne : d ≡ c → ⊥).
          let none : one_less left c d ≡ left d = rw (ne_eqb d c ne) in
          omega (
            arith,
            next_times m c t.to d,
            one_other c d (λ (e : c ≡ d). ne (sym e)),
            t.allotted.bought d k,
            none,
          ))
          (same_or_not d c);
    };
    takes =
        let p : brings n price c ≡ price c = rw (lt-ltb c n l) in
        omega (arith, next_takings m c t.to n price, p, t.takes);
  }

  attained : (m : ℕ) (left : ℕ → ℕ) → Takes n price left m view (most n price left m view)
  unfolding most takings times count
  attained zero left = record {
    to = λ j. 64;
    allotted = record {
      given = λ j l. absurd (not-suc-le-zero l);
      bought = λ i l. omega (arith, sum_zero (λ j. one_if (eqb 64 i)));
    };
    takes = sum_zero (λ j. brings n price 64);
  }
  attained (suc m) left = go (attained m) (some_greatest n choice) (leb (greatest n choice) past) refl
    where
      choice : ℕ → ℕ
      choice c = cond (member (view m) c && ltb 0 (left c)) (price c + most n price (one_less left c) m view) 0

      past : ℕ
      past = most n price left m view

      last : ((l : ℕ → ℕ) → Takes n price l m view (most n price l m view)) → (c : ℕ) → c < n → (b : Bool)
          → (member (view m) c && ltb 0 (left c)) ≡ b
          → past < cond b (price c + most n price (one_less left c) m view) 0
          → Takes n price left (suc m) view (cond b (price c + most n price (one_less left c) m view) 0)
      last ih c l true e more =
          to_named m left c (most n price (one_less left c) m view) l
          (both_left (member (view m) c) (ltb 0 (left c)) e)
          (ltb-true 0 (left c) (both_right (member (view m) c) (ltb 0 (left c)) e)) (ih (one_less left c))
      last ih c l false e more = absurd (not-suc-le-zero more)

      go : ((l : ℕ → ℕ) → Takes n price l m view (most n price l m view))
          → (greatest n choice ≡ 0) ⊎ Reached n choice (greatest n choice)
          → (b : Bool) → leb (greatest n choice) past ≡ b
          → Takes n price left (suc m) view (max past (greatest n choice))
      go ih r true e =
          let same : past ≡ max past (greatest n choice) = omega (arith, leb-true (greatest n choice) past e) in
          subst (Takes n price left (suc m) view) same (to_nobody m left past (ih left))
      go ih (inl z) false e = absurd (omega (arith, leb-false (greatest n choice) past e))
      go ih (inr r) false e =
          let more : past < greatest n choice = leb-false (greatest n choice) past e in
          let same : choice r.place ≡ max past (greatest n choice) = omega (arith, r.is) in
          subst (Takes n price left (suc m) view) same
          (last ih r.place r.below (member (view m) r.place && ltb 0 (left r.place)) refl
          (omega (arith, r.is)))

pub most_is_most : MostIsMost
most_is_most n price whole m view few = record {
  taken = attained n price view few m whole;
  no_more = allotted_most n price view few m whole;
}
