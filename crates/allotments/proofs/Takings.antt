-- The takings of an allotment, summed over the views, are price × how often it is given one, summed over the campaigns;
-- and what an entry of an allotment is.
use mathlib.Core.Path.{◌≡◌, refl, ap, sym, ◌∙◌}
use mathlib.Core.Bool.{Bool, true, false, cond, ◌||◌}
use mathlib.Core.Logic.{◌⊎◌, inl, inr}
use Prim.Native.Nat.{ℕ, zero, suc, ◌+◌, ◌*◌, ◌≤◌, ◌<◌}
use native.Mathlib.Omega.{arith}
use lib.Dec.{ltb, eqb}
use borrow.Author.Tests.{eqb-true, eqb-false, eq-eqb, ne_eqb, ltb-true, ltb-false}
use Rattle.finite.specs.Finite.{sum, one_if, count}
use Rattle.finite.proofs.Sums.{sum_eq, sum_add, sum_none, sum_split, sum_suc, sum_zero, hide}
use Rattle.sets.specs.Set.{member}
use Rattle.allotments.specs.Allotment.{times, brings, takings, entry_fits}

-- g at a, picked out of a sum
one_term : (n : ℕ) (g : ℕ → ℕ) (a : ℕ) → sum n (λ i. g i * one_if (eqb a i)) ≡ cond (ltb a n) (g a) 0
one_term n g a = go (ltb a n) refl
  where
    h : ℕ → ℕ
    h i = g i * one_if (eqb a i)

    away : (i : ℕ) → (i ≡ a → ⊥) → h i ≡ 0
    away i ne = let q : one_if (eqb a i) ≡ 0 = rw (ne_eqb a i (λ e. ne (sym e))) in omega (arith, ap (λ x. g i * x) q)

    here : h a ≡ g a
    here = let q : one_if (eqb a a) ≡ 1 = rw (eq-eqb a a refl) in omega (arith, ap (λ x. g a * x) q)

    hidden : (i : ℕ) (b : Bool) → eqb i a ≡ b → cond b 0 (h i) ≡ 0
    hidden i true e = refl
    hidden i false e = away i (eqb-false i a e)

    go : (b : Bool) → ltb a n ≡ b → sum n h ≡ cond b (g a) 0
    go true e = omega (
      arith,
      sum_split n a h (ltb-true a n e),
      sum_eq n (hide a h) (λ i. 0)
          (λ i l. hidden i (eqb i a) refl),
      sum_none n,
      here,
    )
    go false e =
        let past : n ≤ a = ltb-false a n e in
        omega (arith, sum_eq n h (λ i. 0) (λ i l. away i (λ q. omega arith)), sum_none n)

-- the sum over the views is the sum over the campaigns
pub by_campaign : (n : ℕ) (price : ℕ → ℕ) (m : ℕ) (to : ℕ → ℕ) → takings n price m to ≡ sum n (λ i. price i * times m
    to i)
unfolding takings times count
by_campaign n price zero to =
    sum_zero (λ j. brings n price (to j)) ∙
    sym (sum_eq n (λ i. price i * sum 0 (λ j. one_if (eqb (to j) i))) (λ i. 0)
    (λ i l. omega (arith, ap (λ x. price i * x) (sum_zero (λ j. one_if (eqb (to j) i))))) ∙ sum_none n)
by_campaign n price (suc m) to =
    omega (
      arith,
      by_campaign n price m to,
      one_term n price (to m),
      sum_suc m (λ j. brings n price (to j)),
      sum_add n (λ i. price i * sum m (λ j. one_if (eqb (to j) i))) (λ i. price i * one_if (eqb (to m) i)),
      sum_eq n (λ i. price i * sum (suc m) (λ j. one_if (eqb (to j) i))) (λ i. price i * sum m
          (λ j. one_if (eqb (to j) i)) + price i * one_if (eqb (to m) i))
          (λ i l. omega (arith, ap (λ x. price i * x) (sum_suc m (λ j. one_if (eqb (to j) i))))),
    )

-- takings are known by the prices of the n campaigns, and add up
pub takings_eq : (n : ℕ) (f g : ℕ → ℕ) (m : ℕ) (to : ℕ → ℕ) → ((i : ℕ) → i < n → f i ≡ g i) → takings n f m to ≡
    takings n g m to
unfolding takings
takings_eq n f g m to h = sum_eq m (λ j. brings n f (to j)) (λ j. brings n g (to j)) (λ j l. go (to j) (ltb (to j) n)
    refl)
  where
    go : (i : ℕ) (b : Bool) → ltb i n ≡ b → cond b (f i) 0 ≡ cond b (g i) 0
    go i true e = h i (ltb-true i n e)
    go i false e = refl

pub takings_add : (n : ℕ) (f g : ℕ → ℕ) (m : ℕ) (to : ℕ → ℕ) → takings n (λ i. f i + g i) m to ≡ takings n f m to +
    takings n g m to
unfolding takings
takings_add n f g m to =
    sum_eq m (λ j. brings n (λ i. f i + g i) (to j)) (λ j. brings n f (to j) + brings n g (to j))
    (λ j l. go (to j) (ltb (to j) n)) ∙ sum_add m (λ j. brings n f (to j)) (λ j. brings n g (to j))
  where
    go : (i : ℕ) (b : Bool) → cond b (f i + g i) 0 ≡ cond b (f i) 0 + cond b (g i) 0
    go i true = refl
    go i false = refl

-- an entry of an allotment that is a campaign is named by the view
pub given_named : (n v a : ℕ) → n ≤ 64 → (a ≡ 64) ⊎ (member v a ≡ true) → a < n → member v a ≡ true
given_named n v a h (inl e) l = absurd (omega arith)
given_named n v a h (inr e) l = e

pub entry_given : (v a : ℕ) → entry_fits v a ≡ true → (a ≡ 64) ⊎ (member v a ≡ true)
entry_given v a e = go (eqb a 64) refl
  where
    go : (b : Bool) → eqb a 64 ≡ b → (a ≡ 64) ⊎ (member v a ≡ true)
    go true q = inl (eqb-true a 64 q)
    go false q = inr (sym (ap (λ (b : Bool). b || member v a) q) ∙ e)

pub given_entry : (v a : ℕ) → (a ≡ 64) ⊎ (member v a ≡ true) → entry_fits v a ≡ true
given_entry v a (inl e) = ap (λ (b : Bool). b || member v a) (eq-eqb a 64 e)
given_entry v a (inr e) = either (eqb a 64) (member v a) e
  where
    either : (a b : Bool) → b ≡ true → (a || b) ≡ true
    either true b e = refl
    either false b e = e
