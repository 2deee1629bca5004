-- Entries of lists after a store, and how many entries a campaign holds.
use mathlib.Core.Path.{◌≡◌, refl, ap, ◌∙◌}
use mathlib.Core.Bool.{Bool, true, false, cond}
use mathlib.Core.List.{List}
use Prim.Native.Nat.{ℕ, ◌+◌, ◌≤◌, ◌<◌}
use native.Mathlib.Omega.{arith}
use lib.Dec.{eqb, ltb}
use lib.ListN.{length, set, get_or-eq_default, replicate, get_or-replicate, length-replicate}
use lib.Seq.{get_or-set_same, get_or-set_other}
use borrow.Author.Tests.{eqb-false, ne_eqb, ltb-true, ltb-false}
use Rattle.finite.specs.Finite.{one_if, count}
use Rattle.finite.proofs.Sums.{sum_eq, sum_split, sum_term, sum_none, hide}
use Rattle.allotments.specs.Allotment.{at, times}
use Rattle.allotments.proofs.Cases.{one_same}

pub at_same : (l : List ℕ) (j x : ℕ) → j < length l → at (set l j x) j ≡ x
at_same l j x h = get_or-set_same l j x 0 h

pub at_other : (l : List ℕ) (j x i : ℕ) → (i ≡ j → ⊥) → at (set l j x) i ≡ at l i
at_other l j x i ne = get_or-set_other l j i x 0 ne

pub at_past : (l : List ℕ) (i : ℕ) → length l ≤ i → at l i ≡ 0
at_past l i h = get_or-eq_default l 0 h

pub at_zeros : (n d : ℕ) → at (replicate n 0) d ≡ 0
at_zeros n d = go (ltb d n) refl
  where
    go : (b : Bool) → ltb d n ≡ b → at (replicate n 0) d ≡ 0
    go true e = get_or-replicate n d 0 0 (ltb-true d n e)
    go false e = at_past (replicate n 0) d (omega (arith, ltb-false d n e, length-replicate {A = ℕ} n 0))

-- a store moves one entry from its holder to x
pub times_set : (m : ℕ) (l : List ℕ) (j x d : ℕ) → j < m → j < length l
    → times m (at (set l j x)) d + one_if (eqb (at l j) d) ≡ times m (at l) d + one_if (eqb x d)
unfolding times count
times_set m l j x d h k =
    omega (
      arith,
      sum_split m j f' h,
      sum_split m j f h,
      sum_eq m (hide j f') (hide j f) (λ i l'. hidden i (eqb i j)
          refl),
      ap (λ (y : ℕ). one_if (eqb y d)) (at_same l j x k),
    )
  where
    f' : ℕ → ℕ
    f' i = one_if (eqb (at (set l j x) i) d)

    f : ℕ → ℕ
    f i = one_if (eqb (at l i) d)

    hidden : (i : ℕ) (b : Bool) → eqb i j ≡ b → cond b 0 (f' i) ≡ cond b 0 (f i)
    hidden i true e = refl
    hidden i false e = ap (λ (y : ℕ). one_if (eqb y d)) (at_other l j x i (eqb-false i j e))

-- who holds a view is counted
pub holds_some : (m : ℕ) (to : ℕ → ℕ) (j d : ℕ) → j < m → to j ≡ d → 0 < times m to d
unfolding times count
holds_some m to j d h e = omega (arith, sum_term m (λ i. one_if (eqb (to i) d)) j h, one_same (to j) d e)

-- where no view is given nobody holds one
pub holds_none : (m : ℕ) (to : ℕ → ℕ) (d : ℕ) → d < 64 → ((j : ℕ) → j < m → to j ≡ 64) → times m to d ≡ 0
unfolding times count
holds_none m to d l h =
    sum_eq m (λ j. one_if (eqb (to j) d)) (λ j. 0) (λ j k. let q : one_if (eqb (to j) d) ≡ 0 = rw
    (ne_eqb (to j) d (λ e. omega (arith, h j k))) in q) ∙ sum_none m
