-- A set whose members are all below n: by the members, by the next one from n on, and of a part of it.
use mathlib.Core.Path.{◌≡◌, refl, ap, sym, ◌∙◌}
use mathlib.Core.Bool.{Bool, true, false, cond, not}
use mathlib.Core.Logic.{◌↔◌}
use Prim.Native.Nat.{ℕ, ◌+◌, ◌/◌, ◌^◌, ◌≤◌, ◌<◌}
use native.Mathlib.Omega.{arith}
use lib.Count.{count_trailing_zeros}
use lib.Dec.{ltb}
use borrow.Author.Tests.{ltb-true, ltb-false, lt-ltb}
use Rattle.finite.proofs.Tests.{both_left, never, every_at, every_of}
use Rattle.sets.specs.Set.{member, within, without}
use Rattle.sets.specs.Walk.{Next}
use Rattle.sets.proofs.Algebra.{without_member}
use Rattle.sets.proofs.Walk.{none_next, zeros_next}

-- a set whose members are below n is within n
pub within_of : (n set : ℕ) → ((i : ℕ) → i < 64 → member set i ≡ true → i < n) → within n set ≡ true
unfolding within
within_of n set h =
    every_of 64 (λ i. cond (member set i) (ltb i n) true) (λ i l. go i l (member set i) refl)
  where
    go : (i : ℕ) → i < 64 → (b : Bool) → member set i ≡ b → cond b (ltb i n) true ≡ true
    go i l true e = lt-ltb i n (h i l e)
    go i l false e = refl

-- and a member of one within n is below n
pub within_member : (n set i : ℕ) → within n set ≡ true → i < 64 → member set i ≡ true → i < n
unfolding within
within_member n set i e h m =
    ltb-true i n
    (sym (ap (λ (b : Bool). cond b (ltb i n) true) m)
    ∙ every_at 64 (λ j. cond (member set j) (ltb j n) true) e i h)

-- both
pub within_means : (n set : ℕ) → (within n set ≡ true) ↔ ((i : ℕ) → i < 64 → member set i ≡ true → i < n)
within_means n set = (λ e i. within_member n set i e, within_of n set)

-- a set within n has no member from n on
pub within_not_member : (n set i : ℕ) → within n set ≡ true → n ≤ i → i < 64 → member set i ≡ false
within_not_member n set i e l m = go (member set i) refl
  where
    go : (b : Bool) → member set i ≡ b → b ≡ false
    go true t = absurd (omega (arith, within_member n set i e m t))
    go false t = refl

-- a part of a set within n is within n
pub within_part : (n part set : ℕ) → ((i : ℕ) → i < 64 → member part i ≡ true → member set i ≡ true)
    → within n set ≡ true → within n part ≡ true
within_part n part set h e = within_of n part (λ i l m. within_member n set i e l (h i l m))

pub within_without : (n set out : ℕ) → within n set ≡ true → within n (without set out) ≡ true
within_without n set out e =
    within_part n (without set out) set
    (λ i l m. both_left (member set i) (not (member out i)) (sym (without_member set out i l) ∙ m)) e

-- By what is left once the set is shifted down.

pub within_far : (n set : ℕ) → 64 ≤ n → within n set ≡ true
within_far n set h = within_of n set (λ i l m. omega arith)

pub within_yes : (n set : ℕ) → n ≤ 64 → set / 2 ^ n ≡ 0 → within n set ≡ true
within_yes n set h e = within_of n set (λ i l m. go i l m (ltb i n) refl)
  where
    go : (i : ℕ) → i < 64 → member set i ≡ true → (b : Bool) → ltb i n ≡ b → i < n
    go i l m true q = ltb-true i n q
    go i l m false q = absurd (never (member set i) ((none_next set n h e).gap i (ltb-false i n q) l) m)

pub within_no : (n set : ℕ) → set < 2 ^ 64 → (set / 2 ^ n ≡ 0 → ⊥) → within n set ≡ false
within_no n set h e = go (within n set) refl
  where
    r : ℕ
    r = n + count_trailing_zeros 64 (set / 2 ^ n)

    z : Next set n r × (r < 64)
    z = zeros_next set n (set / 2 ^ n) h refl e

    go : (b : Bool) → within n set ≡ b → b ≡ false
    go false q = refl
    go true q = absurd (omega (arith, within_member n set r q z.1 (z.0.here z.1), z.0.low))
