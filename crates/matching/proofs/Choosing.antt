-- The set of campaigns that are not served: all at first, one fewer at each turn, and its walk to the dearest of them.
use mathlib.Core.Path.{◌≡◌, refl, ap, sym, ◌∙◌, subst⁻¹}
use mathlib.Core.Bool.{Bool, true, false, cond, not, ◌&&◌}
use mathlib.Core.List.{List}
use Prim.Native.Nat.{ℕ, zero, suc, ◌+◌, ◌^◌, ◌≤◌, ◌<◌}
use native.Mathlib.Nat.{le_refl, pow-zero, pow-suc}
use native.Mathlib.Omega.{arith}
use lib.Dec.{eqb, ltb}
use borrow.Author.Tests.{eqb-false, ltb-true, ltb-false}
use Rattle.finite.specs.Finite.{one_if, count}
use Rattle.finite.proofs.Sums.{sum_le, sum_split, hide}
use Rattle.finite.proofs.Tests.{never, both_left}
use Rattle.sets.specs.Set.{member, size, next, collect, beyond, including, excluding}
use Rattle.sets.proofs.Algebra.{empty_member, none_above, collect_lt, collect_member, without_member}
use Rattle.sets.proofs.Algebra.{including_same, including_other}
use Rattle.allotments.specs.Allotment.{at}
use Rattle.allotments.proofs.Walks.{Walking, walking_end, hand_small, hand_in, walking_turn}
use Rattle.matching.specs.Method.{Everyone, Dearest}

-- the numbers below n are those of 2 to the power n, less one
all_below : (n : ℕ) → collect n (λ i. true) + 1 ≡ 2 ^ n
unfolding collect
all_below zero = sym (pow-zero 2)
all_below (suc n) = omega (arith, all_below n, pow-suc 2 n)

pub everyone_of : (n set : ℕ) → set + 1 ≡ 2 ^ n → Everyone n set
everyone_of n set e d l = ap (λ (x : ℕ). member x d) same ∙ go (ltb d n) refl
  where
    same : set ≡ collect n (λ i. true)
    same = omega (arith, e, all_below n)

    go : (b : Bool) → ltb d n ≡ b → member (collect n (λ i. true)) d ≡ b
    go true q = collect_member n (λ i. true) d (ltb-true d n q)
    go false q = none_above (collect n (λ i. true)) n (collect_lt n (λ i. true)) d (ltb-false d n q)

-- who is left of a set without one campaign was in it
pub was_in : (unserved c d : ℕ) → d < 64 → member (excluding unserved c) d ≡ true → member unserved d ≡ true
was_in unserved c d l m = both_left (member unserved d) (not (member (including 0 c) d))
    (sym (without_member unserved (including 0 c) d l) ∙ m)

-- one campaign taken off
module _ (unserved c : ℕ) (small : c < 64) where
  pub one_out : member (excluding unserved c) c ≡ false
  one_out = without_member unserved (including 0 c) c small
      ∙ ap (λ (b : Bool). member unserved c && not b) (including_same 0 c small) ∙ go (member unserved c)
    where
      go : (b : Bool) → (b && false) ≡ false
      go true = refl
      go false = refl

  pub others_stay : (d : ℕ) → d < 64 → (d ≡ c → ⊥) → member (excluding unserved c) d ≡ member unserved d
  others_stay d l ne = without_member unserved (including 0 c) d l
      ∙ ap (λ (b : Bool). member unserved d && not b) (including_other 0 c d l ne ∙ empty_member d)
      ∙ go (member unserved d)
    where
      go : (b : Bool) → (b && true) ≡ b
      go true = refl
      go false = refl

  -- they are fewer
  pub one_fewer : member unserved c ≡ true → size (excluding unserved c) < size unserved
  unfolding size count
  one_fewer m =
      omega (
        arith,
        sum_split 64 c f small,
        sum_split 64 c g small,
        sum_le 64 (hide c g) (hide c f) (λ i k. hidden i (eqb i c) refl k),
        ap one_if m,
        ap one_if one_out,
      )
    where
      f : ℕ → ℕ
      f i = one_if (member unserved i)

      g : ℕ → ℕ
      g i = one_if (member (excluding unserved c) i)

      hidden : (i : ℕ) (t : Bool) → eqb i c ≡ t → i < 64 → cond t 0 (g i) ≤ cond t 0 (f i)
      hidden i true e k = le_refl 0
      hidden i false e k = omega (arith, ap one_if (others_stay i k (eqb-false i c e)))

-- the walk: of those that are not left, the dearest is at hand
abbrev NoDearer : (prices : List ℕ) (unserved top : ℕ) → ℕ → Type 0
NoDearer prices unserved top d = member unserved d ≡ true → at prices d ≤ top

pub record Choosing (prices : List ℕ) (unserved best top left : ℕ) : Type 0 where
  pub inside : best < 64
  pub waiting : member unserved best ≡ true
  pub top_is : top ≡ at prices best
  pub walk : Walking unserved left (NoDearer prices unserved top)

-- the same two, told otherwise
pub same_choosing : {prices : List ℕ} {unserved best best' top top' left : ℕ} → best' ≡ best → top' ≡ top
    → Choosing prices unserved best top left → Choosing prices unserved best' top' left
same_choosing {prices} {unserved} {best} {best'} {top} {top'} {left} e f w =
    subst⁻¹ (λ (b : ℕ). Choosing prices unserved b top' left) e
    (subst⁻¹ (λ (t : ℕ). Choosing prices unserved best t left) f w)

module _ {prices : List ℕ} {unserved : ℕ} where
  pub choose_start : unserved < 2 ^ 64 → (unserved ≡ 0 → ⊥) → {c left top : ℕ} → c ≡ next unserved 0
      → left ≡ beyond unserved c → top ≡ at prices c → Choosing prices unserved c top left
  choose_start small some {c} {left} {top} c_is e t = record {
    inside = hand_small unserved small some c c_is;
    waiting = hand_in unserved small some c c_is;
    top_is = t;
    walk = walking_turn unserved small some c c_is unserved left (λ d. member unserved d ≡ false)
        (NoDearer prices unserved top) e
        (record { small = small; part = λ d l m. m; done = λ d l m. m })
        (λ d l ne z m. absurd (never (member unserved d) z m))
        (λ m. omega (arith, t));
  }

  module _ {best top left : ℕ} (w : Choosing prices unserved best top left) (some : left ≡ 0 → ⊥) {c left' : ℕ}
      (c_is : c ≡ next left 0) (e : left' ≡ beyond left c) where
    small : left < 2 ^ 64
    small = w.walk.small

    pub choice_small : c < 64
    choice_small = hand_small left small some c c_is

    pub choose_dearer : top < at prices c → Choosing prices unserved c (at prices c) left'
    choose_dearer k = record {
      inside = choice_small;
      waiting = w.walk.part c choice_small (hand_in left small some c c_is);
      top_is = refl;
      walk = walking_turn left small some c c_is unserved left' (NoDearer prices unserved top)
          (NoDearer prices unserved (at prices c)) e w.walk
          (λ d l ne h m. omega (arith, h m))
          (λ m. le_refl (at prices c));
    }

    pub choose_same : at prices c ≤ top → Choosing prices unserved best top left'
    choose_same k = record {
      inside = w.inside;
      waiting = w.waiting;
      top_is = w.top_is;
      walk = walking_turn left small some c c_is unserved left' (NoDearer prices unserved top)
          (NoDearer prices unserved top) e w.walk (λ d l ne h. h) (λ m. k);
    }

  pub choose_end : {best top left : ℕ} → Choosing prices unserved best top left → left ≡ 0
      → Dearest (at prices) unserved best
  choose_end {best} {top} {left} w e = record {
    inside = w.inside;
    waiting = w.waiting;
    top = λ d l m. omega (
      arith,
      walking_end unserved left (NoDearer prices unserved top) w.walk e d l m,
      w.top_is,
    );
  }
