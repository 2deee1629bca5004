-- What a loop keeps that walks a set by its least member and what is left: those left are members, and all others are
-- done. At each turn the least of those left is done, and they are one fewer.
use mathlib.Core.Path.{◌≡◌, refl, ap, sym, ◌∙◌, subst}
use mathlib.Core.Logic.{◌⊎◌, inl, inr}
use mathlib.Core.Bool.{Bool, true, false, ◌&&◌}
use Prim.Native.Nat.{ℕ, ◌^◌, ◌<◌}
use native.Mathlib.Omega.{arith}
use lib.Dec.{ltb}
use borrow.Author.Tests.{ltb-true, ltb-false}
use Rattle.finite.proofs.Tests.{never, both_left, both_right}
use Rattle.sets.specs.Set.{member, next, beyond}
use Rattle.sets.proofs.Algebra.{empty_member, beyond_member, beyond_lt}
use Rattle.sets.proofs.Walk.{next_is, first_is}
use Rattle.allotments.proofs.Cases.{same_or_not}

-- a part of a set that is left to walk, and a fact of each of the others
pub record Walking (set left : ℕ) (P : ℕ → Type 0) : Type 0 where
  pub small : left < 2 ^ 64
  pub part : (d : ℕ) → d < 64 → member left d ≡ true → member set d ≡ true
  pub done : (d : ℕ) → d < 64 → member left d ≡ false → P d

pub walking_end : (set left : ℕ) (P : ℕ → Type 0) → Walking set left P → left ≡ 0 → (d : ℕ) → d < 64 → P d
walking_end set left P w e d l = w.done d l (ap (λ (x : ℕ). member x d) e ∙ empty_member d)

-- a set with members has a least one
module _ (left : ℕ) (small : left < 2 ^ 64) (some : left ≡ 0 → ⊥) (c : ℕ) (c_is : c ≡ next left 0) where
  pub hand_small : c < 64
  hand_small = let f = first_is left small some in omega (arith, f.0, f.1)

  pub hand_in : member left c ≡ true
  hand_in = ap (member left) c_is ∙ (next_is left 0 (omega arith)).here (omega (arith, hand_small))

  pub above : (d : ℕ) → d < 64 → member (beyond left c) d ≡ true → (member left d ≡ true) × (c < d)
  above d l e =
      let b = sym (beyond_member left c d l) ∙ e in
      (both_left (member left d) (ltb c d) b, ltb-true c d (both_right (member left d) (ltb c d) b))

  pub not_above : (d : ℕ) → d < 64 → member (beyond left c) d ≡ false → (member left d ≡ false) ⊎ (d ≡ c)
  not_above d l e = go (member left d) refl (ltb c d) refl
    where
      go : (a : Bool) → member left d ≡ a → (b : Bool) → ltb c d ≡ b → (member left d ≡ false) ⊎ (d ≡ c)
      go false p b q = inl p
      go true p true q = absurd (never (member (beyond left c) d) e (beyond_member left c d l ∙ ap
          (λ (x : Bool). x && ltb c d) p ∙ q))
      go true p false q = inr (least (same_or_not d c))
        where
          least : (d ≡ c) ⊎ (d ≡ c → ⊥) → d ≡ c
          least (inl s) = s
          least (inr ne) = absurd (never (member left d) ((next_is left 0 (omega arith)).gap d (omega arith)
              (omega (arith, ltb-false c d q))) p)

  -- the turn: what was done stays so, and the least is done
  pub walking_turn : (set left' : ℕ) (P Q : ℕ → Type 0) → left' ≡ beyond left c → Walking set left P
      → ((d : ℕ) → d < 64 → (d ≡ c → ⊥) → P d → Q d) → Q c
      → Walking set left' Q
  walking_turn set left' P Q e w keep here = record {
    small = subst (λ (x : ℕ). x < 2 ^ 64) (sym e) (beyond_lt left c);
    part = λ d l m. w.part d l (above d l (ap (λ (x : ℕ). member x d) (sym e) ∙ m)).0;
    done = λ d l m. go d l (not_above d l (ap (λ (x : ℕ). member x d) (sym e) ∙ m)) (same_or_not d c);
  }
    where
      go : (d : ℕ) → d < 64 → (member left d ≡ false) ⊎ (d ≡ c) → (d ≡ c) ⊎ (d ≡ c → ⊥) → Q d
      go d l x (inl s) = subst Q (sym s) here
      go d l (inl p) (inr ne) = keep d l ne (w.done d l p)
      go d l (inr s) (inr ne) = absurd (ne s)
