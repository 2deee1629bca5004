-- The paused marks stay what soundness asks: within the campaigns, and none in Filling; and a call moves one of them.
use mathlib.Core.Path.{◌≡◌, refl, ap, sym, ◌∙◌}
use mathlib.Core.Bool.{Bool, true, false, cond, not, ◌&&◌, ◌||◌}
use Prim.Native.Nat.{ℕ, ◌≤◌, ◌<◌}
use native.Mathlib.Nat.{lt_of_lt_of_le}
use lib.Dec.{eqb}
use borrow.Author.Tests.{eqb-true}
use Rattle.finite.proofs.Tests.{both_left, never}
use Rattle.sets.specs.Set.{member, within, including}
use Rattle.sets.proofs.Algebra.{empty_member, including_member, without_member}
use Rattle.sets.proofs.Bounds.{within_of, within_member, within_without}
use Rattle.campaigns.specs.declared.Head.{Head}
use Rattle.campaigns.specs.declared.Phase.{Phase}
use Rattle.campaigns.specs.declared.Phase.TheVariants.{Filling, Running, Closed}
use Rattle.campaigns.specs.Limits.{max_campaigns}
use Rattle.campaigns.specs.Phase.{is_filling, is_running}
use Rattle.audit.specs.Sound.{marks_hold}
use Rattle.day.specs.Calls.{marked}

-- a phase that is Running is not Filling
pub running_not_filling : (p : Phase) → is_running p ≡ true → is_filling p ≡ false
running_not_filling Filling e = absurd (never false refl e)
running_not_filling Running e = refl
running_not_filling (Closed t) e = refl

-- what the tests give, and what gives them
pub marks_within : (h : Head) → marks_hold h ≡ true → within h.count h.paused ≡ true
marks_within h e = both_left (within h.count h.paused) _ e

pub marks_of : (h : Head) → within h.count h.paused ≡ true → is_filling h.phase ≡ false → marks_hold h ≡ true
marks_of h e f = rw (e, f) (go (eqb h.paused 0))
  where
    go : (b : Bool) → (b || true) ≡ true
    go true = refl
    go false = refl

-- more campaigns
pub within_more : (n m set : ℕ) → n ≤ m → within n set ≡ true → within m set ≡ true
within_more n m set l e = within_of m set (λ i k h. lt_of_lt_of_le (within_member n set i e k h) l)

-- a mark set or cleared
within_including : (n set i : ℕ) → within n set ≡ true → i < n → within n (including set i) ≡ true
within_including n set i e l =
    within_of n (including set i)
    (λ j k h. go j k (member set j) refl (eqb j i) refl (sym (including_member set i j k) ∙ h))
  where
    go : (j : ℕ) → j < 64 → (a : Bool) → member set j ≡ a → (b : Bool) → eqb j i ≡ b → (a || b) ≡ true → j < n
    go j k true m b q h = within_member n set j e k m
    go j k false m true q h = rw (eqb-true j i q) l
    go j k false m false q h = absurd (never false refl h)

pub within_marked : (b : Bool) (n i set : ℕ) → within n set ≡ true → i < n → within n (marked b i set) ≡ true
unfolding marked
within_marked true n i set e l = within_including n set i e l
within_marked false n i set e l = within_without n set (including 0 i) e

-- a pausing sets and a resuming clears the mark of campaign i; the other marks stay
pub marks_one : (b : Bool) (i marks j : ℕ) → j < max_campaigns
    → member (marked b i marks) j ≡ cond (eqb j i) b (member marks j)
unfolding marked
marks_one true i m j l = including_member m i j l ∙ go (member m j) (eqb j i)
  where
    go : (a e : Bool) → (a || e) ≡ cond e true a
    go true true = refl
    go true false = refl
    go false true = refl
    go false false = refl
marks_one false i m j l =
    without_member m (including 0 i) j l
    ∙ ap (λ (x : Bool). member m j && not x)
    (including_member 0 i j l ∙ ap (λ (x : Bool). x || eqb j i) (empty_member j))
    ∙ go (member m j) (eqb j i)
  where
    go : (a e : Bool) → (a && not e) ≡ cond e false a
    go true true = refl
    go true false = refl
    go false true = refl
    go false false = refl
