-- The premise of demand 3 counts what the views found: by the sets handed in no campaign falls short, and a view of a
-- paused campaign cannot be given to it.
use mathlib.Core.Path.{◌≡◌, refl, subst, subst⁻¹}
use mathlib.Core.Bool.{true, false}
use mathlib.Core.List.{[], ◌∷◌}
use mathlib.Core.Logic.{◌⊎◌, inl, inr}
use Prim.Native.Nat.{ℕ}
use native.Mathlib.Omega.{arith}
use borrow.Author.Tests.{leb-true}
use Rattle.finite.specs.Finite.{total}
use Rattle.finite.proofs.Tests.{never}
use Rattle.sets.specs.Set.{member}
use Rattle.floor.specs.History.{History}
use Rattle.floor.specs.History.Starts.{from_blank}
use Rattle.floor.specs.Floor.{Allotted}
use Rattle.floor.specs.Paused.{both, paused_calls, to_paused, short_by, UnpausedPremise}
use Rattle.floor.proofs.TwoViews.{day, days_are, Struck, struck}

record Handed (h : History) : Type 0 where
  not_allotted : Allotted h to_paused → ⊥
  handed_0 : short_by (both ∷ both ∷ []) h 0 ≡ false
  handed_1 : short_by (both ∷ both ∷ []) h 1 ≡ false

-- the second view found 0 alone
neither : (i : ℕ) → i ≡ 1 → (i ≡ 64) ⊎ (member 1 i ≡ true) → ⊥
unfolding member
neither i o (inl e) = omega (arith, o, e)
neither i o (inr e) = never (member 1 1) refl (subst (λ k. member 1 k ≡ true) o e)

handed : Handed (day 2)
unfolding day total member
handed = record {
  not_allotted = λ a. neither 1 refl (a.given 1 (leb-true 2 2 refl));
  handed_0 = refl;
  handed_1 = refl;
}

pub unpaused_premise : UnpausedPremise
unpaused_premise =
    let c = subst⁻¹ Struck days_are.1 (struck 2) in
    let d = subst⁻¹ Handed days_are.1 handed in
    record {
      starts = from_blank paused_calls;
      allotted = c.allotted;
      not_allotted = d.not_allotted;
      handed_0 = d.handed_0;
      handed_1 = d.handed_1;
      short = c.short;
      not_covered = c.not_covered;
      covered = c.covered;
    }
