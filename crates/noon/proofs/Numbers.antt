-- What is due is the most of what it may be. The number and the values of what is asked for at noon, by the question
-- that failed.
use mathlib.Core.Path.{◌≡◌, refl, subst⁻¹}
use mathlib.Core.Bool.{true, cond}
use mathlib.Core.List.{◌∷◌, []}
use mathlib.Core.Logic.Iff
use Prim.Native.Nat.{ℕ, zero, suc}
use native.Mathlib.Nat.{le-div_iff_mul-le}
use native.Mathlib.Omega.{arith}
use lib.Dec.{eqb}
use borrow.Author.Tests.{ne_eqb}
use Rattle.powers.specs.Power.{share}
use Rattle.campaigns.specs.Campaign.{whole}
use Rattle.day.specs.Day.{sound}
use Rattle.questions.specs.Questions.{first_failed, asks, accepts}
use Rattle.questions.proofs.Asks.{asking, accepting}
use Rattle.refusal.specs.declared.Refusal.{Refusal}
use Rattle.std.specs.Prelude.{Result, Ok}
use Rattle.noon.specs.declared.Figures.{Figures}
use Rattle.noon.specs.Noon.{DueIsMost, due, total_due, FloorFigureIs, number, values, noon_questions}
use Rattle.noon.specs.Noon.{refused_or, figures_of, at_noon}
use Rattle.noon.specs.Noon.{AlwaysTells}

pub due_is_most : DueIsMost
due_is_most k w n m h =
    let most = le-div_iff_mul-le {k = k} {x = m} {y = n} h in
    (λ l. (omega (arith, l), most.0 (omega (arith, l))), λ p. let l = most.1 p.1 in omega (arith, p.0, l))

pub floor_figure_is : FloorFigureIs
unfolding share total_due due whole
floor_figure_is s = refl

numbered : (q : ℕ) (x : Result Figures Refusal) → number x ≡ 0 → number (refused_or q x) ≡ q
numbered zero x e = e
numbered (suc q) x e = refl

valued : (q : ℕ) (x : Result Figures Refusal) → number x ≡ 0
    → values (refused_or q x) ≡ let n = number (refused_or q x) in cond (eqb n 0) (values x) (n ∷ [])
valued zero x e = rw e refl
valued (suc q) x e = rw (ne_eqb (suc q) 0 (λ z. omega (arith, z))) refl

pub tells : AlwaysTells
unfolding at_noon
tells s =
    let told = numbered (first_failed (noon_questions s)) (Ok (figures_of s)) refl in
    record {
      number_is = told;
      asked = subst⁻¹ (asks 1 (sound s ≡ true) accepts) told (asking 1 Iff.rfl accepting).is;
      values_are = valued (first_failed (noon_questions s)) (Ok (figures_of s)) refl;
    }
