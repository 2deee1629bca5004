-- The number and the values of the answer, by the question that failed.
use mathlib.Core.Path.{◌≡◌, refl, subst⁻¹}
use mathlib.Core.Bool.{cond}
use mathlib.Core.List.{List, [], ◌∷◌}
use Prim.Native.Nat.{ℕ, zero, suc}
use native.Mathlib.Omega.{arith}
use lib.Dec.{eqb}
use borrow.Author.Tests.{ne_eqb}
use Rattle.day.specs.declared.Day.{Day}
use Rattle.day.specs.Day.{total_takings}
use Rattle.day.proofs.State.{sound_facts}
use Rattle.questions.specs.Questions.{accepts}
use Rattle.optimum.specs.Optimum.{search_door, most_of}
use Rattle.optimum.proofs.Asked.{asked_with}
use Rattle.earnings.specs.Earnings.{earnings_of, question_of, earned, number, values, AlwaysTells}

numbered : (q t g : ℕ) → number (earnings_of q t g) ≡ q
numbered zero t g = refl
numbered (suc q) t g = refl

valued : (q t g : ℕ) → let n = number (earnings_of q t g) in
    values (earnings_of q t g) ≡ cond (eqb n 0) (t ∷ g ∷ []) (n ∷ [])
valued zero t g = refl
valued (suc q) t g = rw (ne_eqb (suc q) 0 (λ z. omega (arith, z))) refl

-- question 18 does not fail: enough is lent for every day that passes 1 and 19
asked : (s : Day) (views : List ℕ) → search_door s views accepts (question_of s views)
unfolding question_of
asked s views =
    let door = asked_with s views 256 64 256 in (
      λ e1. (
        λ few. (
          λ inside. (((door.0 e1).0 few).0 inside).0 ((few, (sound_facts s e1).few), few),
          ((door.0 e1).0 few).1,
        ),
        (door.0 e1).1,
      ),
      door.1,
    )

pub tells : AlwaysTells
unfolding earned
tells s views =
    let q = question_of s views in
    let told = numbered q (total_takings s) (most_of s views) in
    record {
      number_is = told;
      asked = subst⁻¹ (search_door s views accepts) told (asked s views);
      values_are = valued q (total_takings s) (most_of s views);
    }
