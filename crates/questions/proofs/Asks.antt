-- The first failed of a list of tests has the number that the propositions give which the tests mean.
use mathlib.Core.Path.{◌≡◌, refl}
use mathlib.Core.Bool.{Bool, true, false}
use mathlib.Core.List.{List, [], ◌∷◌}
use mathlib.Core.Logic.{◌↔◌}
use Prim.Native.Nat.{ℕ}
use Rattle.finite.proofs.Tests.{never}
use Rattle.questions.specs.Questions.{Question, question, first_failed, asks, accepts}

-- D tells the number of the first failed of these questions
pub record NumberedBy (qs : List Question) (D : ℕ → Type 0) : Type 0 where
  pub is : D (first_failed qs)

-- one question more, before them
pub asking : (q : ℕ) {b : Bool} {P : Type 0} {qs : List Question} {D : ℕ → Type 0} → ((b ≡ true) ↔ P)
    → NumberedBy qs D → NumberedBy (question q b ∷ qs) (asks q P D)
unfolding first_failed
asking q {b = true} m t = record { is = (λ p. t.is, λ n. absurd (n (m.0 refl))) }
asking q {b = false} m t = record { is = (λ p. absurd (never false refl (m.1 p)), λ n. refl) }

pub accepting : NumberedBy [] accepts
unfolding first_failed
accepting = record { is = refl }
