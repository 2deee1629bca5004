-- Names for the contracts of the inner functions of the operations.
use Rattle.std.specs.Prelude.{◌≡◌, Bool, true, List, ℕ, Option, Some, None}
use Rattle.campaigns.specs.declared.Head.{Head}
use Rattle.campaigns.specs.Cited.{Sized, Weights}
use Rattle.choice.specs.declared.Candidate.{Candidate}
use Rattle.day.specs.declared.Answer.{Answer}
use Rattle.day.specs.declared.Answer.TheVariants.{Refused, Played, Nobody}
use Rattle.day.specs.declared.Step.{Step}
use Rattle.day.specs.Day.{state_of, sound}

-- the answer that names candidate b, or nobody
abbrev pub answer_of : Option Candidate → Answer
answer_of None = Nobody
answer_of (Some b) = Played b.campaign b.paid

abbrev pub refusing : Head → ℕ → Step
refusing h q = record { head = h; answer = Refused q }

-- the arrays are full, and the state is sound
pub record Kept (h : Head) (t n : List ℕ) : Type 0 where
  pub room : Sized t n
  pub is_sound : sound (state_of h t n) ≡ true

-- The arrays t and n are full, b says whether the state is sound and, if so, w has the weights of its plan.
pub record Ready (b : Bool) (h : Head) (w t n : List ℕ) : Type 0 where
  pub room : Sized t n
  pub sound_is : sound (state_of h t n) ≡ b
  pub weights_are : b ≡ true → Weights h.plan w
