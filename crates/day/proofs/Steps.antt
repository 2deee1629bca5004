-- What an operation in place hands back, of a sound state: the questions that are left, and the outcome by the two
-- arrays.
use Rattle.std.specs.Prelude.{Result, Ok, Err}
use mathlib.Core.Path.{◌≡◌, refl, ap, sym, ◌∙◌}
use mathlib.Core.Bool.{true}
use mathlib.Core.List.{List}
use Prim.Native.Nat.{ℕ}
use lib.ListN.{replicate}
use Rattle.finite.specs.Finite.{table}
use Rattle.campaigns.specs.declared.Head.{Head}
use Rattle.campaigns.specs.declared.Phase.{Phase}
use Rattle.campaigns.specs.declared.Plan.{Plan}
use Rattle.day.specs.declared.Day.{Day}
use Rattle.day.specs.declared.Step.{Step}
use Rattle.day.specs.Day.{state_of, empty_plan, sound}
use Rattle.refusal.specs.declared.Refusal.{Refusal}
use Rattle.questions.specs.Questions.{first_failed, verdict}
use Rattle.questions.proofs.Verdicts.{said, verdict_said, refusal_numbered}
use Rattle.day.specs.Calls.{Call, own_questions, questions, call}
use Rattle.day.specs.InPlace.{outcome_of}
use Rattle.day.specs.Cited.{refusing}
use Rattle.day.proofs.Questions.{Yes, refused_is, asked_yes}

-- a refusal leaves the arrays
pub steps_refused : (h : Head) (t n : List ℕ) (c : Call) (r : Step) (q : ℕ) → r ≡ refusing h q
    → q ≡ first_failed (questions (state_of h t n) c) → (q ≡ 0 → ⊥) → outcome_of r t n ≡ call (state_of h t n) c
steps_refused h t n c r q e a z = ap (λ (x : Step). outcome_of x t n) e ∙ refused_is (state_of h t n) c q a z

-- the questions of a sound state but for the first
pub own_asks : (s : Day) (c : Call) → sound s ≡ true → first_failed (own_questions s c) ≡ first_failed (questions s c)
unfolding first_failed
own_asks s c e = rw e

-- a verdict over them: a refusal leaves the arrays, and otherwise every question is answered yes
module _ (h : Head) (t n : List ℕ) (c : Call) (k : sound (state_of h t n) ≡ true) {o : Result Unit Refusal}
    (e : o ≡ verdict (first_failed (own_questions (state_of h t n) c))) where
  asks : said o ≡ first_failed (questions (state_of h t n) c)
  asks = ap said e ∙ verdict_said (first_failed (own_questions (state_of h t n) c)) ∙ own_asks (state_of h t n) c k

  pub verdict_refused : {q : Refusal} {r : Step} → o ≡ Err q → r ≡ refusing h q.question
      → outcome_of r t n ≡ call (state_of h t n) c
  verdict_refused {q} {r} p x =
      steps_refused h t n c r q.question x (sym (ap said p) ∙ asks)
      (refusal_numbered (first_failed (own_questions (state_of h t n) c)) q (sym p ∙ e))

  pub verdict_yes : {u : Unit {0}} → o ≡ Ok u → Yes (questions (state_of h t n) c)
  verdict_yes p = asked_yes (state_of h t n) c (said o) asks (ap said p)

-- arrays of zeros hold no campaigns
pub planned_is : (p : Phase) (pl : Plan)
    → state_of (record { phase = p; plan = pl; count = 0; accepted = 0; paused = 0 }) (replicate 128 0)
    (replicate 256 0) ≡ empty_plan p pl
unfolding table
planned_is p pl = refl
