-- A refusal gives the number of the first question that fails, and the unchanged state: by the cases of that number.
use mathlib.Core.Path.{◌≡◌, refl, sym, ◌∙◌}
use Prim.Native.Nat.{ℕ, zero, suc}
use Rattle.campaigns.specs.Choice.{Choice}
use Rattle.campaigns.specs.Choice.Choice.{nobody, plays}
use Rattle.day.specs.declared.Day.{Day}
use Rattle.day.specs.declared.Answer.TheVariants.{Refused}
use Rattle.questions.specs.Questions.{first_failed}
use Rattle.day.specs.Calls.{number, Call, questions, offers, player, view_answer, result, answered, call}
use Rattle.day.specs.Calls.Call.{open_plan, add_campaign, start_day, show_view, ask_tally, close_day, mark_campaign}

view_answer_number : (x : ℕ → ℕ) (ch : Choice) → number (view_answer x ch) ≡ 0
view_answer_number x nobody = refl
view_answer_number x (plays m) = refl

pub result_number : (s : Day) (c : Call) → number (result s c).answer ≡ 0
result_number s (open_plan pl) = refl
result_number s (add_campaign t) = refl
result_number s start_day = refl
result_number s (show_view w) = view_answer_number (offers s w) (player s w)
result_number s (ask_tally i) = refl
result_number s close_day = refl
result_number s (mark_campaign b i) = refl

-- a call is refused with the number of the first question that fails, and accepted where none does
pub call_number : (s : Day) (c : Call) → number (call s c).answer ≡ first_failed (questions s c)
unfolding call
call_number s c = go (first_failed (questions s c))
  where
    go : (n : ℕ) → number (answered n s (result s c)).answer ≡ n
    go zero = result_number s c
    go (suc n) = refl

-- a refused call hands its state back unchanged, and answers nothing but the number
pub refused_unchanged : (s : Day) (c : Call) → (number (call s c).answer ≡ 0 → ⊥)
    → ((call s c).day ≡ s) × ((call s c).answer ≡ Refused (first_failed (questions s c)))
unfolding call
refused_unchanged s c = go (first_failed (questions s c))
  where
    go : (n : ℕ) → (number (answered n s (result s c)).answer ≡ 0 → ⊥)
        → ((answered n s (result s c)).day ≡ s) × ((answered n s (result s c)).answer ≡ Refused n)
    go zero r = absurd (r (result_number s c))
    go (suc n) r = (refl, refl)

-- an accepted call hands back its result
pub accepted_result : (s : Day) (c : Call) → number (call s c).answer ≡ 0 → call s c ≡ result s c
unfolding call
accepted_result s c e = rw (sym (call_number s c) ∙ e)
