-- Every call on every state answers as demands 1 and 2 ask: by the cases of the answer, refused or a result.
use mathlib.Core.Path.{◌≡◌, refl, ap, ◌∙◌}
use Prim.Native.Nat.{ℕ}
use Rattle.campaigns.specs.Choice.{Choice}
use Rattle.campaigns.specs.Choice.Choice.{nobody, plays}
use Rattle.day.specs.declared.Day.{Day}
use Rattle.day.specs.declared.Outcome.{Outcome}
use Rattle.day.specs.Calls.{values, Call, view_answer, offers, player, result}
use Rattle.day.specs.Calls.Call.{open_plan, add_campaign, start_day, show_view, ask_tally, close_day, mark_campaign}
use Rattle.demands.specs.Demands.{view_values, accepted_values, AlwaysAnswers}
use Rattle.demands.proofs.Refusals.{call_number, refused_unchanged, accepted_result}
use Rattle.demands.proofs.Sound.{sound_kept}

view_answer_values : (x : ℕ → ℕ) (ch : Choice) → values (view_answer x ch) ≡ view_values x ch
view_answer_values x nobody = refl
view_answer_values x (plays m) = refl

result_values : (s : Day) (c : Call) → values (result s c).answer ≡ accepted_values s c
result_values s (open_plan pl) = refl
result_values s (add_campaign t) = refl
result_values s start_day = refl
result_values s (show_view w) = view_answer_values (offers s w) (player s w)
result_values s (ask_tally i) = refl
result_values s close_day = refl
result_values s (mark_campaign b i) = refl

pub answers : AlwaysAnswers
answers s c = record {
  number_is = call_number s c;
  refusal = λ h. let r = refused_unchanged s c h in (r.0, ap values r.1);
  values_are = λ e. ap (λ (o : Outcome). values o.answer) (accepted_result s c e) ∙ result_values s c;
  keeps_sound = sound_kept s c;
}
