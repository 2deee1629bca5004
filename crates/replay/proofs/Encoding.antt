-- Every list of calls is encoded by its words, and so any list can be run.
use mathlib.Core.Path.{refl, ap, ◌∙◌}
use mathlib.Core.Bool.{true, false}
use mathlib.Core.List.{List, [], ◌∷◌}
use Rattle.day.specs.Calls.{Call}
use Rattle.day.specs.Calls.Call.{open_plan, add_campaign, start_day, show_view, ask_tally, close_day, mark_campaign}
use Rattle.demands.specs.Transcript.{transcript, final}
use Rattle.floor.specs.History.{day_takings, history}
use Rattle.replay.specs.Replay.{call_in, decode, EveryList, RunsAnyList}

pub every_list : EveryList
unfolding call_in decode
every_list [] = refl
every_list (open_plan pl ∷ cs) = ap (λ (l : List Call). open_plan pl ∷ l) (every_list cs)
every_list (add_campaign t ∷ cs) = ap (λ (l : List Call). add_campaign t ∷ l) (every_list cs)
every_list (start_day ∷ cs) = ap (λ (l : List Call). start_day ∷ l) (every_list cs)
every_list (show_view w ∷ cs) = ap (λ (l : List Call). show_view w ∷ l) (every_list cs)
every_list (ask_tally i ∷ cs) = ap (λ (l : List Call). ask_tally i ∷ l) (every_list cs)
every_list (close_day ∷ cs) = ap (λ (l : List Call). close_day ∷ l) (every_list cs)
every_list (mark_campaign true i ∷ cs) = ap (λ (l : List Call). mark_campaign true i ∷ l) (every_list cs)
every_list (mark_campaign false i ∷ cs) = ap (λ (l : List Call). mark_campaign false i ∷ l) (every_list cs)

pub runs_any_list : RunsAnyList
runs_any_list s cs r h = (
  h.ran ∙ ap (final s) (every_list cs),
  h.paid_is ∙ ap (λ (l : List Call). day_takings (history (transcript s l))) (every_list cs),
)
