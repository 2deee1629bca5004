-- What an operation in place hands back, and the calls as the code names them.
use Rattle.std.specs.Prelude.{true, false, List, ℕ}
use Rattle.day.specs.declared.Call.{Call}
use Rattle.day.specs.declared.Call.TheVariants.{Open, Add, Start, Show, Tally, Close, Pause, Resume}
use Rattle.day.specs.declared.Outcome.{Outcome}
use Rattle.day.specs.declared.Step.{Step}
use Rattle.day.specs.Day.{state_of}
use Rattle.day.specs.Calls as calls
use Rattle.day.specs.Calls.Call.{open_plan, add_campaign, start_day, show_view, ask_tally, close_day}
use Rattle.day.specs.Calls.Call.{mark_campaign}

-- what is handed back in place, as the outcome that it makes with the two arrays
abbrev pub outcome_of : Step → (terms counts : List ℕ) → Outcome
outcome_of r t n = record { day = state_of r.head t n; answer = r.answer }

-- the call that is asked for
abbrev pub asked : Call → calls.Call
asked (Open pl) = open_plan pl
asked (Add t) = add_campaign t
asked Start = start_day
asked (Show w) = show_view w
asked (Tally i) = ask_tally i
asked Close = close_day
asked (Pause i) = mark_campaign true i
asked (Resume i) = mark_campaign false i
