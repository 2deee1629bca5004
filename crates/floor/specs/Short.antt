-- A day with a campaign that falls short, on which the floor fails unless its part is struck out: demand 3's proviso is
-- needed.
use Rattle.std.specs.Prelude.{◌≡◌, true, false, List, [], ◌∷◌, ℕ, get_or}
use Rattle.allotments.specs.Allotment.{nobody}
use Rattle.day.specs.Day.{blank}
use Rattle.day.specs.Calls.{Call}
use Rattle.day.specs.Calls.Call.{start_day, close_day}
use Rattle.demands.specs.Transcript.{transcript}
use Rattle.demands.specs.Cases.{plan, campaign_of, view}
use Rattle.floor.specs.History.{Starts, History, history}
use Rattle.floor.specs.Floor.{price_of, unstruck, falls_short, Allotted, takings_of, Covered}

-- campaigns 0 and 1 of price 2 and budget 3, so of one play with a cent left over; {0, 1} plays 0, and {0} plays nobody
abbrev pub short_calls : List Call
short_calls = plan 2 2 ∷ campaign_of 2 3 ∷ campaign_of 2 3 ∷ start_day ∷ view 3 ∷ view 1 ∷ close_day ∷ []

abbrev pub short_day : History
short_day = history (transcript blank short_calls)

-- an allotment gives the first view to 1, and the second to 0
abbrev pub short_to : ℕ → ℕ
short_to j = get_or (1 ∷ 0 ∷ []) j nobody

-- campaign 0 was named often enough, campaign 1 was not; the allotment's takings are not covered, those without
-- campaign 1's part are
pub record ProvisoNeeded : Type 0 where
  pub starts : Starts blank short_calls
  pub allotted : Allotted short_day short_to
  pub enough : falls_short short_day 0 ≡ false
  pub short : falls_short short_day 1 ≡ true
  pub not_covered : Covered short_day (takings_of short_day (price_of short_day) short_to) → ⊥
  pub covered : Covered short_day (takings_of short_day (unstruck short_day) short_to)
