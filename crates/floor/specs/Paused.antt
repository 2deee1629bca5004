-- A day with a pause on which the floor fails if demand 3's premise counts a paused name: it must count what the views
-- found.
use Rattle.std.specs.Prelude.{◌≡◌, Bool, true, false, List, [], ◌∷◌, ℕ, ◌*◌, ltb, get_or}
use Rattle.finite.specs.Finite.{one_if, total}
use Rattle.allotments.specs.Allotment.{nobody}
use Rattle.campaigns.specs.declared.View.{View}
use Rattle.campaigns.specs.View.{names}
use Rattle.day.specs.Day.{blank}
use Rattle.day.specs.Calls.{Call}
use Rattle.day.specs.Calls.Call.{start_day, show_view, close_day}
use Rattle.demands.specs.Transcript.{transcript}
use Rattle.demands.specs.Cases.{plan, campaign_of, pause}
use Rattle.floor.specs.History.{Starts, History, history}
use Rattle.floor.specs.Floor.{price_of, whole_of, unstruck, falls_short, Allotted, takings_of, Covered}

-- the view {0, 1}
abbrev pub both : View
both = record { set = 3 }

-- campaigns 0 and 1 of price 2 and one play; {0, 1} plays 0, and with 1 paused {0, 1} plays nobody
abbrev pub paused_calls : List Call
paused_calls = plan 2 2 ∷ campaign_of 2 3 ∷ campaign_of 2 3 ∷ start_day ∷ show_view both ∷ pause 1 ∷
    show_view both ∷ close_day ∷ []

abbrev pub paused_day : History
paused_day = history (transcript blank paused_calls)

-- an allotment gives the first view to 1 and the second to 0, each of which the view found
abbrev pub paused_to : ℕ → ℕ
paused_to j = get_or (1 ∷ 0 ∷ []) j nobody

-- no allotment gives the second view to 1, which was paused
abbrev pub to_paused : ℕ → ℕ
to_paused j = get_or (0 ∷ 1 ∷ []) j nobody

-- the premise over the sets handed in
abbrev pub short_by : List View → History → ℕ → Bool
short_by ws h i = ltb (total (λ w. one_if (names w i)) ws) (h.plan.depth * whole_of h i)

-- by the sets handed in no campaign falls short, and the allotment is not covered; by what the views found campaign 1
-- does, and the allotment is covered without its part
pub record UnpausedPremise : Type 0 where
  pub starts : Starts blank paused_calls
  pub allotted : Allotted paused_day paused_to
  pub not_allotted : Allotted paused_day to_paused → ⊥
  pub handed_0 : short_by (both ∷ both ∷ []) paused_day 0 ≡ false
  pub handed_1 : short_by (both ∷ both ∷ []) paused_day 1 ≡ false
  pub not_covered : Covered paused_day (takings_of paused_day (price_of paused_day) paused_to) → ⊥
  pub short : falls_short paused_day 1 ≡ true
  pub covered : Covered paused_day (takings_of paused_day (unstruck paused_day) paused_to)
