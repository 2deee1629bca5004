-- The figures at noon of a few days, after each of their calls; and a sound state that no list of calls reaches, on
-- which the floor at noon fails: that it holds is a matter of history.
use Rattle.std.specs.Prelude.{◌≡◌, true, cond, List, [], ◌∷◌, ℕ, ◌≤◌, eqb, Result, Ok}
use Rattle.campaigns.specs.declared.Phase.TheVariants.{Running}
use Rattle.campaigns.specs.Campaign.{fresh}
use Rattle.campaigns.specs.View.{full}
use Rattle.day.specs.declared.Day.{Day}
use Rattle.day.specs.Day.{state_with, no_terms, blank, total_takings, sound}
use Rattle.day.specs.Calls.{Call, call}
use Rattle.day.specs.Calls.Call.{start_day}
use Rattle.refusal.specs.declared.Refusal.{Refusal}
use Rattle.noon.specs.declared.Figures.{Figures}
use Rattle.noon.specs.Noon.{figures, floor_figure, at_noon}
use Rattle.demands.specs.Transcript.{final}
use Rattle.demands.specs.Cases.{calls_made, plan, campaign_of, view, pause, resume, listing}
use Rattle.floor.specs.History.{Starts}

-- the figures after each call
unfoldable pub moments : Day → List Call → List (Result Figures Refusal)
moments s [] = []
moments s (c ∷ cs) = at_noon (call s c).day ∷ moments (call s c).day cs

-- the calls are a list of demand 3, and these are the figures after each of them
pub record FiguresAfter (s : Day) (cs : List Call) (figures : List (Result Figures Refusal)) : Type 0 where
  pub starts : Starts s cs
  pub figures_are : moments s cs ≡ figures

-- another day behind document 01's listing, at depth 1: its figures begin again
abbrev pub second_day : List Call
second_day = plan 1 2 ∷ campaign_of 2 2 ∷ campaign_of 1 1 ∷ start_day ∷ view 3 ∷ []

-- a day of width 1: a play is due for every two views that name the campaign, a view of none adds nothing, and a cent
-- is left over
abbrev pub width_1 : List Call
width_1 = plan 2 1 ∷ campaign_of 3 7 ∷ start_day ∷ view 1 ∷ view 1 ∷ view 0 ∷ view 1 ∷ view 1 ∷ view 1 ∷ []

-- the listing's campaigns with pauses: a paused campaign is named by no view, and once both are, a view finds none
abbrev pub pausing_day : List Call
pausing_day = plan 2 2 ∷ campaign_of 5 10 ∷ campaign_of 3 6 ∷ start_day ∷ view 3 ∷ pause 0 ∷ view 3 ∷ view 3 ∷
    pause 1 ∷ view 3 ∷ resume 0 ∷ view 3 ∷ []

-- a day of depth 3 and width 2, where W is 1, 2, 4, 8 and a turn's share 7: campaign 1 waits to age 2 and plays in the
-- third view, the first after which a play is due
abbrev pub depth_3 : List Call
depth_3 = plan 3 2 ∷ campaign_of 5 10 ∷ campaign_of 1 1 ∷ start_day ∷ view 3 ∷ view 3 ∷ view 3 ∷ []

-- before the first view: no takings, no claim, and no play due
abbrev pub shows : (full claim floor : ℕ) → Result Figures Refusal
shows x c f = Ok (figures x c f)

abbrev pub nothing : Result Figures Refusal
nothing = shows 0 0 0

pub record Moments : Type 0 where
  -- the listing at depth 2 and width 2, with its refused view and the tallies
  pub first_day : FiguresAfter blank (calls_made listing) (
      nothing ∷ nothing ∷ nothing ∷ nothing ∷ shows 20 18 0 ∷ shows 32 29 24 ∷ shows 52 42 24 ∷
      shows 52 42 39 ∷ shows 64 48 48 ∷ shows 64 48 48 ∷ shows 64 48 48 ∷ shows 64 48 48 ∷
      shows 64 48 48 ∷ [])
  pub next_day : FiguresAfter (final blank (calls_made listing)) second_day (
      nothing ∷ nothing ∷ nothing ∷ nothing ∷ shows 4 3 3 ∷ [])
  pub narrow : FiguresAfter blank width_1 (
      nothing ∷ nothing ∷ nothing ∷ shows 3 3 0 ∷ shows 6 6 3 ∷ shows 6 6 3 ∷ shows 6 6 3 ∷ shows 6 6 6 ∷
      shows 6 6 6 ∷ [])
  pub pausing : FiguresAfter blank pausing_day (
      nothing ∷ nothing ∷ nothing ∷ nothing ∷ shows 20 18 0 ∷ shows 20 18 0 ∷ shows 32 24 9 ∷
      shows 44 33 9 ∷ shows 44 33 9 ∷ shows 44 33 9 ∷ shows 44 33 9 ∷ shows 64 48 24 ∷ [])
  pub deep : FiguresAfter blank depth_3 (
      nothing ∷ nothing ∷ nothing ∷ nothing ∷ shows 40 36 0 ∷ shows 80 73 0 ∷ shows 88 77 42 ∷ [])

-- depth 1, width 1, five accepted views: a campaign of price 1 and five plays that each of them named and none played
abbrev pub unplayed : Day
unplayed = state_with
    (record { phase = Running; plan = record { depth = 1; width = 1 }; count = 1; accepted = 5; paused = 0 })
    (λ i. cond (eqb i 0) (record { price = 1; budget = 5; plays = 0; turns = 0; age = 0; named = 5 }) (fresh no_terms))

pub record NeedsHistory : Type 0 where
  pub is_sound : sound unplayed ≡ true
  pub figures_are : at_noon unplayed ≡ shows 0 0 5
  pub not_kept : floor_figure unplayed ≤ full unplayed.plan (total_takings unplayed) → ⊥
