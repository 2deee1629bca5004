-- Three days that meet the hypotheses, computed: document 01's listing, which took all that it could; the day on which
-- the floor fails unless what goes to campaigns that fall short is taken off; and a day with a pause, where only what
-- the views found counts. Of the second one also a result of the search.
use Rattle.std.specs.Prelude.{◌≡◌, true, false, List, [], ◌∷◌, ℕ, Ok}
use Rattle.day.specs.Day.{blank}
use Rattle.day.specs.Calls.{Call}
use Rattle.day.specs.Calls.Call.{start_day, close_day}
use Rattle.demands.specs.Cases.{calls_made, plan, campaign_of, view, pause, listing}
use Rattle.demands.specs.Transcript.{transcript, final}
use Rattle.allotments.specs.Allotment.{at, nobody}
use Rattle.floor.specs.History.{Starts, History, day_takings, history}
use Rattle.floor.specs.Floor.{Covered}
use Rattle.floor.specs.Short.{short_calls}
use Rattle.optimum.specs.Optimum.{most_of, Searched, checked}
use Rattle.floor.specs.History.{own_views}
use Rattle.hindsight.specs.Hindsight.{given_short, Room, SearchCovered}

abbrev pub recorded_day : List Call → History
recorded_day cs = history (transcript blank cs)

-- a list of calls from the blank state, and an allotment with figures that the check accepts for its day: the takings,
-- the greatest figure, and what the allotment gives to campaigns that fall short
pub record Example (cs : List Call) (allotment surplus worth : List ℕ) (paid most short : ℕ) : Type 0 where
  pub starts : Starts blank cs
  pub accepted : checked (final blank cs) (own_views (recorded_day cs)) allotment surplus worth ≡ Ok true
  pub paid_is : day_takings (recorded_day cs) ≡ paid
  pub most_is : most_of (final blank cs) (own_views (recorded_day cs)) ≡ most
  pub short_is : given_short (recorded_day cs) (at allotment) ≡ short

-- campaign 0 of price 5 and one play, 1 of price 3 and two; with 1 paused the second and the third view find 0 alone
abbrev pub paused_listed : List Call
paused_listed =
    plan 2 2 ∷ campaign_of 5 5 ∷ campaign_of 3 6 ∷ start_day ∷ view 3 ∷ pause 1 ∷ view 3 ∷ view 3 ∷ close_day ∷ []

-- that day: what its views found, and the sets handed in. Over the sets handed in more could be taken, by giving a view
-- to the paused campaign; the check accepts such an allotment for them, and rejects it for what the views found
pub record Paused (found handed_in allotment surplus worth : List ℕ) : Type 0 where
  pub found_is : own_views (recorded_day paused_listed) ≡ found
  pub more : most_of (final blank paused_listed) handed_in ≡ 11
  pub accepted : checked (final blank paused_listed) handed_in allotment surplus worth ≡ Ok true
  pub rejected : checked (final blank paused_listed) (own_views (recorded_day paused_listed)) allotment surplus worth
      ≡ Ok false

-- the search of the day of `short_calls`: campaign 0 is served first, by view 0; campaign 1 gets view 0 by a chain of
-- exchanges, after 0 was given view 1 (`matching/specs/Examples`)
pub record SearchWorked (allotment surplus worth allotment' surplus' worth' : List ℕ) : Type 0 where
  pub room : Room (recorded_day short_calls) (final blank short_calls) allotment surplus worth
  pub searched : Searched (final blank short_calls) (own_views (recorded_day short_calls)) allotment allotment' surplus
      surplus' worth worth' (Ok 4)
  pub covered : SearchCovered (recorded_day short_calls) (final blank short_calls) allotment allotment' surplus
      surplus' worth worth' (Ok 4)

pub record Examples : Type 0 where
  pub of_listing : Example (calls_made listing) (0 ∷ 0 ∷ 1 ∷ nobody ∷ 1 ∷ []) (5 ∷ 3 ∷ []) (0 ∷ 0 ∷ 0 ∷ 0 ∷ 0 ∷ [])
      16 16 0
  pub short : Example short_calls (1 ∷ 0 ∷ []) (2 ∷ 2 ∷ []) (0 ∷ 0 ∷ []) 2 4 2
  pub not_covered : Covered (recorded_day short_calls) 4 → ⊥
  pub paused : Example paused_listed (1 ∷ 0 ∷ nobody ∷ []) (5 ∷ 0 ∷ []) (3 ∷ 0 ∷ 0 ∷ []) 5 8 3
  pub paused_not_covered : Covered (recorded_day paused_listed) 8 → ⊥
  pub search : SearchWorked (0 ∷ 0 ∷ []) (0 ∷ 0 ∷ []) (0 ∷ 0 ∷ []) (1 ∷ 0 ∷ []) (2 ∷ 2 ∷ []) (0 ∷ 0 ∷ [])
  pub found_alone : Paused (3 ∷ 1 ∷ 1 ∷ []) (3 ∷ 3 ∷ 3 ∷ []) (0 ∷ 1 ∷ 1 ∷ []) (2 ∷ 0 ∷ []) (3 ∷ 3 ∷ 3 ∷ [])
