-- Days beside Algorithm 4, computed on both sides: document 01's listing, the same with cents left over, and days with
-- lifts that interest nobody, with pauses, and of width 1.
use Rattle.std.specs.Prelude.{◌≡◌, true, List, [], ◌∷◌, ◌++◌, map, ℕ}
use Rattle.campaigns.specs.declared.Terms.{Terms}
use Rattle.campaigns.specs.declared.View.{View}
use Rattle.campaigns.specs.Choice.{Choice}
use Rattle.campaigns.specs.Choice.Choice.{nobody, plays}
use Rattle.day.specs.declared.Answer.{Answer}
use Rattle.day.specs.declared.Answer.TheVariants.{Played, Nobody}
use Rattle.day.specs.Day.{blank}
use Rattle.day.specs.Calls.{Call}
use Rattle.day.specs.Calls.Call.{add_campaign, start_day, show_view}
use Rattle.demands.specs.Transcript.{transcript, final}
use Rattle.demands.specs.Cases.{calls_made, plan, campaign_of, view, pause, listing}
use Rattle.floor.specs.History.{Starts, History, history}
use Rattle.floor.specs.Moments.{pausing_day}
use Rattle.refinement.specs.Fraction.{integer, equal}
use Rattle.refinement.specs.Algorithm4.{algorithm_4, matches}
use Rattle.refinement.specs.Correspondence.{spendable, slots}
use Rattle.refinement.specs.Days.{instance_of, DayAgrees}

-- a day of depth 2
abbrev pub day : (width : ℕ) → List Terms → (paused : ℕ) → List View → List Answer → History
day d ts m ws xs = record {
  plan = record { depth = 2; width = d };
  terms = ts;
  paused = m;
  views = ws;
  answers = xs;
}

-- calls that make one of width 2, without pauses
abbrev pub calls_showing : List Terms → List View → List Call
calls_showing ts ws = plan 2 2 ∷ map add_campaign ts ++ start_day ∷ map show_view ws

-- the calls make the day h, to whose views Algorithm 4 matches these, with B as the paper's budgets; and the theorem
-- speaks of it
pub record ComputedDay (B : Terms → ℕ) (cs : List Call) (h : History) (ms : List Choice) : Type 0 where
  pub starts : Starts blank cs
  pub day_is : history (transcript blank cs) ≡ h
  pub matches_are : matches (instance_of B h) (slots h.views) ≡ ms
  pub agrees : DayAgrees B (history (transcript blank cs)) (final blank cs)

-- the listing's prices 5 and 3 and budgets 10 and 6, and its accepted views 0 1, 0 1, 0 1, 0 and 1
abbrev pub listing_terms : List Terms
listing_terms = record { price = 5; budget = 10 } ∷ record { price = 3; budget = 6 } ∷ []

abbrev pub listing_views : List View
listing_views =
    record { set = 3 } ∷ record { set = 3 } ∷ record { set = 3 } ∷ record { set = 1 } ∷ record { set = 2 } ∷ []

-- who plays them; the day, also where the budgets are others
abbrev pub listing_players : List Choice
listing_players = plays 0 ∷ plays 1 ∷ plays 0 ∷ nobody ∷ plays 1 ∷ []

abbrev pub listing_played : List Terms → History
listing_played ts = day 2 ts 0 listing_views (Played 0 5 ∷ Played 1 3 ∷ Played 0 5 ∷ Nobody ∷ Played 1 3 ∷ [])

-- budgets with 3 and 2 cents left over, which no play can spend
abbrev pub cents_terms : List Terms
cents_terms = record { price = 5; budget = 13 } ∷ record { price = 3; budget = 8 } ∷ []

-- lifts that interest nobody among the views: such a slot has no neighbours, and nothing changes
abbrev pub quiet_views : List View
quiet_views =
    record { set = 0 } ∷ record { set = 3 } ∷ record { set = 0 } ∷ record { set = 3 } ∷ record { set = 0 } ∷ []

abbrev pub quiet_played : History
quiet_played = day 2 listing_terms 0 quiet_views (Nobody ∷ Played 0 5 ∷ Nobody ∷ Played 1 3 ∷ Nobody ∷ [])

-- with pauses a slot's neighbours are what its view found: the views name both, and find both, 1, 1, none and 0
abbrev pub pausing_views : List View
pausing_views =
    record { set = 3 } ∷ record { set = 2 } ∷ record { set = 2 } ∷ record { set = 0 } ∷ record { set = 1 } ∷ []

abbrev pub pausing_played : History
pausing_played =
    day 2 listing_terms 2 pausing_views (Played 0 5 ∷ Played 1 3 ∷ Played 1 3 ∷ Nobody ∷ Played 0 5 ∷ [])

-- width 1: campaigns 0 and 1 of one play each; both named are refused, and with 0 paused 1 is found alone
abbrev pub narrow_calls : List Call
narrow_calls =
    plan 2 1 ∷ campaign_of 5 5 ∷ campaign_of 3 3 ∷ start_day ∷ view 1 ∷ view 1 ∷ view 3 ∷ pause 0 ∷ view 3 ∷ []

abbrev pub narrow_played : History
narrow_played =
    day 1 (record { price = 5; budget = 5 } ∷ record { price = 3; budget = 3 } ∷ []) 1
    (record { set = 1 } ∷ record { set = 1 } ∷ record { set = 2 } ∷ [])
    (Played 0 5 ∷ Nobody ∷ Played 1 3 ∷ [])

-- the paper's budgets are those handed in, and of `cents_agrees` those without the cents left over
pub record ComputedDays : Type 0 where
  pub listing_agrees : ComputedDay (λ t. t.budget) (calls_made listing) (listing_played listing_terms) listing_players
  -- two finished copies of each make the whole of its budget
  pub listing_finished : map (λ i. equal ((algorithm_4 (instance_of (λ t. t.budget) (listing_played listing_terms))
      (slots listing_views)).z i) (integer 1)) (0 ∷ 1 ∷ []) ≡ true ∷ true ∷ []
  pub cents_agrees : ComputedDay spendable (calls_showing cents_terms listing_views) (listing_played cents_terms)
      listing_players
  pub quiet_agrees : ComputedDay (λ t. t.budget) (calls_showing listing_terms quiet_views) quiet_played
      (nobody ∷ plays 0 ∷ nobody ∷ plays 1 ∷ nobody ∷ [])
  pub pausing_agrees : ComputedDay (λ t. t.budget) pausing_day pausing_played
      (plays 0 ∷ plays 1 ∷ plays 1 ∷ nobody ∷ plays 0 ∷ [])
  pub narrow_agrees : ComputedDay (λ t. t.budget) narrow_calls narrow_played (plays 0 ∷ nobody ∷ plays 1 ∷ [])
