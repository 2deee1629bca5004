-- Document 01's listing, its cases by the limits and further ones, as one table.
use Rattle.std.specs.Prelude.{◌≡◌, true, false, cond, List, [], ◌∷◌, map, ℕ, ltb, get_or}
use Rattle.finite.specs.Finite.{table}
use Rattle.campaigns.specs.declared.Phase.{Phase}
use Rattle.campaigns.specs.declared.Phase.TheVariants.{Filling, Running, Closed}
use Rattle.campaigns.specs.Campaign.{score, fresh}
use Rattle.day.specs.declared.Answer.{Answer}
use Rattle.day.specs.declared.Answer.TheVariants.{Refused, Done, Played, Nobody, Tallied, Closing}
use Rattle.day.specs.declared.Day.{Day}
use Rattle.day.specs.Day.{campaign, state_with, no_terms, blank}
use Rattle.day.specs.Calls.{Call}
use Rattle.day.specs.Calls.Call.{open_plan, add_campaign, start_day, show_view, ask_tally, close_day, mark_campaign}
use Rattle.demands.specs.Transcript.{Exchange, transcript, final}

infix 70 ◌gives◌
-- a call and its answer
abbrev pub ◌gives◌ : Call → Answer → Exchange
c gives a = record { made = c; answer = a }

abbrev pub calls_made : List Exchange → List Call
calls_made xs = map (λ x. x.made) xs

abbrev pub plan : (depth width : ℕ) → Call
plan k d = open_plan (record { depth = k; width = d })

abbrev pub campaign_of : (price budget : ℕ) → Call
campaign_of p b = add_campaign (record { price = p; budget = b })

abbrev pub view : (set : ℕ) → Call
view v = show_view (record { set = v })

pub data Case : Type 0 where
  -- calls with the answers that they get from the blank state, and from a state
  answered : List Exchange → Case
  resumed : Day → List Exchange → Case
  -- calls from the blank state, and the scores of the campaigns after them
  scored : List Call → List ℕ → Case
  -- calls from the blank state, and the state at their end
  ended : List Call → Day → Case

abbrev pub scores : Day → List ℕ
scores s = table s.count (λ i. score s.plan.depth s.plan.width (campaign s i))

-- a pausing and a resuming
abbrev pub pause : (campaign : ℕ) → Call
pause i = mark_campaign true i

abbrev pub resume : (campaign : ℕ) → Call
resume i = mark_campaign false i

-- a state of depth 1 and width 1 with n campaigns of price 1 and one play, which nothing named; m are its marks
abbrev pub state_marked : Phase → (count accepted m : ℕ) → Day
state_marked p n a m = state_with
    (record { phase = p; plan = record { depth = 1; width = 1 }; count = n; accepted = a; paused = m })
    (λ i. fresh (cond (ltb i n) (record { price = 1; budget = 1 }) no_terms))

abbrev pub state : Phase → (count accepted : ℕ) → Day
state p n a = state_marked p n a 0

-- document 01's listing, and the state at its end
abbrev pub listing : List Exchange
listing =
    plan 2 2 gives Done ∷ campaign_of 5 10 gives Done ∷ campaign_of 3 6 gives Done ∷ start_day gives Done ∷
    view 3 gives Played 0 5 ∷ view 3 gives Played 1 3 ∷ view 3 gives Played 0 5 ∷ view 1 gives Nobody ∷
    view 2 gives Played 1 3 ∷ view 4 gives Refused 13 ∷
    close_day gives Closing 16 48 64 ∷ ask_tally 0 gives Tallied 2 2 0 4 ∷ ask_tally 1 gives Tallied 2 2 0 4 ∷ []

abbrev pub listing_end : Day
listing_end = state_with
    (record { phase = Closed 16; plan = record { depth = 2; width = 2 }; count = 2; accepted = 5; paused = 0 })
    (λ i. get_or (record { price = 5; budget = 10; plays = 2; turns = 2; age = 0; named = 4 } ∷
    record { price = 3; budget = 6; plays = 2; turns = 2; age = 0; named = 4 } ∷ []) i (fresh no_terms))

abbrev pub Holds : Case → Type 0
Holds (answered xs) = transcript blank (calls_made xs) ≡ xs
Holds (resumed s xs) = transcript s (calls_made xs) ≡ xs
Holds (scored cs ns) = scores (final blank cs) ≡ ns
Holds (ended cs s) = final blank cs ≡ s

abbrev pub AllHold : List Case → Type 0
AllHold [] = Unit {0}
AllHold (c ∷ cs) = Holds c × AllHold cs

abbrev pub cases : List Case
cases =
    -- ★ depth 32 width 2 opens
    answered (plan 32 2 gives Done ∷ []) ∷
    -- ★ depth 20 width 3 opens, ★ 21 gives 5
    answered (plan 21 3 gives Refused 5 ∷ plan 20 3 gives Done ∷ []) ∷
    -- ★ depth 8 width 16 opens, depth 9 gives 5
    answered (plan 9 16 gives Refused 5 ∷ plan 8 16 gives Done ∷ []) ∷
    -- ★ depth 33 width 1 gives 3; ★ depth 0 width 0 gives 3
    answered (plan 33 1 gives Refused 3 ∷ plan 0 0 gives Refused 3 ∷ []) ∷
    -- ★ price 5 budget 4 gives 9; budget 5 is taken; ★ price 0 budget 0 gives 8
    answered (plan 2 2 gives Done ∷ campaign_of 5 4 gives Refused 9 ∷ campaign_of 5 5 gives Done ∷
    campaign_of 0 0 gives Refused 8 ∷ []) ∷
    -- two budgets of 1,000,000,000 are taken; a third of 1 gives 10
    answered (plan 2 2 gives Done ∷ campaign_of 1 1_000_000_000 gives Done ∷ campaign_of 1 1_000_000_000 gives Done ∷
    campaign_of 1 1 gives Refused 10 ∷ []) ∷
    -- ★ the second view of the listing: scores 5 and 6, campaign 1 plays
    scored (plan 2 2 ∷ campaign_of 5 10 ∷ campaign_of 3 6 ∷ start_day ∷ view 3 ∷ []) (5 ∷ 6 ∷ []) ∷
    -- the listing, whose fourth view ★ plays nobody; the tallies that follow closing are asked for one by one
    answered listing ∷ ended (calls_made listing) listing_end ∷
    -- ★ two fresh campaigns at price 4 with equal budgets: campaign 0 plays
    answered (plan 2 2 gives Done ∷ campaign_of 4 8 gives Done ∷ campaign_of 4 8 gives Done ∷ start_day gives Done ∷
    view 3 gives Played 0 4 ∷ []) ∷
    -- ★ depth 1, width 2, prices 2 and 1: campaign 0 plays; campaign 1 gains a turn at age 0
    answered (
    plan 1 2 gives Done ∷ campaign_of 2 2 gives Done ∷ campaign_of 1 1 gives Done ∷ start_day gives Done ∷
    view 3 gives Played 0 2 ∷ ask_tally 1 gives Tallied 0 1 0 1 ∷ []) ∷
    -- Further limits and orders of questions, which the cases above do not reach.
    -- the blank state: Closed, without campaigns; 4 is asked before 5, 6 before 8 and 11 before 13
    answered (
    campaign_of 1 1 gives Refused 6 ∷ campaign_of 0 0 gives Refused 6 ∷ start_day gives Refused 6 ∷
    view 0 gives Refused 11 ∷ view 32 gives Refused 11 ∷ close_day gives Refused 11 ∷ ask_tally 0 gives Refused 15 ∷
    plan 1 0 gives Refused 4 ∷ plan 1 17 gives Refused 4 ∷ plan 32 16 gives Refused 5 ∷ plan 33 17 gives Refused 3 ∷
    plan 9 17 gives Refused 4 ∷
    -- request 5: a depth like the budget that gets 9 gets 3
    plan 4_294_967_296 1 gives Refused 3 ∷
    plan 32 1 gives Done ∷ plan 0 0 gives Refused 2 ∷ []) ∷
    -- a price of 1,000,000 is taken and one more gives 8; a budget of 2,000,000,000 is taken and one more gives 9
    answered (
    plan 1 16 gives Done ∷ campaign_of 1_000_001 1_000_001 gives Refused 8 ∷
    campaign_of 1 2_000_000_001 gives Refused 9 ∷ campaign_of 5 4_294_967_296 gives Refused 9 ∷
    campaign_of 4_294_967_296 4_294_967_296 gives Refused 8 ∷ campaign_of 1_000_000 2_000_000_000 gives Done ∷
    campaign_of 2 1 gives Refused 9 ∷ campaign_of 1 1 gives Refused 10 ∷ view 1 gives Refused 11 ∷
    start_day gives Done ∷ start_day gives Refused 6 ∷ []) ∷
    -- 10 sums the budgets, with the cents left over
    answered (plan 2 2 gives Done ∷ campaign_of 1_000_000 1_999_999_999 gives Done ∷ campaign_of 1 2 gives Refused 10 ∷
    campaign_of 1 1 gives Done ∷ []) ∷
    -- cents left over stay unspent; spent, the campaign is named on and ages no more
    answered (
    plan 2 2 gives Done ∷ campaign_of 5 9 gives Done ∷ start_day gives Done ∷ view 1 gives Played 0 5 ∷
    view 1 gives Nobody ∷ ask_tally 0 gives Tallied 1 1 0 2 ∷
    close_day gives Closing 5 15 20 ∷ close_day gives Refused 11 ∷ []) ∷
    -- nor does it age at width 1
    answered (
    plan 3 1 gives Done ∷ campaign_of 5 5 gives Done ∷ start_day gives Done ∷ view 1 gives Played 0 5 ∷
    view 1 gives Nobody ∷ ask_tally 0 gives Tallied 1 1 0 2 ∷ []) ∷
    -- a view of none is accepted and played by nobody, of three where the width is 2 gives 14, and 13 is asked before;
    -- at its end a turn counts in that same view
    answered (
    plan 2 2 gives Done ∷ campaign_of 3 9 gives Done ∷ campaign_of 2 2 gives Done ∷ campaign_of 1 1 gives Done ∷
    start_day gives Done ∷
    view 0 gives Nobody ∷ view 7 gives Refused 14 ∷ view 15 gives Refused 13 ∷ ask_tally 3 gives Refused 15 ∷
    view 5 gives Played 0 3 ∷ ask_tally 2 gives Tallied 0 0 1 1 ∷ view 0 gives Nobody ∷
    ask_tally 2 gives Tallied 0 0 1 1 ∷ view 5 gives Played 0 3 ∷ ask_tally 2 gives Tallied 0 1 0 2 ∷ []) ∷
    -- a day may start with no campaigns
    answered (plan 2 2 gives Done ∷ start_day gives Done ∷ view 0 gives Nobody ∷ view 1 gives Refused 13 ∷
    close_day gives Closing 0 0 0 ∷ view 0 gives Refused 11 ∷ []) ∷
    -- a campaign is the 64th, and another gives 7, which is asked before 8; 6 is asked before 7
    resumed (state Filling 63 0) (campaign_of 1 1 gives Done ∷ campaign_of 1 1 gives Refused 7 ∷
    campaign_of 0 0 gives Refused 7 ∷ start_day gives Done ∷ campaign_of 1 1 gives Refused 6 ∷ []) ∷
    -- a view is the 4,096th, and another gives 12; it is asked before 13; a view of none counts
    resumed (state Running 1 4_095) (view 2 gives Refused 13 ∷ view 1 gives Played 0 1 ∷ view 2 gives Refused 12 ∷
    view 1 gives Refused 12 ∷ []) ∷
    resumed (state Running 1 4_095) (view 0 gives Nobody ∷ view 0 gives Refused 12 ∷ view 1 gives Refused 12 ∷ []) ∷
    -- 11 is asked before 12 and 13
    resumed (state (Closed 0) 1 4_096) (view 2 gives Refused 11 ∷ []) ∷
    -- no call of a state with more: 1
    resumed (state Running 1 4_097) (view 0 gives Refused 1 ∷ view 1 gives Refused 1 ∷ close_day gives Refused 1 ∷
    ask_tally 0 gives Refused 1 ∷ []) ∷
    -- Pausing (document 02, request 3).
    -- it is for Running alone, and that is asked before the number; twice is done twice; a new plan has no marks
    answered (
    pause 0 gives Refused 11 ∷ plan 2 2 gives Done ∷ campaign_of 3 9 gives Done ∷ pause 0 gives Refused 11 ∷
    resume 9 gives Refused 11 ∷ start_day gives Done ∷ pause 1 gives Refused 15 ∷ resume 64 gives Refused 15 ∷
    resume 0 gives Done ∷ pause 0 gives Done ∷ pause 0 gives Done ∷ view 1 gives Nobody ∷
    ask_tally 0 gives Tallied 0 0 0 0 ∷ resume 0 gives Done ∷ view 1 gives Played 0 3 ∷ pause 0 gives Done ∷
    close_day gives Closing 3 9 12 ∷ resume 0 gives Refused 11 ∷ plan 1 1 gives Done ∷ campaign_of 2 2 gives Done ∷
    start_day gives Done ∷ view 1 gives Played 0 2 ∷ []) ∷
    -- a paused name is neither played nor passed over, and is no longer counted for 14; 13 still sees it
    answered (
    plan 2 2 gives Done ∷ campaign_of 3 9 gives Done ∷ campaign_of 2 4 gives Done ∷ campaign_of 1 1 gives Done ∷
    start_day gives Done ∷ view 7 gives Refused 14 ∷ pause 0 gives Done ∷ view 7 gives Played 1 2 ∷
    ask_tally 0 gives Tallied 0 0 0 0 ∷ ask_tally 2 gives Tallied 0 0 1 1 ∷ view 8 gives Refused 13 ∷
    view 9 gives Refused 13 ∷ pause 1 gives Done ∷ pause 2 gives Done ∷ view 7 gives Nobody ∷
    resume 0 gives Done ∷ view 7 gives Played 0 3 ∷ ask_tally 2 gives Tallied 0 0 1 1 ∷ []) ∷
    -- a view that finds none counts among the 4,096
    resumed (state_marked Running 1 4_095 1) (view 1 gives Nobody ∷ view 1 gives Refused 12 ∷ []) ∷
    -- a mark in Filling, or past the last campaign in any phase: 1; of a campaign of the plan it is free when closed
    resumed (state_marked Filling 1 0 1) (start_day gives Refused 1 ∷ pause 0 gives Refused 1 ∷ []) ∷
    resumed (state_marked Running 1 0 2) (view 1 gives Refused 1 ∷ resume 1 gives Refused 1 ∷ []) ∷
    resumed (state_marked (Closed 0) 1 0 2) (ask_tally 0 gives Refused 1 ∷ plan 1 1 gives Refused 1 ∷ []) ∷
    resumed (state_marked (Closed 0) 1 0 1) (ask_tally 0 gives Tallied 0 0 0 0 ∷ plan 1 1 gives Done ∷ []) ∷
    []

abbrev pub CasesHold : Type 0
CasesHold = AllHold cases
