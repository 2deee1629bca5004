-- Soundness by cases: for each clause of document 01's "sound" states that break just that clause, which get 1, and
-- next to them one that is sound. The paused marks of document 02 stand in `cases`.
use Rattle.std.specs.Prelude.{List, [], ◌∷◌, ℕ, get_or}
use Rattle.campaigns.specs.declared.Campaign.{Campaign}
use Rattle.campaigns.specs.declared.Phase.{Phase}
use Rattle.campaigns.specs.declared.Phase.TheVariants.{Filling, Running, Closed}
use Rattle.campaigns.specs.Campaign.{fresh}
use Rattle.day.specs.declared.Answer.TheVariants.{Refused, Done}
use Rattle.day.specs.declared.Day.{Day}
use Rattle.day.specs.Day.{campaign, state_with, no_terms, empty_plan}
use Rattle.day.specs.Calls.{tally_of}
use Rattle.day.specs.Calls.Call.{ask_tally}
use Rattle.demands.specs.Cases.{Case, AllHold, plan, state, ◌gives◌}
use Rattle.demands.specs.Cases.Case.{resumed}

-- a campaign's record
abbrev pub record_of : (price budget plays turns age named : ℕ) → Campaign
record_of price budget plays turns age named = record {
  price = price;
  budget = budget;
  plays = plays;
  turns = turns;
  age = age;
  named = named;
}

-- a state whose entries are these records, and zero behind them; n of them count as campaigns
abbrev pub state_holding : Phase → (depth width n accepted : ℕ) → List Campaign → Day
state_holding p k d n a cs = state_with
    (record { phase = p; plan = record { depth = k; width = d }; count = n; accepted = a; paused = 0 })
    (λ i. get_or cs i (fresh no_terms))

-- with one campaign
abbrev pub state_of_one : Phase → (depth width accepted : ℕ) → Campaign → Day
state_of_one p k d a c = state_holding p k d 1 a (c ∷ [])

-- the state is refused, and it is not: the call is the tally of campaign 0, which every phase gives
abbrev pub refuses : Day → Case
refuses s = resumed s (ask_tally 0 gives Refused 1 ∷ [])

abbrev pub tallies : Day → Case
tallies s = resumed s (ask_tally 0 gives tally_of (campaign s 0) ∷ [])

-- a Closed state without campaigns, of a depth and width that no opening gives, and of those that one gives
abbrev pub plan_refused : (depth width : ℕ) → Case
plan_refused k d = resumed (empty_plan (Closed 0) (record { depth = k; width = d })) (plan 1 1 gives Refused 1 ∷ [])

abbrev pub plan_taken : (depth width : ℕ) → Case
plan_taken k d = resumed (empty_plan (Closed 0) (record { depth = k; width = d })) (plan 1 1 gives Done ∷ [])

-- the record c in the entry past the last campaign, while the day runs
abbrev pub past_the_last : Campaign → Day
past_the_last c = state_holding Running 2 2 1 3 (record_of 5 10 1 1 1 3 ∷ c ∷ [])

abbrev pub soundness_cases : List Case
soundness_cases =
    -- questions 3, 4 and 5: the depth, the width and the power
    plan_refused 0 1 ∷ plan_refused 33 1 ∷ plan_taken 32 1 ∷
    plan_refused 1 0 ∷ plan_refused 1 17 ∷ plan_taken 1 16 ∷
    plan_refused 21 3 ∷ plan_refused 32 16 ∷ plan_taken 20 3 ∷
    -- question 8: the price
    refuses (state_of_one Running 2 2 0 (record_of 0 10 0 0 0 0)) ∷
    refuses (state_of_one Running 2 2 0 (record_of 1_000_001 1_000_001 0 0 0 0)) ∷
    tallies (state_of_one Running 2 2 0 (record_of 1_000_000 1_000_000 0 0 0 0)) ∷
    -- question 9: the budget (above 2,000,000,000 it breaks question 10 too)
    refuses (state_of_one Running 2 2 0 (record_of 5 4 0 0 0 0)) ∷
    refuses (state_of_one Running 2 2 0 (record_of 5 2_000_000_001 0 0 0 0)) ∷
    tallies (state_of_one Running 2 2 0 (record_of 5 5 0 0 0 0)) ∷
    tallies (state_of_one Running 2 2 0 (record_of 5 2_000_000_000 0 0 0 0)) ∷
    -- question 10: all budgets
    refuses (state_holding Running 2 2 2 0 (record_of 1 1_000_000_000 0 0 0 0 ∷ record_of 1 1_000_000_001 0 0 0 0 ∷
    [])) ∷
    tallies (state_holding Running 2 2 2 0 (record_of 1 1_000_000_000 0 0 0 0 ∷ record_of 1 1_000_000_000 0 0 0 0 ∷
    [])) ∷
    -- at most 64 campaigns, and at most 4,096 accepted views
    refuses (state Running 65 0) ∷ tallies (state Running 64 0) ∷
    refuses (state Running 1 4_097) ∷ tallies (state Running 1 4_096) ∷
    -- entries past the last are all zero: price, budget, plays, turns, age, named
    refuses (past_the_last (record_of 1 0 0 0 0 0)) ∷ refuses (past_the_last (record_of 0 1 0 0 0 0)) ∷
    refuses (past_the_last (record_of 0 0 1 0 0 0)) ∷ refuses (past_the_last (record_of 0 0 0 1 0 0)) ∷
    refuses (past_the_last (record_of 0 0 0 0 1 0)) ∷ refuses (past_the_last (record_of 0 0 0 0 0 1)) ∷
    tallies (past_the_last (record_of 0 0 0 0 0 0)) ∷
    -- age < depth
    refuses (state_of_one Running 2 2 3 (record_of 5 15 3 3 2 3)) ∷
    tallies (state_of_one Running 2 2 3 (record_of 5 15 3 3 1 3)) ∷
    -- plays ≤ whole plays
    refuses (state_of_one Running 2 2 3 (record_of 5 14 3 3 0 3)) ∷
    tallies (state_of_one Running 2 2 3 (record_of 5 15 3 3 0 3)) ∷
    -- plays ≤ turns
    refuses (state_of_one Running 2 2 3 (record_of 5 10 2 1 0 3)) ∷
    tallies (state_of_one Running 2 2 3 (record_of 5 10 2 2 0 3)) ∷
    -- turns ≤ named
    refuses (state_of_one Running 2 2 3 (record_of 5 10 2 2 0 1)) ∷
    tallies (state_of_one Running 2 2 3 (record_of 5 10 2 2 0 2)) ∷
    -- named ≤ accepted views
    refuses (state_of_one Running 2 2 2 (record_of 5 10 2 2 0 3)) ∷
    tallies (state_of_one Running 2 2 3 (record_of 5 10 2 2 0 3)) ∷
    -- in Filling all counts, accepted views included, are zero
    refuses (state_of_one Filling 2 1 1 (record_of 5 10 0 0 0 0)) ∷
    refuses (state_of_one Filling 2 1 0 (record_of 5 10 0 0 1 0)) ∷
    refuses (state_of_one Filling 2 1 1 (record_of 5 10 0 0 0 1)) ∷
    tallies (state_of_one Filling 2 1 0 (record_of 5 10 0 0 0 0)) ∷
    tallies (state_of_one Running 2 1 1 (record_of 5 10 0 0 1 1)) ∷
    -- a Closed phase holds the takings
    refuses (state_of_one (Closed 4) 2 2 3 (record_of 5 10 1 1 1 3)) ∷
    refuses (state_of_one (Closed 6) 2 2 3 (record_of 5 10 1 1 1 3)) ∷
    tallies (state_of_one (Closed 5) 2 2 3 (record_of 5 10 1 1 1 3)) ∷
    -- the total claim is at most d^k × takings: 3 against 2, and 2 against 2
    refuses (state_of_one Running 1 2 3 (record_of 1 1 1 3 0 3)) ∷
    tallies (state_of_one Running 1 2 3 (record_of 1 1 1 2 0 3)) ∷
    -- and its sum is exact: 26,177,825,663,025,000,000 against 8,585,639,624,704,000,000; in 64 bits it wraps below
    refuses (state_holding Running 32 2 2 4_096 (record_of 1_000_000 1_999_000_000 1_999 1_999 0 4_096 ∷
    record_of 1_000_000 1_000_000 0 4_096 0 4_096 ∷ [])) ∷
    -- no more is asked: the plays may sum to more than the accepted views
    tallies (state_holding Running 1 2 2 1 (record_of 1 1 1 1 0 1 ∷ record_of 1 1 1 1 0 1 ∷ [])) ∷
    []

abbrev pub SoundnessHolds : Type 0
SoundnessHolds = AllHold soundness_cases
