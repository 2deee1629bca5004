-- Document 01's listing and further days beside Algorithm 4: the day is computed by the calls and the matches in
-- fractions; that they agree is the theorem.
use mathlib.Core.Path.{◌≡◌, refl, ap}
use mathlib.Core.List.{List}
use Prim.Native.Nat.{ℕ}
use Rattle.finite.specs.Finite.{sum, count, every, table}
use Rattle.sets.specs.Set.{member, size, within, collect, without, including}
use Rattle.powers.specs.Power.{weight, share}
use Rattle.campaigns.specs.declared.Terms.{Terms}
use Rattle.campaigns.specs.Choice.{Choice, best, choice}
use Rattle.campaigns.specs.Campaign.{whole, claim, sound_plan, sound_campaign, priced, counted, uncounted, empty}
use Rattle.audit.specs.Sound.{sound_record}
use Rattle.day.specs.Day.{blank, total_takings, total_claim, total_budgets, sound}
use Rattle.questions.specs.Questions.{first_failed, width_holds}
use Rattle.day.specs.Calls.{marked, Call, call}
use Rattle.demands.specs.Transcript.{transcript}
use Rattle.demands.specs.Cases.{calls_made, listing}
use Rattle.demands.proofs.Cases.{listing_runs}
use Rattle.floor.specs.History.{History, continued, history}
use Rattle.floor.specs.History.Starts.{from_blank}
use Rattle.floor.specs.Moments.{pausing_day}
use Rattle.refinement.specs.Algorithm4.{C, feasible, line_2, line_4, lines_3_to_11, matches_from, matches}
use Rattle.refinement.specs.Correspondence.{BuysAlike, spendable, slots}
use Rattle.refinement.specs.Days.{instance_of}
use Rattle.refinement.specs.Examples.{calls_showing, ComputedDay, listing_terms, listing_views, listing_played}
use Rattle.refinement.specs.Examples.{cents_terms, quiet_views, quiet_played, pausing_played, narrow_calls}
use Rattle.refinement.specs.Examples.{narrow_played, ComputedDays}
use Rattle.refinement.proofs.Budgets.{budget_buys, spendable_buys}
use Rattle.refinement.proofs.Days.{days_as_algorithm_4}

-- the exchanges of the listing are known, so its day is read off them
listing_day_is : history (transcript blank (calls_made listing)) ≡ listing_played listing_terms
unfolding continued collect without member
listing_day_is = ap history listing_runs

record DaysAre : Type 0 where
  cents_day : history (transcript blank (calls_showing cents_terms listing_views)) ≡ listing_played cents_terms
  quiet_day : history (transcript blank (calls_showing listing_terms quiet_views)) ≡ quiet_played
  paused_day : history (transcript blank pausing_day) ≡ pausing_played
  narrow_day : history (transcript blank narrow_calls) ≡ narrow_played

days_are : DaysAre
unfolding continued transcript call first_failed sound sound_record sound_plan sound_campaign priced counted uncounted
    empty total_takings total_claim total_budgets blank width_holds size within choice best whole claim weight share
    member sum count every table collect without including marked
days_are = record { cents_day = refl; quiet_day = refl; paused_day = refl; narrow_day = refl }

-- what holds of a day whose matches are computed
computed_day : (B : Terms → ℕ) → BuysAlike B → (cs : List Call) {h : History} {ms : List Choice}
    → history (transcript blank cs) ≡ h → matches (instance_of B h) (slots h.views) ≡ ms
    → ComputedDay B cs h ms
computed_day B buys cs e m = record {
  starts = from_blank cs;
  day_is = e;
  matches_are = m;
  agrees = days_as_algorithm_4 B buys blank cs (from_blank cs);
}

pub computed_days : ComputedDays
unfolding matches_from line_2 lines_3_to_11 line_4 feasible C best member sum
computed_days = record {
  listing_agrees = computed_day (λ t. t.budget) budget_buys (calls_made listing) listing_day_is refl;
  listing_finished = refl;
  cents_agrees =
      computed_day spendable spendable_buys (calls_showing cents_terms listing_views) days_are.cents_day refl;
  quiet_agrees =
      computed_day (λ t. t.budget) budget_buys (calls_showing listing_terms quiet_views) days_are.quiet_day refl;
  pausing_agrees = computed_day (λ t. t.budget) budget_buys pausing_day days_are.paused_day refl;
  narrow_agrees = computed_day (λ t. t.budget) budget_buys narrow_calls days_are.narrow_day refl;
}
