-- The examples, by computation.
use mathlib.Core.Path.{◌≡◌, refl, ap, sym, ◌∙◌}
use mathlib.Core.List.{List, [], ◌∷◌}
use Prim.Native.Nat.{ℕ, ◌≤◌}
use native.Mathlib.Omega.{arith}
use native.Mathlib.Nat.{le_refl}
use lib.ListN.{length, get_or-eq_default}
use Rattle.finite.specs.Finite.{sum, count, every, table, total}
use Rattle.sets.specs.Set.{member, size, within, collect, without, including}
use Rattle.powers.specs.Power.{weight, share}
use Rattle.campaigns.specs.Choice.{best, choice}
use Rattle.campaigns.specs.Campaign.{whole, claim, sound_plan, priced, counted, uncounted, empty, sound_campaign}
use Rattle.audit.specs.Sound.{sound_record}
use Rattle.day.specs.declared.Day.{Day}
use Rattle.day.specs.Day.{blank, total_takings, total_claim, total_budgets, sound}
use Rattle.questions.specs.Questions.{first_failed, width_holds}
use Rattle.day.specs.Calls.{marked, Call, call}
use Rattle.demands.specs.Transcript.{Exchange, transcript, final}
use Rattle.demands.specs.Cases.{calls_made, listing}
use Rattle.demands.proofs.Cases.{listing_runs, listing_ends}
use Rattle.allotments.specs.Allotment.{at, nobody, times, takings, certified}
use Rattle.allotments.specs.Most.{greatest, most}
use Rattle.floor.specs.History.{Starts, History, day_takings, own_views, history, continued}
use Rattle.floor.specs.History.Starts.{from_blank}
use Rattle.floor.specs.Short.{short_calls}
use Rattle.std.specs.Prelude.{true, Ok}
use Rattle.optimum.specs.Optimum.{plan_price, plan_whole, failed, fits, checked, allotment_takings, most_of}
use Rattle.optimum.specs.Optimum.{LeftAsItWas, Searched}
use Rattle.matching.proofs.Examples.{method_works}
use Rattle.hindsight.proofs.Hindsight.{floor_against_searched}
use Rattle.optimum.proofs.Greatest.{accepted_is_best}
use Rattle.hindsight.specs.Hindsight.{given_short, Room}
use Rattle.hindsight.specs.Examples.{recorded_day, Example, paused_listed, SearchWorked, Examples}

-- From the exchanges of the calls and the state at their end, each computed once; that an allotment which the check
-- accepts takes the most is not computed, but proved (`accepted_is_best`).
example : {cs : List Call} {xs : List Exchange} {s : Day} (allotment surplus worth : List ℕ) {paid most short : ℕ}
    → transcript blank cs ≡ xs → final blank cs ≡ s → Starts blank cs
    → checked s (own_views (history xs)) allotment surplus worth ≡ Ok true → day_takings (history xs) ≡ paid
    → allotment_takings s (length (own_views (history xs))) allotment ≡ most
    → given_short (history xs) (at allotment) ≡ short → Example cs allotment surplus worth paid most short
example {cs} {xs} {s} allotment surplus worth t f starts accepted paid taken short =
    let day : recorded_day cs ≡ history xs = ap history t in
    let best = accepted_is_best s (own_views (history xs)) allotment surplus worth accepted in record {
      starts = starts;
      accepted = ap (λ (h : History). checked (final blank cs) (own_views h) allotment surplus worth) day
          ∙ ap (λ (r : Day). checked r (own_views (history xs)) allotment surplus worth) f ∙ accepted;
      paid_is = ap day_takings day ∙ paid;
      most_is = ap (λ (h : History). most_of (final blank cs) (own_views h)) day
          ∙ ap (λ (r : Day). most_of r (own_views (history xs))) f ∙ sym best.takes_most ∙ taken;
      short_is = ap (λ (h : History). given_short h (at allotment)) day ∙ short;
    }

listing_example : Example (calls_made listing) (0 ∷ 0 ∷ 1 ∷ nobody ∷ 1 ∷ []) (5 ∷ 3 ∷ []) (0 ∷ 0 ∷ 0 ∷ 0 ∷ 0 ∷ []) 16
    16 0
unfolding continued first_failed sound sound_record sum count every table total within size member weight share whole
    claim total_takings total_claim total_budgets sound_plan priced counted uncounted empty sound_campaign times takings
    certified failed fits collect without including marked
listing_example =
    example (0 ∷ 0 ∷ 1 ∷ nobody ∷ 1 ∷ []) (5 ∷ 3 ∷ []) (0 ∷ 0 ∷ 0 ∷ 0 ∷ 0 ∷ []) listing_runs listing_ends
    (from_blank (calls_made listing)) refl refl refl refl

-- what the search leaves in lists of two entries for two views and two campaigns
left_two : (question : ℕ) (before after : List ℕ) → question ≡ 0 → length before ≡ 2 → length after ≡ 2
    → LeftAsItWas question 2 before after
left_two question before after q b a = record {
  same_length = a ∙ sym b;
  refused = λ no. absurd (no q);
  beyond = λ j l. get_or-eq_default after 0 (omega (arith, a))
      ∙ sym (get_or-eq_default before 0 (omega (arith, b)));
}

short_searched : Searched (final blank short_calls) (own_views (recorded_day short_calls)) (0 ∷ 0 ∷ []) (1 ∷ 0 ∷ [])
    (0 ∷ 0 ∷ []) (2 ∷ 2 ∷ []) (0 ∷ 0 ∷ []) (0 ∷ 0 ∷ []) (Ok 4)
unfolding transcript final continued call first_failed sound sound_record blank sum count every table total within
    size member width_holds weight share whole claim total_takings total_claim total_budgets sound_plan priced counted
    uncounted empty sound_campaign best choice times takings certified greatest most failed fits
    collect without including marked
short_searched = record {
  answer = refl;
  fit = λ q. refl;
  method = λ q. (method_works (plan_price (final blank short_calls)) (plan_whole (final blank short_calls)) (omega arith)
      refl refl).all_served;
  in_allotment = left_two 0 (0 ∷ 0 ∷ []) (1 ∷ 0 ∷ []) refl refl refl;
  in_surplus = left_two 0 (0 ∷ 0 ∷ []) (2 ∷ 2 ∷ []) refl refl refl;
  in_worth = left_two 0 (0 ∷ 0 ∷ []) (0 ∷ 0 ∷ []) refl refl refl;
}

short_room : Room (recorded_day short_calls) (final blank short_calls) (0 ∷ 0 ∷ []) (0 ∷ 0 ∷ []) (0 ∷ 0 ∷ [])
unfolding transcript final continued call first_failed sound sound_record blank sum count every table total within
    size member width_holds weight share whole claim total_takings total_claim total_budgets sound_plan priced counted
    uncounted empty sound_campaign best choice collect without including marked
short_room =
    let two : 2 ≤ 256 = omega arith in
    record { few = two; for_allotment = le_refl 2; for_campaigns = le_refl 2; for_views = le_refl 2 }

search_worked : SearchWorked (0 ∷ 0 ∷ []) (0 ∷ 0 ∷ []) (0 ∷ 0 ∷ []) (1 ∷ 0 ∷ []) (2 ∷ 2 ∷ []) (0 ∷ 0 ∷ [])
search_worked = record {
  room = short_room;
  searched = short_searched;
  covered = floor_against_searched blank short_calls (from_blank short_calls) (0 ∷ 0 ∷ []) (1 ∷ 0 ∷ []) (0 ∷ 0 ∷ [])
      (2 ∷ 2 ∷ []) (0 ∷ 0 ∷ []) (0 ∷ 0 ∷ []) (Ok 4) short_room short_searched;
}

pub examples : Examples
unfolding transcript final continued call first_failed sound sound_record blank sum count every table total within
    size member width_holds weight share whole claim total_takings total_claim total_budgets sound_plan priced counted
    uncounted empty sound_campaign best choice times takings certified greatest most failed fits
    collect without including marked
examples = record {
  of_listing = listing_example;
  short = record { starts = from_blank short_calls; accepted = refl; paid_is = refl; most_is = refl; short_is = refl };
  not_covered = λ (h : 12 ≤ 8). omega arith;
  paused = record {
    starts = from_blank paused_listed;
    accepted = refl;
    paid_is = refl;
    most_is = refl;
    short_is = refl;
  };
  paused_not_covered = λ (h : 24 ≤ 20). omega arith;
  search = search_worked;
  found_alone = record { found_is = refl; more = refl; accepted = refl; rejected = refl };
}
