-- Document 01's listing pays 16, the day replayed behind it begins again and pays 2, and the day with a pause pays 10:
-- by computation.
use mathlib.Core.Path.{◌≡◌, refl, ap, ◌∙◌, subst⁻¹}
use mathlib.Core.List.{List}
use Prim.Native.Nat.{ℕ}
use Rattle.finite.specs.Finite.{sum, count, every, table, total}
use Rattle.sets.specs.Set.{member, size, within, collect, without, including}
use Rattle.powers.specs.Power.{weight, share}
use Rattle.campaigns.specs.Choice.{best, choice}
use Rattle.campaigns.specs.Campaign.{whole, claim, sound_plan, priced, counted, uncounted, empty, sound_campaign}
use Rattle.audit.specs.Sound.{sound_record}
use Rattle.day.specs.declared.Day.{Day}
use Rattle.day.specs.Day.{blank, total_takings, total_claim, total_budgets}
use Rattle.day.specs.Day.{sound}
use Rattle.questions.specs.Questions.{first_failed, width_holds}
use Rattle.day.specs.Calls.{marked, Call, call}
use Rattle.demands.specs.Transcript.{Exchange, transcript, final}
use Rattle.demands.specs.Cases.{calls_made, listing, listing_end}
use Rattle.demands.proofs.Cases.{listing_runs, listing_ends}
use Rattle.floor.specs.History.{Starts, day_takings, continued, history}
use Rattle.floor.specs.History.Starts.{from_blank, from_opening}
use Rattle.floor.specs.Moments.{second_day}
use Rattle.replay.specs.Replay.{call_in, decode}
use Rattle.replay.specs.Examples.{Example, Examples, listing_words, next_day, with_pause, pausing}

example : (s : Day) (words : List ℕ) (calls : List Call) (paid : ℕ) → decode words ≡ calls → Starts s calls
    → day_takings (history (transcript s calls)) ≡ paid → Example s words calls paid
example s words calls paid e st p =
    let here : Starts s (decode words) = subst⁻¹ (Starts s) e st in
    let sum_is : day_takings (history (transcript s (decode words))) ≡ paid =
    ap (λ (cs : List Call). day_takings (history (transcript s cs))) e ∙ p in
    record { encodes = e; starts = here; pays = λ r q. (q.paid_is ∙ sum_is, (q.demand_3 here).takings_is ∙ sum_is) }

pub examples : Examples
unfolding call_in decode transcript final continued call first_failed sound sound_record blank sum count every table
    total within size member width_holds weight share whole claim total_takings total_claim total_budgets sound_plan
    priced counted uncounted empty sound_campaign best choice collect without including marked
examples = (
  example blank listing_words (calls_made listing) 16 refl (from_blank (calls_made listing))
      (ap (λ (xs : List Exchange). day_takings (history xs)) listing_runs),
  subst⁻¹ (λ (s : Day). Example s next_day second_day 2) listing_ends
      (example listing_end next_day second_day 2 refl (from_opening listing_end _ _ refl) refl),
  example blank with_pause pausing 10 refl (from_blank pausing) refl,
)
