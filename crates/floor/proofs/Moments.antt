-- The figures of the days are computed; so is the sound state that owes more than full.
use mathlib.Core.Path.{refl, subst⁻¹}
use mathlib.Core.List.{List}
use Rattle.std.specs.Prelude.{Result}
use Prim.Native.Nat.{◌≤◌}
use native.Mathlib.Omega.{arith}
use Rattle.finite.specs.Finite.{sum, count, every, table}
use Rattle.sets.specs.Set.{member, size, within, collect, without, including}
use Rattle.powers.specs.Power.{weight, share}
use Rattle.campaigns.specs.Choice.{best, choice}
use Rattle.campaigns.specs.Campaign.{whole, claim, sound_plan, priced, counted, uncounted, empty, sound_campaign}
use Rattle.audit.specs.Sound.{sound_record}
use Rattle.day.specs.declared.Day.{Day}
use Rattle.day.specs.Day.{blank, total_takings, total_claim, total_budgets, sound}
use Rattle.questions.specs.Questions.{first_failed, width_holds}
use Rattle.day.specs.Calls.{marked, call}
use Rattle.refusal.specs.declared.Refusal.{Refusal}
use Rattle.noon.specs.declared.Figures.{Figures}
use Rattle.noon.specs.Noon.{due, total_due, at_noon}
use Rattle.demands.specs.Transcript.{final}
use Rattle.demands.specs.Cases.{calls_made, listing, listing_end}
use Rattle.demands.proofs.Cases.{listing_ends}
use Rattle.floor.specs.History.Starts.{from_blank, from_opening}
use Rattle.floor.specs.Moments.{moments, FiguresAfter, second_day, width_1, pausing_day, depth_3, Moments}
use Rattle.floor.specs.Moments.{NeedsHistory}

behind_listing : {xs : List (Result Figures Refusal)} → FiguresAfter listing_end second_day xs
    → FiguresAfter (final blank (calls_made listing)) second_day xs
behind_listing {xs} f = subst⁻¹ (λ (s : Day). FiguresAfter s second_day xs) listing_ends f

pub figures_at_noon : Moments
unfolding moments at_noon due total_due call first_failed sound sound_record blank sum count every table within
    size member width_holds weight share whole claim total_takings total_claim total_budgets sound_plan priced counted
    uncounted empty sound_campaign best choice collect without including marked
figures_at_noon = record {
  first_day = record { starts = from_blank (calls_made listing); figures_are = refl };
  next_day =
      behind_listing (record { starts = from_opening listing_end _ _ refl; figures_are = refl });
  narrow = record { starts = from_blank width_1; figures_are = refl };
  pausing = record { starts = from_blank pausing_day; figures_are = refl };
  deep = record { starts = from_blank depth_3; figures_are = refl };
}

pub needs_history : NeedsHistory
unfolding at_noon due total_due first_failed sound sound_record sum every table weight share whole claim total_takings
    total_claim total_budgets sound_plan priced counted uncounted empty sound_campaign within member collect without
needs_history = record { is_sound = refl; figures_are = refl; not_kept = λ (l : 5 ≤ 0). omega arith }
