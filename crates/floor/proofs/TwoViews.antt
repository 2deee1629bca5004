-- The two days that show what the premise of demand 3 needs are one but for a paused mark: two campaigns of one play,
-- and two views. They are read off their calls, and both sides of the floor are computed of them.
use mathlib.Core.Path.{◌≡◌, refl}
use mathlib.Core.Bool.{true}
use mathlib.Core.List.{[], ◌∷◌}
use Prim.Native.Nat.{ℕ, ◌≤◌}
use native.Mathlib.Omega.{arith}
use borrow.Author.Tests.{leb-true}
use Rattle.finite.specs.Finite.{sum, count, every, table, total}
use Rattle.sets.specs.Set.{member, size, within, collect, without, including}
use Rattle.powers.specs.Power.{weight, share}
use Rattle.allotments.specs.Allotment.{times, takings}
use Rattle.campaigns.specs.Choice.{best, choice}
use Rattle.campaigns.specs.Campaign.{whole, claim, sound_plan, priced, counted, uncounted, empty, sound_campaign}
use Rattle.audit.specs.Sound.{sound_record}
use Rattle.day.specs.Day.{blank, total_takings, total_claim, total_budgets}
use Rattle.day.specs.Day.{sound}
use Rattle.day.specs.declared.Answer.TheVariants.{Played, Nobody}
use Rattle.questions.specs.Questions.{first_failed, width_holds}
use Rattle.day.specs.Calls.{marked, call}
use Rattle.demands.specs.Transcript.{transcript}
use Rattle.floor.specs.History.{History, continued}
use Rattle.floor.specs.Floor.{price_of, unstruck, falls_short, Allotted, takings_of, Covered}
use Rattle.floor.specs.Short.{short_day, short_to}
use Rattle.floor.specs.Paused.{paused_day}
use Rattle.floor.proofs.Tight.{allotted_of}

-- with the marks m at its end
unfoldable pub day : ℕ → History
day m =
    record {
      plan = record { depth = 2; width = 2 };
      terms = record { price = 2; budget = 3 } ∷ record { price = 2; budget = 3 } ∷ [];
      paused = m;
      views = record { set = 3 } ∷ record { set = 1 } ∷ [];
      answers = Played 0 2 ∷ Nobody ∷ [];
    }

pub days_are : (short_day ≡ day 0) × (paused_day ≡ day 2)
unfolding day transcript continued call first_failed sound sound_record blank sum count every table total within size
    member width_holds weight share whole claim total_takings total_claim total_budgets sound_plan priced counted
    uncounted empty sound_campaign best choice collect without including marked
days_are = (refl, refl)

-- campaign 1 falls short, and its part is too much for the floor
pub record Struck (h : History) : Type 0 where
  pub allotted : Allotted h short_to
  pub short : falls_short h 1 ≡ true
  pub not_covered : Covered h (takings_of h (price_of h) short_to) → ⊥
  pub covered : Covered h (takings_of h (unstruck h) short_to)

pub struck : (m : ℕ) → Struck (day m)
unfolding day sum count every total member share times takings
struck m = record {
  allotted = allotted_of (day m) short_to refl refl;
  short = refl;
  not_covered = λ (h : 12 ≤ 8). omega arith;
  covered = leb-true 6 8 refl;
}
