-- Every case of the table holds: both sides are computed.
use mathlib.Core.Path.{◌≡◌, refl}
use Rattle.finite.specs.Finite.{sum, count, every, table}
use Rattle.sets.specs.Set.{member, size, within, collect, without, including}
use Rattle.powers.specs.Power.{weight, share}
use Rattle.campaigns.specs.Choice.{best, choice}
use Rattle.campaigns.specs.Campaign.{whole, claim, sound_plan, priced, counted, uncounted, empty, sound_campaign}
use Rattle.audit.specs.Sound.{sound_record}
use Rattle.day.specs.Day.{blank, total_takings, total_claim, total_budgets}
use Rattle.day.specs.Day.{sound}
use Rattle.questions.specs.Questions.{first_failed, width_holds}
use Rattle.day.specs.Calls.{marked, call}
use Rattle.demands.specs.Transcript.{transcript, final}
use Rattle.demands.specs.Cases.{calls_made, listing, listing_end, CasesHold}

infixr 30 ◌&◌
pub ◌&◌ : {A B : Type 0} → A → B → A × B
a & b = (a, b)

pub listing_runs : transcript blank (calls_made listing) ≡ listing
unfolding transcript call first_failed sound sound_record blank sum count every table within size member collect without
    width_holds weight share whole claim total_takings total_claim total_budgets sound_plan priced counted uncounted
    empty sound_campaign best choice
listing_runs = refl

pub listing_ends : final blank (calls_made listing) ≡ listing_end
unfolding final call first_failed sound sound_record blank sum count every table within size member collect without
    width_holds weight share whole claim total_takings total_claim total_budgets sound_plan priced counted uncounted
    empty sound_campaign best choice
listing_ends = refl

pub cases_hold : CasesHold
unfolding transcript final call first_failed sound sound_record blank sum count every table within size member
    collect without including marked
    width_holds weight share whole claim total_takings total_claim total_budgets sound_plan priced counted uncounted
    empty sound_campaign best choice
cases_hold =
    refl & refl & refl & refl & refl & refl & refl & listing_runs & listing_ends & refl & refl & refl & refl & refl &
    refl & refl & refl & refl & refl & refl & refl & refl & refl & refl & refl & refl & refl & refl & refl & refl & tt
