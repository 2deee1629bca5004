-- Every case of soundness holds: both sides are computed.
use mathlib.Core.Path.{refl}
use Rattle.finite.specs.Finite.{sum, every, table}
use Rattle.sets.specs.Set.{member, within}
use Rattle.powers.specs.Power.{weight, share}
use Rattle.campaigns.specs.Campaign.{whole, claim, sound_plan, priced, counted, uncounted, empty, sound_campaign}
use Rattle.audit.specs.Sound.{sound_record}
use Rattle.day.specs.Day.{sound}
use Rattle.questions.specs.Questions.{first_failed}
use Rattle.day.specs.Calls.{call}
use Rattle.demands.specs.Transcript.{transcript}
use Rattle.demands.specs.Soundness.{SoundnessHolds}
use Rattle.demands.proofs.Cases.{◌&◌}

pub soundness_holds : SoundnessHolds
unfolding transcript call first_failed sound sound_record sum every table member within weight share whole claim
    sound_plan priced counted uncounted empty sound_campaign
soundness_holds =
    refl & refl & refl & refl & refl & refl & refl & refl & refl & refl & refl & refl & refl & refl & refl & refl &
    refl & refl & refl & refl & refl & refl & refl & refl & refl & refl & refl & refl & refl & refl & refl & refl &
    refl & refl & refl & refl & refl & refl & refl & refl & refl & refl & refl & refl & refl & refl & refl & refl &
    refl & refl & refl & tt
