-- The cases of the questions and of the check, by computation.
use mathlib.Core.Path.{refl}
use Rattle.finite.specs.Finite.{sum, count, every, table}
use Rattle.sets.specs.Set.{member, within}
use Rattle.powers.specs.Power.{weight, share}
use Rattle.campaigns.specs.Campaign.{whole, claim, sound_plan, priced, counted, uncounted, empty, sound_campaign}
use Rattle.audit.specs.Sound.{sound_record}
use Rattle.day.specs.Day.{sound}
use Rattle.questions.specs.Questions.{first_failed}
use Rattle.allotments.specs.Allotment.{times, takings, certified}
use Rattle.allotments.specs.Most.{greatest, most}
use Rattle.optimum.specs.Optimum.{failed, fits, takings_answer}
use Rattle.optimum.specs.Examples.{Examples}

pub examples : Examples
unfolding first_failed sound sound_record sum count every table within member weight share whole claim sound_plan
    priced counted uncounted empty sound_campaign times takings certified greatest most failed fits takings_answer
examples = record {
  check_numbers = refl;
  search_numbers = refl;
  all_checked = refl;
  one_checked = refl;
  searched = refl;
  taken = refl;
  taken_beyond = refl;
  taken_not_sound = refl;
  many = refl;
  takings_of_many = refl;
}
