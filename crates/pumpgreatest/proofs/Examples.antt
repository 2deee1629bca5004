-- The two days, by computation: their lines are read, their calls made, their views allotted in every way, and their
-- figures printed.
use mathlib.Core.Path.{refl}
use Rattle.finite.specs.Finite.{sum, count, every, table}
use Rattle.sets.specs.Set.{member, size, within, collect, without, including}
use Rattle.powers.specs.Power.{weight, share}
use Rattle.campaigns.specs.Choice.{best, choice}
use Rattle.campaigns.specs.Campaign.{whole, claim, sound_plan, priced, counted, uncounted, empty, sound_campaign}
use Rattle.audit.specs.Sound.{sound_record}
use Rattle.day.specs.Day.{blank, total_takings, total_claim, total_budgets, sound}
use Rattle.questions.specs.Questions.{first_failed, width_holds}
use Rattle.day.specs.Calls.{call, marked}
use Rattle.floor.specs.History.{continued}
use Rattle.lines.specs.Numeral.{numeral, numeral_in}
use Rattle.lines.specs.Form.{template, in_slot}
use Rattle.lines.specs.Reading.{reading, first_of, forms, held_or, ended_or, made, numbers_of, rest_of, step, strip}
use Rattle.lines.specs.Reading.{slot_at, set_at, numeral_at, digits, is_digit}
use Rattle.allotments.specs.Most.{greatest, most}
use Rattle.reply.specs.Reply.{outcome, next}
use Rattle.stream.specs.Input.{after_lines}
use Rattle.programs.specs.Lines.{exchanges}
use Rattle.earnings.specs.Ratio.{common_up_to}
use Rattle.earnings.specs.Earnings.{figures_text}
use Rattle.pumpgreatest.specs.Examples.{Examples}

pub examples : Examples
unfolding after_lines next outcome exchanges continued
    reading first_of forms held_or ended_or made numbers_of rest_of step strip slot_at set_at numeral_at digits
    is_digit template in_slot numeral numeral_in
    call marked first_failed sound sound_record blank sum count every table within size member width_holds weight share
    whole claim total_takings total_claim total_budgets sound_plan priced counted uncounted empty sound_campaign
    best choice collect without including greatest most common_up_to figures_text
examples = record { of_the_listing = refl; of_less_than_all = refl }
