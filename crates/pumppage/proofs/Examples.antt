-- The two pages, by computation: the lines are read, the calls made, the figures printed.
use mathlib.Core.Path.{refl}
use Rattle.finite.specs.Finite.{sum, count, every, table}
use Rattle.sets.specs.Set.{member, size, within, collect, without}
use Rattle.powers.specs.Power.{weight, share}
use Rattle.campaigns.specs.Choice.{best, choice}
use Rattle.campaigns.specs.Campaign.{whole, claim, sound_plan, priced, counted, uncounted, empty, sound_campaign}
use Rattle.audit.specs.Sound.{sound_record}
use Rattle.day.specs.Day.{blank, total_takings, total_claim, total_budgets, sound}
use Rattle.questions.specs.Questions.{first_failed, width_holds}
use Rattle.day.specs.Calls.{call}
use Rattle.lines.specs.Numeral.{numeral, numeral_in}
use Rattle.lines.specs.Form.{template, in_slot}
use Rattle.lines.specs.Reading.{reading, first_of, forms, held_or, ended_or, made, numbers_of, rest_of, step, strip}
use Rattle.lines.specs.Reading.{slot_at, set_at, numeral_at, digits, is_digit}
use Rattle.reply.specs.Reply.{outcome, next}
use Rattle.stream.specs.Input.{after_lines}
use Rattle.page.specs.Page.{flush, cents, row_text, total_text, row_lines, page}
use Rattle.page.specs.Figures.{figures}
use Rattle.pumppage.specs.Examples.{Examples}

pub examples : Examples
unfolding after_lines next outcome
    reading first_of forms held_or ended_or made numbers_of rest_of step strip slot_at set_at numeral_at digits
    is_digit template in_slot numeral numeral_in
    call first_failed sound sound_record blank sum count every table within size member width_holds weight share
    whole claim total_takings total_claim total_budgets sound_plan priced counted uncounted empty sound_campaign
    best choice collect without flush cents row_text total_text row_lines page figures
examples = record { of_the_listing = refl; of_uneven = refl }
