-- Every example holds, by computation.
use mathlib.Core.Path.{refl}
use Rattle.finite.specs.Finite.{sum, every, table}
use Rattle.sets.specs.Set.{member, within}
use Rattle.campaigns.specs.Campaign.{sound_plan, uncounted, empty}
use Rattle.audit.specs.Sound.{sound_record}
use Rattle.day.specs.Day.{blank, total_takings, sound}
use Rattle.questions.specs.Questions.{first_failed}
use Rattle.lines.specs.Numeral.{numeral_in, numeral}
use Rattle.lines.specs.Reading.{is_digit}
use Rattle.page.specs.Page.{flush, cents, row_text, total_text, row_lines, page, number_in, read_lines, read_page}
use Rattle.page.specs.Figures.{figures}
use Rattle.page.specs.Printing.{page_question, printing, printed}
use Rattle.page.specs.Examples.{Examples}

pub examples : Examples
unfolding numeral_in numeral flush cents row_text total_text row_lines page is_digit number_in read_lines read_page
    first_failed sound sound_record blank sum every table within member total_takings sound_plan uncounted empty figures
    page_question printing printed
examples = record {
  listing_is = refl;
  listing_back = refl;
  nothing_is = refl;
  nothing_back = refl;
  limits_are = refl;
  columns_are = refl;
  columns_back = refl;
  exact_room = (refl, refl);
  later_byte = (refl, refl);
  one_short = (refl, refl);
  unsound = (refl, refl);
  soundness_first = (refl, refl);
}
