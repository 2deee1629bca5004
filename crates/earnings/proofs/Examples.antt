-- The lines are computed.
use mathlib.Core.Path.{refl}
use Rattle.lines.specs.Numeral.{numeral, numeral_in}
use Rattle.lines.specs.Form.{template, numbers, slot_text, piece, numbers_after, filled, text}
use Rattle.writer.specs.Writing.{line}
use Rattle.earnings.specs.Ratio.{common_up_to}
use Rattle.earnings.specs.Earnings.{figures_text}
use Rattle.earnings.specs.Examples.{Examples}

pub examples : Examples
unfolding template numbers slot_text piece numbers_after filled text line numeral numeral_in common_up_to figures_text
examples = record { nothing = refl; unsound = refl; outside = refl; too_many = refl }
