-- Every example holds, by computation.
use mathlib.Core.Path.{refl}
use Rattle.lines.specs.Numeral.{numeral, numeral_in}
use Rattle.lines.specs.Form.{template, numbers, in_slot, slot_text, piece, numbers_after, filled, in_slots, text}
use Rattle.lines.specs.Form.{in_range}
use Rattle.writer.specs.Writing.{line, write_question, writing, written}
use Rattle.writer.specs.Examples.{Examples}

pub examples : Examples
unfolding numeral numeral_in template numbers in_slot slot_text piece numbers_after filled in_slots text in_range line
    write_question writing written
examples = record {
  exact_room = (refl, refl);
  later_bytes = (refl, refl);
  one_short = (refl, refl);
  range_first = (refl, refl);
  only_short = (refl, refl);
  thirteen_digits = (refl, refl);
  twelve_digits = (refl, refl);
}
