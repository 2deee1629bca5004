-- Every example holds, by computation.
use mathlib.Core.Path.{refl}
use Rattle.lines.specs.Form.{template, in_slot}
use Rattle.lines.specs.Reading.{reading, first_of, forms, held_or, ended_or, made, numbers_of, rest_of, step}
use Rattle.lines.specs.Reading.{strip, slot_at, set_at, numeral_at, digits, is_digit}
use Rattle.lines.specs.Examples.{Examples}

pub examples : Examples
unfolding template in_slot reading first_of forms held_or ended_or made numbers_of rest_of step strip slot_at set_at
    numeral_at digits is_digit
examples = record {
  text_bytes = refl;
  rising_names = refl;
  no_names = refl;
  name_twice = refl;
  falling_names = refl;
  greatest_name = refl;
  name_of_64 = refl;
  greatest_resumed = refl;
  twelve_digits = refl;
  thirteen_digits = refl;
  leading_zero = refl;
  output_line = refl;
  greatest_output = refl;
  output_above = refl;
  player_of_64 = refl;
  greatest_money = refl;
  money_above = refl;
  refusal_of_0 = refl;
  greatest_refusal = refl;
  refusal_of_20 = refl;
  two_spaces = refl;
  space_behind = refl;
  no_bytes = refl;
  byte_10_inside = refl;
  bytes_200 = refl;
  bytes_201 = refl;
}
