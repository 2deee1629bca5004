-- Lines as text and what reading them gives, computed.
use Rattle.std.specs.Prelude.{◌≡◌, [], ◌∷◌, replicate, Result, Ok, Err}
use Prim.Native.String.{String}
use Rattle.lines.specs.declared.Record.TheVariants.{Campaign, View, Play, Refused, Closed, Pause, Resume}
use Rattle.refusal.specs.declared.Refusal.{Refusal}
use Rattle.refusal.specs.Refusal.{refusal}
use Rattle.lines.specs.declared.Record.{Record}
use Rattle.lines.specs.Form.{bytes}
use Rattle.lines.specs.Reading.{reading}

abbrev pub read : String → Result Record Refusal
read s = reading (bytes s)

pub record Examples : Type 0 where
  -- the bytes of text
  pub text_bytes : bytes "abcdefghijklmnopqrstuvwxyz0123456789 ()./\n" ≡
      97 ∷ 98 ∷ 99 ∷ 100 ∷ 101 ∷ 102 ∷ 103 ∷ 104 ∷ 105 ∷ 106 ∷ 107 ∷ 108 ∷ 109 ∷
      110 ∷ 111 ∷ 112 ∷ 113 ∷ 114 ∷ 115 ∷ 116 ∷ 117 ∷ 118 ∷ 119 ∷ 120 ∷ 121 ∷ 122 ∷
      48 ∷ 49 ∷ 50 ∷ 51 ∷ 52 ∷ 53 ∷ 54 ∷ 55 ∷ 56 ∷ 57 ∷
      32 ∷ 40 ∷ 41 ∷ 46 ∷ 47 ∷ 10 ∷ []
  -- names rise strictly and are from 0 to 63; a view may name nobody
  pub rising_names : read "(view 0 1 63)" ≡ Ok (View 9223372036854775811)
  pub no_names : read "(view)" ≡ Ok (View 0)
  pub name_twice : read "(view 0 0)" ≡ Err (refusal 17)
  pub falling_names : read "(view 1 0)" ≡ Err (refusal 17)
  pub greatest_name : read "(pause 63)" ≡ Ok (Pause 63)
  pub name_of_64 : read "(pause 64)" ≡ Err (refusal 17)
  pub greatest_resumed : read "(resume 63)" ≡ Ok (Resume 63)
  -- numerals of input lines have no leading zero and at most twelve digits
  pub twelve_digits : read "(campaign (price 0) (budget 999999999999))" ≡ Ok (Campaign 0 999999999999)
  pub thirteen_digits : read "(campaign (price 0) (budget 1000000000000))" ≡ Err (refusal 17)
  pub leading_zero : read "(campaign (price 05) (budget 10))" ≡ Err (refusal 17)
  -- an output line is a form too, with ranges of its own
  pub output_line : read "(play 0 (paid 5))" ≡ Ok (Play 0 5)
  pub greatest_output : read "(play 63 (paid 4294967295))" ≡ Ok (Play 63 4294967295)
  pub output_above : read "(play 63 (paid 4294967296))" ≡ Err (refusal 17)
  pub player_of_64 : read "(play 64 (paid 1))" ≡ Err (refusal 17)
  -- takings, claim and full run up to 2^64 - 1
  pub greatest_money : read "(closed (takings 5) (claim 0) (full 18446744073709551615))"
      ≡ Ok (Closed 5 0 18446744073709551615)
  pub money_above : read "(closed (takings 5) (claim 0) (full 18446744073709551616))" ≡ Err (refusal 17)
  -- a refusal number runs from 1 to the highest that the papers give
  pub refusal_of_0 : read "(refused 0)" ≡ Err (refusal 17)
  pub greatest_refusal : read "(refused 19)" ≡ Ok (Refused 19)
  pub refusal_of_20 : read "(refused 20)" ≡ Err (refusal 17)
  -- single spaces, nothing before or behind, no byte 10
  pub two_spaces : read "(view  0)" ≡ Err (refusal 17)
  pub space_behind : read "(start) " ≡ Err (refusal 17)
  pub no_bytes : read "" ≡ Err (refusal 17)
  pub byte_10_inside : reading (40 ∷ 111 ∷ 107 ∷ 10 ∷ 41 ∷ []) ≡ Err (refusal 17)
  -- 200 bytes are looked at, 201 are too many
  pub bytes_200 : reading (replicate 200 40) ≡ Err (refusal 17)
  pub bytes_201 : reading (replicate 201 40) ≡ Err (refusal 16)
