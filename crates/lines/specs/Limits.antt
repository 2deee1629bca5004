-- The limits of bracket lines, each by its name: document 01's, with request 5's numerals of twelve digits and the
-- refusal numbers of document 02. Where the code has a constant of its own, it is proved to have the value here.
use Rattle.std.specs.Prelude.{ℕ, ◌+◌}

-- the longest line that is read, and a buffer for it with its byte 10
abbrev pub max_line : ℕ
max_line = 200

abbrev pub line_buffer : ℕ
line_buffer = max_line + 1

-- no line that is written as an answer is longer; and room for it with its byte 10
abbrev pub max_answer : ℕ
max_answer = 200

abbrev pub answer_room : ℕ
answer_room = max_answer + 1

-- request 5: the greatest number of an input line (depth, width, price, budget), all numerals of up to twelve digits
abbrev pub max_input : ℕ
max_input = 999999999999

-- the greatest number of an output line that has no range of its own: paid, plays, turns, age, named
abbrev pub max_output : ℕ
max_output = 4294967295

-- the greatest campaign number; a view's set has a bit for each
abbrev pub max_campaign : ℕ
max_campaign = 63

abbrev pub set_bits : ℕ
set_bits = max_campaign + 1

-- the highest refusal number that document 01 and the landed requests give; a request that brings another raises it
abbrev pub max_question : ℕ
max_question = 19

-- what takings, claim and full run up to
abbrev pub max_money : ℕ
max_money = 18446744073709551615

-- all of 64 bits: a view's set
abbrev pub max_u64 : ℕ
max_u64 = 18446744073709551615

-- the most digits of a number of 64 bits; and no view's names take more bytes, at a space and two digits for each of 64
abbrev pub max_digits : ℕ
max_digits = 20

abbrev pub max_names : ℕ
max_names = 192
