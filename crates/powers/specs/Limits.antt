-- The limits of a plan, which are those of the table of powers.
use Rattle.std.specs.Prelude.{ℕ}

-- question 3: depth is from 1 to 32; the table has a column for each exponent from 0 on
abbrev pub max_depth : ℕ
max_depth = 32

-- question 4: width is from 1 to 16; the table has a row for each
abbrev pub max_width : ℕ
max_width = 16

-- question 5: width to the power depth is at most 4,294,967,296; the table has 0 for a greater power
abbrev pub max_power : ℕ
max_power = 4_294_967_296
