-- The line of figures is read back: each word stands where the last numeral ends, and no word begins with a digit.
use mathlib.Core.Path.{refl}
use mathlib.Core.Bool.{Bool, true, false, cond}
use mathlib.Core.List.{◌++◌}
use Prim.Native.Nat.{ℕ, ◌/◌, ◌^◌, ◌<◌}
use native.Mathlib.Nat.{div-le_self}
use native.Mathlib.Omega.{arith}
use lib.Dec.{eqb}
use Rattle.lines.specs.Form.{bytes}
use Rattle.lines.specs.Numeral.{numeral}
use Rattle.lines.specs.Reading.{is_digit}
use Rattle.lines.proofs.Numerals.{numeral_back}
use Rattle.earnings.specs.Ratio.{gcd, ratio_of}
use Rattle.earnings.specs.Earnings.{figures_text, LineReads}

-- a part of the ratio, which is 1 or the figure divided
part_small : (b : Bool) (x d : ℕ) → x < 2 ^ 64 → cond b 1 (x / d) < 2 ^ 64
part_small true x d h = omega arith
part_small false x d h = omega (arith, div-le_self x d)

pub line_reads : LineReads
unfolding figures_text is_digit
line_reads t g h k =
    let over = (ratio_of t g).numerator in
    let under = (ratio_of t g).denominator in
    let after_under = bytes ")\n" in
    let after_over = bytes "/" ++ (numeral under ++ after_under) in
    let after_greatest = bytes ") (ratio " ++ (numeral over ++ after_over) in
    let after_takings = bytes ") (greatest " ++ (numeral g ++ after_greatest) in
    record {
      behind_takings = after_takings;
      behind_greatest = after_greatest;
      behind_numerator = after_over;
      takings_word = refl;
      takings_are = numeral_back t after_takings h refl;
      greatest_word = refl;
      greatest_is = numeral_back g after_greatest k refl;
      ratio_word = refl;
      numerator_is = numeral_back over after_over (part_small (eqb g 0) t (gcd t g) h) refl;
      stroke_is = refl;
      denominator_is = numeral_back under after_under (part_small (eqb g 0) g (gcd t g) k) refl;
    }
