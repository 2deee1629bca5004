-- The digits of a numeral, four a call: each case is a law of Lengths.
use mathlib.Core.Path.{sym, ap, ◌∙◌}
use Prim.Native.Nat.{ℕ, ◌+◌, ◌/◌}
use native.Mathlib.Omega.{arith}
use Rattle.lines.proofs.Numerals.{numeral_most}
use Rattle.print.proofs.Lengths.{len_one, len_two, len_three, len_four, len_skip}
use Rattle.print.proofs.+places.Goals as goal

pub overflow_add-result : goal.overflow_add-result
overflow_add-result t c = omega (arith, c.places.ensures, numeral_most (c.args.n / 10000))

pub returns-in-0-to-9 : goal.returns-in-0-to-9
returns-in-0-to-9 t c = sym (len_one c.args.n (omega arith))

pub returns-in-10-to-99 : goal.returns-in-10-to-99
returns-in-10-to-99 t c = sym (len_two c.args.n (omega arith) (omega arith))

pub returns-in-100-to-999 : goal.returns-in-100-to-999
returns-in-100-to-999 t c = sym (len_three c.args.n (omega arith) (omega arith))

pub returns-in-1000-to-9999 : goal.returns-in-1000-to-9999
returns-in-1000-to-9999 t c = sym (len_four c.args.n (omega arith) (omega arith))

pub returns-in_default : goal.returns-in_default
returns-in_default t c =
    ap (λ (x : ℕ). 4 + x) c.places.ensures ∙ sym (len_skip c.args.n (omega arith) (omega arith))
