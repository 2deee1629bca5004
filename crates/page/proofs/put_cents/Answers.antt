-- Two decimals, a point, and the numeral of the units before them.
use native.Mathlib.Omega.{arith}
use lib.ListN.{length-set}
use Rattle.page.proofs.Texts.{cents_size}
use Rattle.page.proofs.Lays.{cents_put}
use Rattle.page.proofs.put_cents.Goals as goal

pub overflow_sub-out : goal.overflow_sub-out
overflow_sub-out c = omega (arith, cents_size c.args.n)

pub bounds-out-to : goal.bounds-out-to
bounds-out-to c = omega (arith, cents_size c.args.n)

pub overflow_sub-out-2 : goal.overflow_sub-out-2
overflow_sub-out-2 c = omega (arith, cents_size c.args.n)

pub bounds-out-to-2 : goal.bounds-out-to-2
bounds-out-to-2 c = simp length-set (omega (arith, cents_size c.args.n))

pub overflow_sub-out-3 : goal.overflow_sub-out-3
overflow_sub-out-3 c = omega (arith, cents_size c.args.n)

pub bounds-out-to-3 : goal.bounds-out-to-3
bounds-out-to-3 c = simp length-set (omega (arith, cents_size c.args.n))

pub overflow_sub-to : goal.overflow_sub-to
overflow_sub-to c = omega (arith, cents_size c.args.n)

pub put_number-requires : goal.put_number-requires
put_number-requires c = simp length-set (omega (arith, cents_size c.args.n))

pub returns : goal.returns
returns c = cents_put c.args.n (omega (arith, cents_size c.args.n)) (omega arith) c.put_number.ensures
