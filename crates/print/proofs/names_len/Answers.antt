-- Three bytes for each member, and one less for each below 10: `names_size`.
use native.Mathlib.Omega.{arith}
use Rattle.print.proofs.Lengths.{names_size}
use Rattle.print.proofs.names_len.Goals as goal

pub overflow_sub-result : goal.overflow_sub-result
overflow_sub-result c = omega (arith, c.count-all.ensures, c.count-short.ensures, names_size c.args.set)
