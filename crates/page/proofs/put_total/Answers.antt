-- The columns of the last line, from the last to the first.
use native.Mathlib.Omega.{arith}
use lib.ListN.{length-set}
use Rattle.page.proofs.Texts.{cents_14}
use Rattle.page.proofs.Lays.{total_laid}
use Rattle.page.proofs.put_total.Goals as goal

pub put_cents-requires : goal.put_cents-requires
put_cents-requires c =
    let start = c.before.before in
    simp length-set (omega (arith, cents_14 start.args.takings start.requires.1))

pub put-requires : goal.put-requires
put-requires c =
    let amount = c.before.before.before.before in
    omega (arith, simp length-set at amount.put_cents.ensures.same)

pub returns : goal.returns
returns c =
    let word = c.before.before in
    let amount = word.before.before.before.before.before in
    let start = amount.before.before.before in
    total_laid start.requires.0 start.args.takings start.requires.1 amount.put_cents.ensures word.put.ensures
