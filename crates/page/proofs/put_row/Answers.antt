-- The columns of a campaign's line, from the last to the first; each has the room that it fits.
use mathlib.Core.Path.{◌∙◌}
use native.Mathlib.Omega.{arith}
use lib.ListN.{length-set}
use Rattle.page.specs.Figures.{page_row}
use Rattle.page.proofs.Texts.{number_3, number_6, cents_11, cents_14}
use Rattle.page.proofs.Lays.{row_laid}
use Rattle.page.proofs.put_row.Goals as goal

pub put_number-requires : goal.put_number-requires
put_number-requires c =
    let start = c.before.before in
    simp length-set (omega (arith, number_6 start.args.c.named start.requires.2.named_fit))

pub put_cents-requires : goal.put_cents-requires
put_cents-requires c =
    let named = c.before.before.before.before in
    let start = named.before.before.before in
    let same = simp length-set at named.put_number.ensures.same in
    omega (arith, same, cents_14 (page_row start.args.c).paid start.requires.2.paid_fits)

pub put_cents-requires-2 : goal.put_cents-requires-2
put_cents-requires-2 c =
    let paid = c.before.before.before in
    let named = paid.before.before.before.before.before in
    let start = named.before.before.before in
    let same = simp length-set at named.put_number.ensures.same in
    omega (arith, same, paid.put_cents.ensures.same, cents_11 start.args.c.price start.requires.2.price_fits)

pub put_number-requires-2 : goal.put_number-requires-2
put_number-requires-2 c =
    let price = c.before.before.before in
    let paid = price.before.before.before.before in
    let named = paid.before.before.before.before.before in
    let start = named.before.before.before in
    let same = price.put_cents-2.ensures.same ∙ paid.put_cents.ensures.same
    ∙ simp length-set at named.put_number.ensures.same in
    omega (arith, same, number_6 start.args.c.plays start.requires.2.plays_fit)

pub put_number-requires-3 : goal.put_number-requires-3
put_number-requires-3 c =
    let plays = c.before.before.before in
    let price = plays.before.before.before.before in
    let paid = price.before.before.before.before in
    let named = paid.before.before.before.before.before in
    let start = named.before.before.before in
    let same = plays.put_number-2.ensures.same ∙ price.put_cents-2.ensures.same ∙ paid.put_cents.ensures.same
    ∙ simp length-set at named.put_number.ensures.same in
    omega (arith, same, number_3 start.args.i start.requires.1)

pub returns : goal.returns
returns c =
    let number = c.before.before in
    let plays = number.before.before.before.before in
    let price = plays.before.before.before.before in
    let paid = price.before.before.before.before in
    let named = paid.before.before.before.before.before in
    let start = named.before.before.before in
    row_laid start.requires.0 start.args.i (page_row start.args.c) start.requires.1 start.requires.2
    named.put_number.ensures paid.put_cents.ensures price.put_cents-2.ensures plays.put_number-2.ensures
    number.put_number-3.ensures
