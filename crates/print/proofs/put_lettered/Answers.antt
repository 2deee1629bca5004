-- The number as its slot reads: the names of a set, put forward from where they begin, or the numeral.
use mathlib.Core.Path.{ap, sym, subst}
use native.Mathlib.Omega.{arith}
use lib.ListN.{length}
use Rattle.buffer.specs.Buffer.{Put}
use Rattle.print.proofs.Lengths.{text_names, text_number}
use Rattle.print.proofs.put_lettered.Goals as goal

pub overflow_sub-at : goal.overflow_sub-at
overflow_sub-at c = omega (arith, ap length (text_names c.args.slot c.args.n c.if-slot-eq83.true), c.names_len.ensures)

pub put_names-requires : goal.put_names-requires
put_names-requires c =
    omega (arith, ap length (text_names c.args.slot c.args.n c.if-slot-eq83.true), c.names_len.ensures)

pub put_number-requires : goal.put_number-requires
put_number-requires c = rw (text_number c.args.slot c.args.n c.if-slot-eq83.false) at c.requires

pub returns-then-slot-eq83 : goal.returns-then-slot-eq83
returns-then-slot-eq83 c =
    let e = text_names c.args.slot c.args.n c.if-slot-eq83.true in
    let p = c.put_names.ensures in
    subst (Put c.args.out.now _ _ c.args.to) (sym e)
    (record { next = omega (arith, ap length e, c.names_len.ensures); here = p.here; same = p.same })

pub returns : goal.returns
returns c =
    subst (Put c.args.out.now _ _ c.args.to) (sym (text_number c.args.slot c.args.n c.if-slot-eq83.false))
    c.put_number.ensures
