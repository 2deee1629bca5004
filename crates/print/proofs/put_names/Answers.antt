use mathlib.Core.Path.{ap, sym, subst}
use mathlib.Core.List.{◌∷◌}
use Prim.Native.Nat.{ℕ, ◌<◌}
use native.Mathlib.Omega.{arith}
use lib.ListN.{length}
use Rattle.lines.specs.Limits.{set_bits}
use Rattle.lines.specs.Numeral.{numeral}
use Rattle.sets.specs.declared.Members.{Members}
use Rattle.print.proofs.Names.{Names, begins, below, room, turned, ends}
use Rattle.print.proofs.put_names.Goals as goal

pub loop-name-init : goal.loop-name-init
loop-name-init c =
    subst (λ (x : Members). Names c.args.out.now c.args.at c.args.set c.args.out.now c.args.at x.0)
    (sym c.into_iter-name-iterator.ensures.into_iter_gives)
    (begins c.args.out.now c.args.at c.args.set c.ranges.set.fits)

pub put_name-to-requires : goal.put_name-to-requires
put_name-to-requires c =
    let l = c.loop-name in
    let more = c.in-Some.ensures.steps.0 in
    let e = c.in-Some.ensures.steps.1 in
    let s = l.invariant.stands in (
      subst (λ (x : ℕ). x < set_bits) (sym e) (below l.invariant more),
      omega (
        arith,
        s.next,
        s.same,
        ap (λ (x : ℕ). length (32 ∷ numeral x)) e,
        room l.invariant more,
        c.requires,
      ),
    )

pub loop-name-preserved : goal.loop-name-preserved
loop-name-preserved c =
    let t = c.in-Some.ensures.steps in
    turned c.loop-name.invariant t.0 c.in-Some.name c.next.new.self.0 t.1 t.2 c.put_name-to.ensures

pub returns : goal.returns
returns c = ends c.loop-name.invariant c.in-None.ensures.steps.0
