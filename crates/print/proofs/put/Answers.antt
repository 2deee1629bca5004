-- A word that ends at a place, put byte by byte: the bytes so far lie over the buffer.
use mathlib.Core.Path.{◌≡◌, ap, sym, ◌∙◌}
use mathlib.Core.List.{List}
use Prim.Native.Nat.{ℕ, ◌+◌, ◌-◌}
use native.Mathlib.Omega.{arith}
use lib.ListN.{length, take, get_or, set}
use lib.Seq.{take-length}
use Rattle.buffer.specs.Buffer.{over}
use Rattle.buffer.proofs.Over.{over_none, over_next}
use Rattle.print.proofs.put.Goals as goal

pub loop-i-init : goal.loop-i-init
loop-i-init c = sym (over_none c.args.out.now (c.args.to - length c.args.word.now))

pub loop-i-preserved : goal.loop-i-preserved
loop-i-preserved c =
    let w = c.args.word.now in
    let i = c.loop-i.i in
    let at = c.args.to - length w in
    ap (λ (x : List ℕ). set x (at + i) (get_or w i 0)) c.loop-i.invariant
    ∙ over_next c.args.out.now at w i (omega arith)

pub returns : goal.returns
returns c =
    let w = c.args.word.now in
    let e : c.loop-i.i ≡ length w = omega arith in
    record {
      next = omega arith;
      here =
          c.loop-i.invariant ∙ ap (λ (k : ℕ). over c.args.out.now (c.args.to - length w) (take k w)) e
          ∙ ap (over c.args.out.now (c.args.to - length w)) (take-length w);
      same = c.loop-i.auto.out;
    }
