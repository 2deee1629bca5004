-- What fits of s is copied behind the bytes that are kept.
use Rattle.std.proofs.Common.{ℕ, ◌≡◌, ◌+◌, take, ap, sym, ◌∙◌, arith}
use lib.ListN.{get_or, set, length-set}
use mathlib.Core.List.{append-nil}
use Rattle.batch.proofs.Rests.{keep_more, keep_all}
use Rattle.batch.proofs.keep.Goals as goal

pub loop-i-init : goal.loop-i-init
loop-i-init c =
    let a = c.args in
    let e : a.kept + 0 ≡ a.kept = omega arith in
    (ap (λ (k : ℕ). take k a.pending.now) e ∙ sym (append-nil (take a.kept a.pending.now)), c.requires.1)

pub loop-i-preserved : goal.loop-i-preserved
loop-i-preserved c =
    let a = c.args in
    let o = c.loop-i in
    let e : a.kept + (o.i + 1) ≡ (a.kept + o.i) + 1 = omega arith in (
      ap (λ (k : ℕ). take k (set o.pending (a.kept + o.i) (get_or a.s.now o.i 0))) e
          ∙ keep_more a.pending.now o.pending a.s.now a.kept (a.kept + o.i) o.i (omega arith) (omega arith)
          o.invariant.0,
      length-set o.pending (a.kept + o.i) (get_or a.s.now o.i 0) ∙ o.invariant.1,
    )

pub returns-clause-line : goal.returns-clause-line
returns-clause-line c =
    let a = c.args in
    let o = c.loop-i in
    let e : c.min-n.result ≡ o.i = omega arith in (
      omega arith,
      ap (λ (k : ℕ). take (a.kept + k) o.pending) e ∙ o.invariant.0
          ∙ keep_all a.pending.now a.s.now a.kept o.i (omega arith) (omega arith) (omega arith) (λ h. omega arith),
    )
