use Rattle.std.proofs.Common.{ℕ, ◌≡◌, ◌-◌, length, drop, ap, sym, ◌∙◌}
use native.Mathlib.Omega.{arith}
use native.Mathlib.Numerals.{add-one}
use lib.Seq.{take_all}
use lib.ListN.{length-drop}
use Rattle.lines.specs.Reading.{some}
use Rattle.lines.specs.Cited.{stripped}
use Rattle.lines.proofs.Words.{line_short, same_byte, other_byte, all_same}
use Rattle.lines.proofs.scan.behind.Goals as goal

pub returns-then-s-word : goal.returns-then-s-word
returns-then-s-word c = sym (line_short c.args.word.now c.args.s.now c.if-s-word.true)

pub returns-then-s-i : goal.returns-then-s-i
returns-then-s-i c =
    let l = c.loop-i in
    sym (l.invariant ∙ other_byte l.i c.args.word.now c.args.s.now (omega (arith, c.loop-i-test.true))
    (omega (arith, c.loop-i-test.true, c.if-s-word.false)) c.if-s-i.true)

pub loop-i-preserved : goal.loop-i-preserved
loop-i-preserved c =
    let l = c.loop-i in
    let a = c.args in
    l.invariant ∙ same_byte l.i a.word.now a.s.now (omega (arith, c.loop-i-test.true))
    (omega (arith, c.loop-i-test.true, c.if-s-word.false)) c.if-s-i.false
    ∙ ap (λ (k : ℕ). stripped (drop k a.word.now) (some (drop k a.s.now))) (sym (add-one l.i))

pub returns : goal.returns
returns c =
    let l = c.loop-i in
    let a = c.args in
    let n = length a.word.now in
    let e : l.i ≡ n = omega (arith, c.loop-i-test.false, l.auto.i-end) in
    ap some (take_all (length a.s.now - n) (drop n a.s.now) (omega (arith, length-drop n a.s.now)))
    ∙ sym (l.invariant ∙ ap (λ (k : ℕ). stripped (drop k a.word.now) (some (drop k a.s.now))) e
    ∙ all_same a.word.now (drop n a.s.now))
