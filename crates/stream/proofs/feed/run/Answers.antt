-- After the batch the input is used up, there is no room, or no line ends in what is left, which is then kept.
use mathlib.Core.Path.{◌≡◌, sym, subst}
use mathlib.Core.List.{List}
use Prim.Native.Nat.{ℕ, ◌+◌, ◌≤◌}
use native.Mathlib.Omega.{arith}
use lib.ListN.{length}
use Rattle.day.specs.declared.Day.{Day}
use Rattle.day.specs.Day.{state_of}
use Rattle.lines.specs.Limits.{line_buffer}
use Rattle.reply.specs.Session.{reply_room}
use Rattle.batch.specs.Cited.{position, Progress}
use Rattle.stream.specs.Stream.{session}
use Rattle.stream.specs.Cited.{Processed}
use Rattle.stream.proofs.Runs.{rest_stands, stands_first, runs_through, runs_full}
use Rattle.stream.proofs.feed.run.Goals.{then-t-input-via-then-t-input}
use Rattle.stream.proofs.feed.run.Goals.{then-t-input-via-else-t-input+then-out-t-lt-ROOM}
use Rattle.stream.proofs.feed.run.Goals as goal

-- what stands before the first line
started : (s : Day) (h l e : List ℕ) (k from at : ℕ) → k ≤ line_buffer → length h ≡ line_buffer → from ≡ 0 → at ≡ 0
    → Progress (session s h k) l e (record { day = s; kept = k; from = from; at = at }) h e
started s h l e k from at p q f g =
    let x = session s h k in
    subst (λ (i : ℕ). Progress x l e (record { day = s; kept = k; from = from; at = i }) h e) (sym g)
    (subst (λ (i : ℕ). Progress x l e (record { day = s; kept = k; from = i; at = 0 }) h e) (sym f)
    (stands_first s h k l e p q))

pub returns-then-t-input : goal.returns-then-t-input
returns-then-t-input c =
    let a = c.args in
    let p = c.requires.sizes in
    let s = state_of a.first.turn.head a.terms.now a.counts.now in
    let x = session s a.pending.now a.first.kept in
    let b = c.run_batch-t in
    let st = started s a.pending.now a.input.now a.out.now a.first.kept a.first.from a.first.turn.at p.0 p.1 p.2 p.3 in
    let i = b.ensures.moves x a.out.now st in
    let ended : Processed x a.input.now a.out.now b.new.out (position b.result _ _) b.new.pending = elim c.then-t-input.branch [
      | then-t-input-via-then-t-input w ↦ runs_through x a.input.now a.out.now (position b.result _ _) _ _ i
          (omega (arith, w.if-t-input.true))
      | then-t-input-via-else-t-input+then-out-t-lt-ROOM w ↦ runs_full x a.input.now a.out.now (position b.result _ _) _ _
          i (omega (arith, w.if-out-t-lt-ROOM.true, i.put.same, b.ensures.fits))
    ] in
    (ended, b.ensures.wide)

pub returns : goal.returns
returns c =
    let a = c.args in
    let p = c.requires.sizes in
    let s = state_of a.first.turn.head a.terms.now a.counts.now in
    let x = session s a.pending.now a.first.kept in
    let b = c.run_batch-t in
    let e = b.ensures in
    let st = started s a.pending.now a.input.now a.out.now a.first.kept a.first.from a.first.turn.at p.0 p.1 p.2 p.3 in
    let i = e.moves x a.out.now st in
    let k = c.keep-n.ensures in
    let roomy : b.result.turn.at + reply_room ≤ length b.new.out = omega (arith, e.fits) in
    let kept = rest_stands x a.input.now a.out.now (position b.result _ _) _ _ i
    (omega (arith, roomy, i.put.same)) (e.ends roomy) _ _ k.line.0 k.wide k.line.1 in
    (runs_through x a.input.now a.out.now _ _ _ kept (omega arith), k.wide)
