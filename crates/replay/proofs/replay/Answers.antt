-- The loop begins with all words, takes three in each turn, and ends with fewer than three left.
use Rattle.std.proofs.Common.{List, ℕ, length, ◌<◌, sym, ap, ◌∙◌, subst, arith}
use Rattle.std.specs.Slice.Iter.{chunks_exact_rest, chunks_exact_size}
use Rattle.day.specs.Calls.{Call}
use Rattle.replay.specs.Cited.{ReplaysTo}
use Rattle.replay.proofs.Steps.{Rest, rest_start, rest_step, replayed, no_calls}
use Rattle.replay.proofs.replay.Goals as goal

pub loop-words-init : goal.loop-words-init
loop-words-init c =
    let day = c.args.day in
    let words = c.args.calls.now in
    let all = c.chunks_exact-words-items.ensures in
    let same = c.into_iter-words-iterator.ensures.into_iter_gives in (
      ap chunks_exact_size same ∙ all.size,
      subst (λ (left : List ℕ). Rest day words left day 0) (sym (ap chunks_exact_rest same ∙ all.rest))
          (rest_start day words),
    )

pub step-state-requires : goal.step-state-requires
step-state-requires c = c.loop-words.invariant.1.bounded

-- no call
pub loop-words-preserved : goal.loop-words-preserved
loop-words-preserved c =
    let l = c.loop-words in
    let next = c.in-Some.ensures.steps in (
      next.0 ∙ l.invariant.0,
      rest_step c.args.day c.args.calls.now _ c.in-Some.words.now _ l.state.day l.state.paid l.state next.1.0
          (next.1.1 ∙ l.invariant.0) l.invariant.1
          (subst (λ (calls : List Call). ReplaysTo l.state.day l.state.paid calls l.state) c.in_default.ensures
          (no_calls l.state.day l.state.paid)),
    )

pub loop-words-preserved-in-Some-call_of : goal.loop-words-preserved-in-Some-call_of
loop-words-preserved-in-Some-call_of c =
    let l = c.loop-words in
    let next = c.in-Some.ensures.steps in
    let r = c.step-state in (
      next.0 ∙ l.invariant.0,
      rest_step c.args.day c.args.calls.now _ c.in-Some.words.now _ l.state.day l.state.paid r.result next.1.0
          (next.1.1 ∙ l.invariant.0) l.invariant.1
          (subst (λ (calls : List Call). ReplaysTo l.state.day l.state.paid calls r.result) c.in-Some-call_of.ensures
          r.ensures),
    )

pub returns : goal.returns
returns c =
    let l = c.loop-words in
    let few : length (chunks_exact_rest l.words-iterator) < 3 =
    omega (arith, c.in-None.ensures.steps.1.0, l.invariant.0) in
    replayed c.args.day c.args.calls.now _ l.state.day l.state.paid few l.invariant.1
