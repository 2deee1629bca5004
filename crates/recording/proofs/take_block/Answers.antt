-- The block, line after line (`Going`), and the bytes of a line that does not end in it.
use mathlib.Core.Path.{◌≡◌, refl, ◌∙◌}
use native.Mathlib.Omega.{arith}
use lib.ListN.{length}
use borrow.Author.Rules.{rules}
use Rattle.lines.specs.Limits.{line_buffer}
use Rattle.recording.proofs.Bytes.{short_stream}
use Rattle.recording.proofs.Blocks.{going_begins, line_plain, going_line, going_ends}
use Rattle.recording.proofs.take_block.Goals as goal

pub loop-end-init : goal.loop-end-init
loop-end-init c =
    let a = c.args in
    let h : length a.stream.pending ≡ line_buffer = search rules in (
      refl,
      refl,
      going_begins a.stream a.views.now a.block.now c.line_end-end.result (short_stream a.stream h)
          c.line_end-end.ensures.0 c.line_end-end.ensures.1,
    )

pub overflow_add-from : goal.overflow_add-from
overflow_add-from c = omega (arith, c.loop-end-test.true)

pub take_line-s-requires : goal.take_line-s-requires
take_line-s-requires c = (omega (arith, c.loop-end.invariant.1, c.requires), line_plain c.loop-end.invariant.2)

pub loop-end-smaller : goal.loop-end-smaller
loop-end-smaller c = omega (arith, c.loop-end-test.true, c.loop-end.invariant.2.end_is)

pub loop-end-preserved : goal.loop-end-preserved
loop-end-preserved c =
    let r = c.take_line-s in
    let o = c.loop-end in
    let e = c.line_end-end-in-loop-end.ensures in (
      r.auto.views ∙ o.invariant.0,
      r.auto.out ∙ o.invariant.1,
      going_line o.invariant.2 c.loop-end-test.true r.ensures e.0 e.1,
    )

pub returns : goal.returns
returns c =
    let o = c.loop-end in
    let r = c.feed in
    going_ends o.invariant.2 c.loop-end-test.false o.out r.new.out r.result (omega (arith, o.invariant.1, c.requires))
    r.ensures

pub slice_bounds-take_line-count : goal.slice_bounds-take_line-count
slice_bounds-take_line-count c = omega (arith, c.loop-end.invariant.2.end_is)

pub slice_bounds-take_line-start : goal.slice_bounds-take_line-start
slice_bounds-take_line-start c = omega (arith, c.loop-end.invariant.2.inside)

pub slice_bounds-take_line-end : goal.slice_bounds-take_line-end
slice_bounds-take_line-end c = c.loop-end.invariant.2.end_inside

pub slice_bounds-feed-count : goal.slice_bounds-feed-count
slice_bounds-feed-count c = c.loop-end.invariant.2.inside

pub slice_bounds-feed-start : goal.slice_bounds-feed-start
slice_bounds-feed-start c = c.loop-end.invariant.2.inside

pub shape_of-views : goal.shape_of-views
shape_of-views c = c.loop-end.invariant.0

pub shape_of-out : goal.shape_of-out
shape_of-out c = c.feed.auto.out ∙ c.loop-end.invariant.1
