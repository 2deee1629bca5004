-- Byte 10 ends a line that has bytes pending; else there is nothing to end.
use native.Mathlib.Omega.{arith}
use lib.ListN.{length-take}
use Rattle.stream.specs.Stream.{stream_at}
use Rattle.stream.proofs.Streams.{finishes_idle, finishes_fed}
use Rattle.stream.proofs.feed.finish_in_place.Goals as goal

pub returns-then-kept-eq0 : goal.returns-then-kept-eq0
returns-then-kept-eq0 c =
    let a = c.args in
    finishes_idle (stream_at a.head a.terms.now a.counts.now a.pending.now a.kept) a.out.now c.if-kept-eq0.true c.clear.ensures

pub returns : goal.returns
returns c =
    let a = c.args in
    let k = stream_at a.head a.terms.now a.counts.now a.pending.now a.kept in
    let r = c.feed_in_place-r in
    finishes_fed k c.args.out.now _
    (omega (arith, length-take k.kept k.pending, c.requires, c.if-kept-eq0.false)) r.ensures
