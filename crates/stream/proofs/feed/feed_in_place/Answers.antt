-- A run from the state that the stream holds, with what is pending in front of the block; what it keeps has zero bytes
-- behind it.
use mathlib.Core.Path.{ap}
use Rattle.campaigns.specs.declared.Head.{Head}
use Rattle.day.specs.Day.{state_of}
use Rattle.batch.specs.Cited.{position}
use Rattle.stream.specs.Stream.{stream_at}
use Rattle.stream.proofs.Streams.{feeds}
use Rattle.stream.proofs.feed.feed_in_place.Goals as goal

pub returns : goal.returns
returns c =
    let a = c.args in
    let k = stream_at a.head a.terms.now a.counts.now a.pending.now a.kept in
    let same = ap (λ (h : Head). state_of h a.terms.now a.counts.now) c.begin.ensures.0 in
    let r = c.run-last in
    feeds k a.input.now a.out.now _ c.at_most_held.result (position r.result _ _) _
    c.at_most_held.ensures c.requires r.ensures.1 _ same r.ensures.0
    c.clear.ensures
