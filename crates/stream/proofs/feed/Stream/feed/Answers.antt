-- What is done in place, of copies of the stream's arrays.
use Rattle.stream.proofs.Streams.{feeds_by_value}
use Rattle.stream.proofs.feed.Stream.feed.Goals as goal

pub returns : goal.returns
returns c =
    let a = c.args in
    feeds_by_value a.self c.head.ensures c.fed_of.ensures a.input.now
    c.feed_in_place-moved.ensures
