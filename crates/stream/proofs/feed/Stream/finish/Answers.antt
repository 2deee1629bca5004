-- What is done in place, of copies of the stream's arrays.
use Rattle.stream.proofs.Streams.{finishes_by_value}
use Rattle.stream.proofs.feed.Stream.finish.Goals as goal

pub returns : goal.returns
returns c =
    let a = c.args in
    finishes_by_value a.self c.head.ensures c.fed_of.ensures c.finish_in_place-moved.ensures
