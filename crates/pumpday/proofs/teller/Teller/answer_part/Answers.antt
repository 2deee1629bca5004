-- One part: the stream takes what it has room to answer (`feed`), and the answers that it put at the front of the
-- buffer are due for just the bytes that it took, so that they may be told.
use Rattle.std.proofs.Common.{arith}
use Rattle.stream.proofs.Parts.{part_inside}
use Rattle.pumpday.proofs.Pumps.{part_is}
use Rattle.pumpday.proofs.teller.Teller.answer_part.Goals as goal

pub overflow_add-to : goal.overflow_add-to
overflow_add-to c =
    let a = c.args in
    omega (
      arith,
      part_inside a.self.now.stream a.block.now a.out.now c.feed-fed.new.out a.from c.feed-fed.result c.requires
          c.feed-fed.ensures,
    )

pub slice_bounds-tell-end : goal.slice_bounds-tell-end
slice_bounds-tell-end c =
    let a = c.args in
    part_inside a.self.now.stream a.block.now a.out.now c.feed-fed.new.out a.from c.feed-fed.result c.requires
    c.feed-fed.ensures

pub returns : goal.returns
returns c =
    let a = c.args in
    part_is a.self.now a.block.now a.out.now c.feed-fed.new.out a.from c.feed-fed.result c.requires c.feed-fed.ensures
    c.tell.new.self c.tell.ensures
