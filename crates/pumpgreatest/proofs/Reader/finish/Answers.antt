-- The end of input: the views that are kept are handed to the search, and its line is put and told.
use Rattle.std.proofs.Common.{arith}
use Rattle.pumpgreatest.proofs.Answers.{put_stands}
use Rattle.pumpgreatest.proofs.Reader.finish.Goals as goal

pub tell-requires : goal.tell-requires
tell-requires c = put_stands c.put_earnings-at.ensures (omega (arith, c.take_end-last.auto.out, c.requires))
