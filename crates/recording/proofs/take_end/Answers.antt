-- The end of input is what the stream makes of it, with what the pending line shows noted before.
use mathlib.Core.Path.{ap, ◌∙◌}
use mathlib.Core.Bool.{Bool, cond}
use borrow.Author.Tests.{le-leb}
use lib.ListN.{length}
use Rattle.reply.specs.Session.{reply_room}
use Rattle.stream.specs.declared.feed.Fed.{Fed}
use Rattle.stream.specs.Stream.{finished, session_of, stream_of}
use Rattle.recording.proofs.take_end.Goals as goal

pub returns : goal.returns
returns c =
    let x = session_of c.args.stream in (
      ap (λ (b : Fed). b.stream) c.finish.ensures.back_is
          ∙ ap (λ (b : Bool). stream_of (cond b (finished x) x))
          (le-leb reply_room (length c.args.out.now) c.requires),
      c.note.ensures,
    )
