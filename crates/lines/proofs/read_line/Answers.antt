-- A line that is not too long is read as its form.
use Rattle.std.proofs.Common.{length, sym, ◌∙◌}
use borrow.Author.Tests.{lt-ltb}
use Rattle.lines.specs.Limits.{max_line}
use Rattle.lines.specs.Reading.{reading}
use Rattle.lines.proofs.Inverse.{reading_short}
use Rattle.lines.proofs.read_line.Goals as goal

pub returns-then-s-gt-MAX_LINE : goal.returns-then-s-gt-MAX_LINE
unfolding reading
returns-then-s-gt-MAX_LINE c = rw (lt-ltb max_line (length c.args.s.now) c.if-s-gt-MAX_LINE.true)

pub returns : goal.returns
returns c = c.ok_or.ensures.value ∙ c.read_form.ensures ∙ sym (reading_short c.args.s.now c.if-s-gt-MAX_LINE.false)
