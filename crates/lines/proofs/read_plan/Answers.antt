-- The plan form: its fields are read in turn, and by `reads` this is holding the line to the form's template.
use mathlib.Core.Path.{refl}
use Rattle.lines.specs.declared.Record.TheVariants.{Plan}
use Rattle.lines.specs.Form.{template}
use Rattle.lines.specs.Reading.{made, ended_or}
use Rattle.lines.proofs.Fields.{reads}
use Rattle.lines.proofs.Fields.Scanned.{field, last_word, missing}
use Rattle.lines.proofs.read_plan.Goals as goal

pub returns-in_err-depth : goal.returns-in_err-depth
unfolding template ended_or
returns-in_err-depth c = reads (Plan 0 0) (field refl c.in_err-depth.ensures missing) (rw c.from_residual.ensures)

pub returns-in_err-width : goal.returns-in_err-width
unfolding template ended_or
returns-in_err-width c =
    reads (Plan 0 0) (field refl c.in_ok-depth.ensures (field refl c.in_err-width.ensures missing))
    (rw c.from_residual-in_err-width.ensures)

pub returns : goal.returns
unfolding template made
returns c =
    reads (Plan 0 0) (field refl c.in_ok-depth.ensures (field refl c.in_ok-width.ensures (last_word refl)))
    c.ended.ensures
