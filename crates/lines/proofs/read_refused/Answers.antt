-- The refused form: its field is read, and by `reads` this is holding the line to the form's template.
use mathlib.Core.Path.{refl}
use Rattle.lines.specs.declared.Record.TheVariants.{Refused}
use Rattle.lines.specs.Form.{template}
use Rattle.lines.specs.Reading.{made, ended_or}
use Rattle.lines.proofs.Fields.{reads}
use Rattle.lines.proofs.Fields.Scanned.{field, last_word, missing}
use Rattle.lines.proofs.read_refused.Goals as goal

pub returns-in_err-number : goal.returns-in_err-number
unfolding template ended_or
returns-in_err-number c = reads (Refused 0) (field refl c.in_err-number.ensures missing) (rw c.from_residual.ensures)

pub returns : goal.returns
unfolding template made
returns c = reads (Refused 0) (field refl c.in_ok-number.ensures (last_word refl)) c.ended.ensures
