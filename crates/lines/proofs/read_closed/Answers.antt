-- The closed form: its fields are read in turn, and by `reads` this is holding the line to the form's template.
use mathlib.Core.Path.{refl}
use Rattle.lines.specs.declared.Record.TheVariants.{Closed}
use Rattle.lines.specs.Form.{template}
use Rattle.lines.specs.Reading.{made, ended_or}
use Rattle.lines.proofs.Fields.{reads}
use Rattle.lines.proofs.Fields.Scanned.{field, last_word, missing}
use Rattle.lines.proofs.read_closed.Goals as goal

pub returns-in_err-takings : goal.returns-in_err-takings
unfolding template ended_or
returns-in_err-takings c =
    reads (Closed 0 0 0) (field refl c.in_err-takings.ensures missing)
    (rw c.from_residual.ensures)

pub returns-in_err-claim : goal.returns-in_err-claim
unfolding template ended_or
returns-in_err-claim c =
    reads (Closed 0 0 0) (field refl c.in_ok-takings.ensures (field refl c.in_err-claim.ensures missing))
    (rw c.from_residual-in_err-claim.ensures)

pub returns-in_err-full : goal.returns-in_err-full
unfolding template ended_or
returns-in_err-full c =
    reads (Closed 0 0 0)
    (field refl c.in_ok-takings.ensures
    (field refl c.in_ok-claim.ensures
    (field refl c.in_err-full.ensures missing)))
    (rw c.from_residual-in_err-full.ensures)

pub returns : goal.returns
unfolding template made
returns c =
    reads (Closed 0 0 0)
    (field refl c.in_ok-takings.ensures
    (field refl c.in_ok-claim.ensures
    (field refl c.in_ok-full.ensures
    (last_word refl))))
    c.ended.ensures
