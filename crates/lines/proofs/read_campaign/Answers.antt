-- The campaign form: its fields are read in turn, and by `reads` this is holding the line to the form's template.
use mathlib.Core.Path.{refl}
use Rattle.lines.specs.declared.Record.TheVariants.{Campaign}
use Rattle.lines.specs.Form.{template}
use Rattle.lines.specs.Reading.{made, ended_or}
use Rattle.lines.proofs.Fields.{reads}
use Rattle.lines.proofs.Fields.Scanned.{field, last_word, missing}
use Rattle.lines.proofs.read_campaign.Goals as goal

pub returns-in_err-price : goal.returns-in_err-price
unfolding template ended_or
returns-in_err-price c = reads (Campaign 0 0) (field refl c.in_err-price.ensures missing) (rw c.from_residual.ensures)

pub returns-in_err-budget : goal.returns-in_err-budget
unfolding template ended_or
returns-in_err-budget c =
    reads (Campaign 0 0) (field refl c.in_ok-price.ensures (field refl c.in_err-budget.ensures missing))
    (rw c.from_residual-in_err-budget.ensures)

pub returns : goal.returns
unfolding template made
returns c =
    reads (Campaign 0 0) (field refl c.in_ok-price.ensures (field refl c.in_ok-budget.ensures (last_word refl)))
    c.ended.ensures
