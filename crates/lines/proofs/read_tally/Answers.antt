-- The tally form: its fields are read in turn, and by `reads` this is holding the line to the form's template.
use mathlib.Core.Path.{refl}
use Rattle.lines.specs.declared.Record.TheVariants.{Tally}
use Rattle.lines.specs.Form.{template}
use Rattle.lines.specs.Reading.{made, ended_or}
use Rattle.lines.proofs.Fields.{reads}
use Rattle.lines.proofs.Fields.Scanned.{field, last_word, missing}
use Rattle.lines.proofs.read_tally.Goals as goal

pub returns-in_err-campaign : goal.returns-in_err-campaign
unfolding template ended_or
returns-in_err-campaign c =
    reads (Tally 0 0 0 0 0) (field refl c.in_err-campaign.ensures missing)
    (rw c.from_residual.ensures)

pub returns-in_err-plays : goal.returns-in_err-plays
unfolding template ended_or
returns-in_err-plays c =
    reads (Tally 0 0 0 0 0) (field refl c.in_ok-campaign.ensures (field refl c.in_err-plays.ensures missing))
    (rw c.from_residual-in_err-plays.ensures)

pub returns-in_err-turns : goal.returns-in_err-turns
unfolding template ended_or
returns-in_err-turns c =
    reads (Tally 0 0 0 0 0)
    (field refl c.in_ok-campaign.ensures
    (field refl c.in_ok-plays.ensures
    (field refl c.in_err-turns.ensures missing)))
    (rw c.from_residual-in_err-turns.ensures)

pub returns-in_err-age : goal.returns-in_err-age
unfolding template ended_or
returns-in_err-age c =
    reads (Tally 0 0 0 0 0)
    (field refl c.in_ok-campaign.ensures
    (field refl c.in_ok-plays.ensures
    (field refl c.in_ok-turns.ensures
    (field refl c.in_err-age.ensures missing))))
    (rw c.from_residual-in_err-age.ensures)

pub returns-in_err-named : goal.returns-in_err-named
unfolding template ended_or
returns-in_err-named c =
    reads (Tally 0 0 0 0 0)
    (field refl c.in_ok-campaign.ensures
    (field refl c.in_ok-plays.ensures
    (field refl c.in_ok-turns.ensures
    (field refl c.in_ok-age.ensures
    (field refl c.in_err-named.ensures missing)))))
    (rw c.from_residual-in_err-named.ensures)

pub returns : goal.returns
unfolding template made
returns c =
    reads (Tally 0 0 0 0 0)
    (field refl c.in_ok-campaign.ensures
    (field refl c.in_ok-plays.ensures
    (field refl c.in_ok-turns.ensures
    (field refl c.in_ok-age.ensures
    (field refl c.in_ok-named.ensures
    (last_word refl))))))
    c.ended.ensures
