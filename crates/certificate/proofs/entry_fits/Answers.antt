-- Of the numbers from 64 on only 64 fits, for a view has no member there.
use borrow.Author.Tests.{le-ltb, ne_eqb}
use Rattle.certificate.proofs.Passes.{past_member}
use Rattle.certificate.proofs.entry_fits.Goals as goal

pub returns-else-entry-lt64 : goal.returns-else-entry-lt64
returns-else-entry-lt64 c =
    let a = c.args in
    let past = c.if-entry-lt64.false in
    rw (
      le-ltb a.entry 64 past,
      ne_eqb a.entry 64 c.if-entry-eq-NOBODY.false,
      past_member a.view a.entry c.ranges.view.fits past,
    )
