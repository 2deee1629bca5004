-- The four parts of the test, each from its pass.
use mathlib.Core.Path.{◌≡◌}
use Prim.Native.Nat.{◌*◌}
use lib.ListN.{length}
use borrow.Author.Rules.{rules}
use Rattle.std.specs.Prelude.{None, MatchOption}
use Rattle.finite.specs.Finite.{sum}
use Rattle.allotments.specs.Allotment.{at, certified}
use Rattle.certificate.specs.Cited.{rest_left}
use Rattle.certificate.proofs.Passes.{figures_joined, parts_joined}
use Rattle.certificate.proofs.certified.Goals as goal

pub returns : goal.returns
unfolding certified
returns c =
    let a = c.args in
    let rest = c.and_then-rest.result in
    let views = sum (length a.views.now) (at a.worth.now) in
    let taken : MatchOption c.less_campaigns.result (rest ≡ None) (λ x. rest ≡ rest_left views x) = search rules in
    parts_joined c.entries_fit.ensures c.plays_fit.ensures c.views_covered-covered.ensures
    (figures_joined c.less_campaigns.result rest (sum a.count (λ i. at a.surplus.now i * at a.wholes i)) views
    c.takings-sum.ensures c.less_campaigns.ensures taken c.eq.ensures)
