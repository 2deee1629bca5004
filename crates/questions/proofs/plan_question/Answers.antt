-- Where question 5 is read off the table, an entry that is not 0 is the power.
use mathlib.Core.Path.{◌≡◌, sym, ◌∙◌}
use mathlib.Core.Bool.{true}
use Rattle.campaigns.specs.Campaign.{depth_fits, width_fits}
use Rattle.questions.specs.Questions.{first_failed}
use Rattle.questions.proofs.Table.{listed_under}
use Rattle.questions.proofs.plan_question.Goals as goal

pub returns : goal.returns
unfolding first_failed
returns c =
    let pl = c.args.plan in
    let deep : depth_fits pl ≡ true = sym c.depth_fits.ensures ∙ c.if-not-depth_fits.false in
    let wide : width_fits pl ≡ true = sym c.width_fits.ensures ∙ c.if-not-width_fits.false in
    rw (deep, wide, listed_under pl deep wide (λ z. c.if-power-eq0.false (c.power.ensures ∙ z)))
