-- A named campaign that does not play, by cases: spent, of an age that reaches the depth, younger (rules 3 and 4).
use mathlib.Core.Bool.{true, false}
use mathlib.Core.Path.{◌≡◌, sym, ◌∙◌}
use borrow.Author.Tests.{eq-eqb, ne_eqb}
use Rattle.campaigns.specs.Campaign.{can_pay}
use Rattle.campaigns.proofs.Campaign.passed_over.Goals as goal

pub returns-then-not-can_pay : goal.returns-then-not-can_pay
returns-then-not-can_pay c =
    let p : can_pay c.args.self ≡ false = sym c.can_pay.ensures ∙ c.if-not-can_pay.true in
    rw p c.named_again.ensures

pub returns-then-self-depth : goal.returns-then-self-depth
returns-then-self-depth c =
    let p : can_pay c.args.self ≡ true = sym c.can_pay.ensures ∙ c.if-not-can_pay.false in
    rw (p, eq-eqb _ _ c.if-self-depth.true) c.named_again-then-self-depth.ensures

pub returns : goal.returns
returns c =
    let p : can_pay c.args.self ≡ true = sym c.can_pay.ensures ∙ c.if-not-can_pay.false in
    rw (p, ne_eqb _ _ c.if-self-depth.false) c.named_again-2.ensures
