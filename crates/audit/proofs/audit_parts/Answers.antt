-- The tests of soundness in the order of the code (`staged`): the columns, then the sums. Where one fails there is no
-- audit; where all pass the sums are within `Bounded`, and `check_claim` gives the rest.
use Rattle.audit.proofs.Totals.{columns, columns_bounded}
use Rattle.audit.proofs.Claims.{sums_hold, staged, tested_is, over_budget, wrong_phase, sums_bounded, some_given}
use Rattle.audit.proofs.Claims.{none_given}
use Rattle.audit.proofs.Audits.{few_of, views_of, audit_failed, audit_checked}
use Rattle.campaigns.proofs.Laws.{plan_sized}
use Rattle.finite.proofs.Tests.{both_left, both_join}
use borrow.Author.Tests.{le-leb}
use Rattle.audit.specs.Cited.{summed, empty_from, Bounded, claim_checked}
use Rattle.campaigns.specs.Limits.{max_budget}
use lib.Dec.{leb}
use mathlib.Core.Bool.{true, false}
use mathlib.Core.Path.{◌≡◌, ap, sym, subst, ◌∙◌}
use Rattle.campaigns.specs.Campaign.{campaign_at}
use Rattle.campaigns.specs.Phase.{phase_holds}
use Rattle.audit.proofs.audit_parts.Goals as goal
use Rattle.audit.proofs.audit_parts.Goals.{then-sums-gt-MAX_BUDGET-via-then-sums-gt-MAX_BUDGET, then-sums-gt-MAX_BUDGET-via-else-sums-gt-MAX_BUDGET+then-not-phase_holds}

pub columns_hold-requires : goal.columns_hold-requires
columns_hold-requires c =
    let h = c.args.head in
    let f = campaign_at c.args.terms.now c.args.counts.now in (
      few_of h f c.requires.head_value,
      (plan_sized h.plan c.requires.weights.plan_sound).shallow,
      views_of h f c.requires.head_value,
    )

pub returns-then-not-columns_hold : goal.returns-then-not-columns_hold
returns-then-not-columns_hold c =
    let h = c.args.head in
    let f = campaign_at c.args.terms.now c.args.counts.now in
    sym (audit_failed h f c.requires.head_value
    (staged h.phase h.plan h.accepted h.count f ∙ rw (sym c.columns_hold.ensures ∙ c.if-not-columns_hold.true)))

pub sum_all-requires-clause-entries_bounded : goal.sum_all-requires-clause-entries_bounded
sum_all-requires-clause-entries_bounded c =
    let h = c.args.head in
    let f = campaign_at c.args.terms.now c.args.counts.now in
    columns_bounded h.phase h.plan h.accepted h.count f
    (both_left (columns h.phase h.plan h.accepted h.count f) (empty_from h.count f)
    (sym c.columns_hold.ensures ∙ c.if-not-columns_hold.false))

pub returns-in_err-sums : goal.returns-in_err-sums
unfolding summed
returns-in_err-sums c =
    let h = c.args.head in
    let f = campaign_at c.args.terms.now c.args.counts.now in
    c.from_residual.ensures
    ∙ sym (audit_failed h f c.requires.head_value
    (staged h.phase h.plan h.accepted h.count f
    ∙ rw (sym c.columns_hold.ensures ∙ c.if-not-columns_hold.false, none_given _ c.in_err-sums.ensures)))

pub returns-then-sums-gt-MAX_BUDGET : goal.returns-then-sums-gt-MAX_BUDGET
unfolding summed
returns-then-sums-gt-MAX_BUDGET c =
    let h = c.args.head in
    let f = campaign_at c.args.terms.now c.args.counts.now in
    let s = c.in_ok-sums.sums in
    let found = some_given c.in_ok-sums.ensures in
    let fails : sums_hold h.phase h.accepted s ≡ false = elim c.then-sums-gt-MAX_BUDGET.branch [
      | then-sums-gt-MAX_BUDGET-via-then-sums-gt-MAX_BUDGET w ↦
          over_budget h.phase h.accepted s w.if-sums-gt-MAX_BUDGET.true
      | then-sums-gt-MAX_BUDGET-via-else-sums-gt-MAX_BUDGET+then-not-phase_holds w ↦
          wrong_phase h.phase h.accepted s (sym w.phase_holds.ensures ∙ w.if-not-phase_holds.true)
    ] in
    sym (audit_failed h f c.requires.head_value
    (tested_is h.phase h.plan h.accepted h.count f s false
    (sym c.columns_hold.ensures ∙ c.if-not-columns_hold.false) found.0 found.1 fails))

pub check_claim-requires-clause-bounded : goal.check_claim-requires-clause-bounded
unfolding summed
check_claim-requires-clause-bounded c =
    let h = c.args.head in
    let f = campaign_at c.args.terms.now c.args.counts.now in
    let s = c.in_ok-sums.sums in
    let found = some_given c.in_ok-sums.ensures in
    subst Bounded (sym found.1)
    (sums_bounded h.phase h.plan h.accepted h.count f
    (tested_is h.phase h.plan h.accepted h.count f s true
    (sym c.columns_hold.ensures ∙ c.if-not-columns_hold.false) found.0 found.1
    (both_join (leb s.budgets max_budget) (phase_holds h.phase h.accepted s.takings)
    (le-leb s.budgets max_budget c.if-sums-gt-MAX_BUDGET.false)
    (sym c.phase_holds.ensures ∙ c.if-not-phase_holds.false)))
    (few_of h f c.requires.head_value) (views_of h f c.requires.head_value) c.requires.weights.plan_sound)

pub returns : goal.returns
unfolding summed
returns c =
    let h = c.args.head in
    let f = campaign_at c.args.terms.now c.args.counts.now in
    let s = c.in_ok-sums.sums in
    let found = some_given c.in_ok-sums.ensures in
    c.check_claim.ensures ∙ ap (claim_checked h.plan) found.1
    ∙ sym (audit_checked h f c.requires.head_value
    (tested_is h.phase h.plan h.accepted h.count f s true
    (sym c.columns_hold.ensures ∙ c.if-not-columns_hold.false) found.0 found.1
    (both_join (leb s.budgets max_budget) (phase_holds h.phase h.accepted s.takings)
    (le-leb s.budgets max_budget c.if-sums-gt-MAX_BUDGET.false)
    (sym c.phase_holds.ensures ∙ c.if-not-phase_holds.false))))
