-- One audit, for the takings, and the search, whose lent entries are enough for 256 views and 64 campaigns.
use mathlib.Core.Path.{◌≡◌, refl, sym, ◌∙◌}
use Rattle.std.proofs.Common.{rules, Err, None}
use Rattle.std.proofs.lemmas.Result.{err_from_is_err_and}
use Rattle.refusal.specs.Refusal.{refusal}
use Rattle.earnings.proofs.Told.{refused_told, figures_told, unsound_told}
use Rattle.earnings.proofs.earned_at.Goals as goal

pub returns-in_err-audit : goal.returns-in_err-audit
returns-in_err-audit c =
    let none : c.audited.result ≡ None = c.in_err-audit.ensures.ok_part in
    let told : c.from_residual.result ≡ Err (refusal 1) = search rules in
    told ∙ unsound_told _ _ (sym none ∙ c.audited.ensures)

pub returns-in_err-greatest : goal.returns-in_err-greatest
returns-in_err-greatest c =
    let r = c.from_residual-in_err-greatest in
    let p = err_from_is_err_and r.result r.ensures.1 in
    rw (p.1, p.2) (refused_told _ _ _ _ _ refl refl refl c.in_err-greatest.ensures.answer)

pub returns : goal.returns
returns c = figures_told _ _ _ _ _ refl refl refl c.in_ok-greatest.ensures.answer
    (sym c.in_ok-audit.ensures.ok_part ∙ c.audited.ensures)
