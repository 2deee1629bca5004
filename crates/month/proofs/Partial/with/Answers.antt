-- Sums and products are formed only where every record so far belongs to a day and this one does; n records of at most
-- 2,000,000,000 sum to at most n times as much.
use Rattle.std.proofs.Common.{◌≡◌, ℕ, ◌*◌, ◌≤◌, true, false, Option, Some, None, sym, ◌∙◌, subst, arith}
use Rattle.month.specs.declared.Partial.{Partial}
use Rattle.month.specs.declared.Totals.{Totals}
use Rattle.month.specs.Month.{max_figure, belongs}
use Rattle.month.specs.Cited.{TotalsFit, Fits, added, after}
use Rattle.month.proofs.Figures.{takings_within, greatest_within}
use Rattle.month.proofs.Partial.with.Goals as goal
use Rattle.month.proofs.Partial.with.Goals.{then-outdoes, else-outdoes}

-- totals that there are fit
sums : (m : Partial) (n : ℕ) (t : Totals) → m.totals ≡ Some t → Fits m n
    → (t.takings ≤ max_figure * n) × (t.greatest ≤ max_figure * n)
sums m n t e f = subst (λ (o : Option Totals). TotalsFit o n) e f.totals_fit

pub returns-in_default : goal.returns-in_default
unfolding after
returns-in_default c = let none : c.args.self.totals ≡ None = c.in_default.is in rw none c.invalid.ensures

pub returns-then-not-belongs : goal.returns-then-not-belongs
unfolding after
returns-then-not-belongs c =
    let some : c.args.self.totals ≡ Some c.in-Some.totals = c.in-Some.is in
    let here : belongs c.args.day ≡ false = sym c.belongs.ensures ∙ c.if-not-belongs.true in
    rw (some, here) c.invalid-then-not-belongs.ensures

pub outdoes-requires : goal.outdoes-requires
outdoes-requires c =
    let here : belongs c.args.day ≡ true = sym c.belongs.ensures ∙ c.if-not-belongs.false in
    record {
      worst_fits = c.requires.worst_fits;
      takings_fit = takings_within c.args.day here;
      greatest_fits = greatest_within c.args.day here;
    }

pub overflow_add-result : goal.overflow_add-result
overflow_add-result c =
    let here : belongs c.args.day ≡ true = sym c.belongs.ensures ∙ c.if-not-belongs.false in
    let fit = sums c.args.self c.args.place c.in-Some.totals c.in-Some.is c.requires in
    omega (arith, takings_within c.args.day here, fit.0, c.requires.few)

pub overflow_add-result-2 : goal.overflow_add-result-2
overflow_add-result-2 c =
    let here : belongs c.args.day ≡ true = sym c.belongs.ensures ∙ c.if-not-belongs.false in
    let fit = sums c.args.self c.args.place c.in-Some.totals c.in-Some.is c.requires in
    omega (arith, greatest_within c.args.day here, fit.1, c.requires.few)

pub returns : goal.returns
unfolding after added
returns c =
    let some : c.args.self.totals ≡ Some c.in-Some.totals = c.in-Some.is in
    let here : belongs c.args.day ≡ true = sym c.belongs.ensures ∙ c.if-not-belongs.false in
    elim c.if-outdoes.branch [
      | then-outdoes w ↦ rw (sym c.outdoes.ensures, w.if-outdoes.true, w.worst-is, some, here)
      | else-outdoes w ↦ rw (sym c.outdoes.ensures, w.if-outdoes.false, w.worst-is, some, here)
    ]
