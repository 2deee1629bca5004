-- More than 31 records are refused; else the loop takes each with its place, and what it comes to is the report.
use Rattle.std.proofs.Common.{◌≡◌, refl, sym, ◌∙◌, ap, subst, arith, ◌+◌, ℕ, add-one, length}
use Rattle.month.specs.declared.Partial.{Partial}
use Rattle.month.specs.Month.{day}
use Rattle.month.specs.Cited.{Fits, after, finish}
use Rattle.month.proofs.Upto.{upto, upto_next, upto_start, start_fits, after_fits, few, many}
use Rattle.month.proofs.report.Goals as goal

pub returns-then-days-gt-MAX_RECORDS : goal.returns-then-days-gt-MAX_RECORDS
returns-then-days-gt-MAX_RECORDS c = many c.args.days.now (omega arith)

pub loop-place-init : goal.loop-place-init
loop-place-init c = (
  c.new-so_far.ensures ∙ sym (upto_start c.args.days.now),
  subst (λ (m : Partial). Fits m 0) (sym c.new-so_far.ensures) start_fits,
)

pub loop-place-preserved : goal.loop-place-preserved
loop-place-preserved c =
    let l = c.loop-place in
    let days = c.args.days.now in
    let fits : Fits (after l.so_far (day days l.place) l.place) (l.place + 1) =
    subst (λ (n : ℕ). Fits (after l.so_far (day days l.place) l.place) n) (sym (add-one l.place))
    (after_fits l.so_far (day days l.place) l.place _ refl (omega arith) l.invariant.1) in (
      c.with-so_far.ensures ∙ ap (λ (m : Partial). after m (day days l.place) l.place) l.invariant.0
          ∙ sym (upto_next days l.place),
      subst (λ (m : Partial). Fits m (l.place + 1)) (sym c.with-so_far.ensures) fits,
    )

pub returns : goal.returns
returns c =
    let l = c.loop-place in
    let days = c.args.days.now in
    let all : l.place ≡ length days = omega arith in
    c.done.ensures ∙ ap finish (l.invariant.0 ∙ ap (upto days) all) ∙ few days (omega arith)
