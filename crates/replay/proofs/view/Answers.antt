-- A view: what is paid is added, and fits since the takings so far are bounded by the accepted views.
use Rattle.std.proofs.Common.{◌≡◌, ap, ◌∙◌, arith}
use Rattle.day.specs.declared.Outcome.{Outcome}
use Rattle.day.specs.Calls.{call}
use Rattle.day.specs.Calls.Call.{show_view}
use Rattle.floor.specs.History.{paid_in}
use Rattle.replay.proofs.Steps.{view_fits, viewed_once}
use Rattle.replay.proofs.view.Goals as goal

pub overflow_add-result : goal.overflow_add-result
overflow_add-result c =
    let b = c.args.before in
    let w = c.args.view in
    let e : c.paid_in-more.result ≡ paid_in (call b.day (show_view w)).answer =
    c.paid_in-more.ensures ∙ ap (λ (o : Outcome). paid_in o.answer) c.view-outcome.ensures in
    omega (arith, view_fits b.day b.paid w c.requires (omega arith))

pub returns : goal.returns
returns c =
    let b = c.args.before in
    let o = c.view-outcome in
    rw c.paid_in-more.ensures (viewed_once b.day b.paid c.args.view o.result o.ensures)
