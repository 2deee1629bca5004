-- A call that is neither an opening nor a view leaves the takings.
use Rattle.replay.proofs.Steps.{unpaid}
use Rattle.replay.proofs.step.Goals as goal

pub returns-in_default : goal.returns-in_default
returns-in_default c =
    let b = c.args.before in
    unpaid b.day b.paid c.args.call c.execute.result c.execute.ensures c.in_default.not-Open c.in_default.not-Show
