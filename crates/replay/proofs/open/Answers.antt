-- An opening: its answer tells whether the takings begin again.
use Rattle.std.proofs.Common.{arith}
use Rattle.replay.proofs.Steps.{opened, not_opened}
use Rattle.replay.proofs.open.Goals as goal

pub returns-then-accepted : goal.returns-then-accepted
returns-then-accepted c =
    let b = c.args.before in
    let o = c.open-outcome in
    opened b.day b.paid c.args.plan o.result o.ensures (omega (arith, c.number-accepted.ensures))

pub returns-else-accepted : goal.returns-else-accepted
returns-else-accepted c =
    let b = c.args.before in
    let o = c.open-outcome in
    not_opened b.day b.paid c.args.plan o.result o.ensures (λ z. omega (arith, c.number-accepted.ensures, z))
