-- A step takes the least member of what is left.
use mathlib.Core.Path.{ap}
use native.Mathlib.Omega.{arith}
use Rattle.std.proofs.Common.{rules, ◌^◌, ◌<◌, length}
use Rattle.sets.proofs.Taken.{one_taken}
use Rattle.sets.proofs.MembersIterator.next.Goals as goal

pub returns-clause-goes : goal.returns-clause-goes
returns-clause-goes c =
    let fit : c.args.self.now.0 < 2 ^ 64 = search rules in
    let e = one_taken c.args.self.now.0 _ _ fit c.if-set-eq0.false c.first.ensures c.rest.ensures in
    record {
      on = λ h. (search rules, search rules, omega (arith, ap length e));
      keeps = search rules;
      rests = search rules;
    }
