-- Euclid's loop. The invariant: what divides both numbers of a turn is what divides those that were given.
use Rattle.earnings.proofs.Divisors.{euclid_turn, euclid_ends}
use Rattle.earnings.proofs.ratio.gcd.Goals as goal

pub loop-y-preserved : goal.loop-y-preserved
loop-y-preserved c =
    let o = c.loop-y in
    let a = c.args in
    euclid_turn a.a a.b o.x o.y c.loop-y-test.true o.invariant

pub returns : goal.returns
returns c =
    let o = c.loop-y in
    let a = c.args in
    euclid_ends a.a a.b o.x o.y c.requires c.loop-y-test.false o.invariant
