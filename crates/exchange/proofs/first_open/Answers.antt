-- No view below j is free; the first that is ends the walk, and is the least of all.
use native.Mathlib.Omega.{arith}
use Rattle.exchange.proofs.Search.{open_here}
use Rattle.exchange.proofs.first_open.Goals as goal

pub returns-then-allotment-j-eq-NOBODY : goal.returns-then-allotment-j-eq-NOBODY
returns-then-allotment-j-eq-NOBODY c =
    let l = c.loop-j in
    let a = c.args in
    open_here a.n a.allotment.now l.j (omega arith) l.invariant (λ k. c.if-allotment-j-eq-NOBODY.true)

pub returns : goal.returns
returns c =
    let a = c.args in
    open_here a.n a.allotment.now a.n (omega arith) (λ k h. c.loop-j.invariant k (omega arith))
    (λ k. absurd (omega arith))
