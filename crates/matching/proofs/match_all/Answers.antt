-- Between two served campaigns the standing holds, and those not served are one fewer at each turn.
use native.Mathlib.Omega.{arith}
use Rattle.matching.proofs.Matching.{underway_start, ready_chosen, fewer_left, underway_turn}
use Rattle.matching.proofs.Matching.{matched_end}
use Rattle.matching.proofs.match_all.Goals as goal

pub everyone-unserved-requires : goal.everyone-unserved-requires
everyone-unserved-requires c = c.requires.market.few

pub loop-unserved-init : goal.loop-unserved-init
loop-unserved-init c =
    let a = c.args in
    underway_start a.count a.prices.now a.wholes.now a.views.now a.allotment.now a.level.now
    c.everyone-unserved.result c.requires c.everyone-unserved.ensures

pub dearest-c-requires : goal.dearest-c-requires
dearest-c-requires c = c.loop-unserved-test.true

pub first_open-first-requires : goal.first_open-first-requires
first_open-first-requires c =
    let u = c.loop-unserved.invariant in
    record { n_in_bounds = (u.room, u.inside); none_free = u.taken }

pub serve-after-requires : goal.serve-after-requires
serve-after-requires c =
    ready_chosen c.loop-unserved.invariant c.dearest-c.ensures c.first_open-first.ensures

pub freeze-requires : goal.freeze-requires
freeze-requires c =
    c.loop-unserved.invariant.long

pub including-requires : goal.including-requires
including-requires c =
    c.dearest-c.ensures.inside

pub loop-unserved-smaller : goal.loop-unserved-smaller
loop-unserved-smaller c =
    fewer_left c.loop-unserved.invariant c.dearest-c.ensures c.including.ensures
    c.without-unserved.ensures

pub loop-unserved-preserved : goal.loop-unserved-preserved
loop-unserved-preserved c =
    let o = c.first_open-first in
    let v = c.serve-after in
    let f = c.freeze in
    let plays = c.from-plays in
    let price = c.from-price in
    underway_turn c.loop-unserved.invariant c.dearest-c.ensures o.ensures plays.ensures
    price.ensures c.without.ensures c.including.ensures
    c.without-unserved.ensures v.auto.allotment v.ensures f.ensures

pub shape_of-allotment : goal.shape_of-allotment
shape_of-allotment c = c.loop-unserved.invariant.same

pub returns : goal.returns
returns c = matched_end c.loop-unserved.invariant c.loop-unserved-test.false

pub offset_bounds-prices-at : goal.offset_bounds-prices-at
offset_bounds-prices-at c = omega (arith, c.dearest-c.ensures.inside)

pub bounds-prices-at : goal.bounds-prices-at
bounds-prices-at c = omega (arith, c.dearest-c.ensures.inside)

pub offset_bounds-wholes-at : goal.offset_bounds-wholes-at
offset_bounds-wholes-at c = omega (arith, c.dearest-c.ensures.inside)

pub bounds-wholes-at : goal.bounds-wholes-at
bounds-wholes-at c = omega (arith, c.dearest-c.ensures.inside)
