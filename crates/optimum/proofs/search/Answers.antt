-- A question that fails gives its number and leaves all as it was; else the matching is found for the whole plays
-- divided out, and its takings are the most.
use native.Mathlib.Omega.{arith}
use Rattle.optimum.proofs.Asked.{granted, few_campaigns, priced_of, lent_of}
use Rattle.optimum.proofs.Found.{search_found, search_refused, none_failed}
use Rattle.std.proofs.lemmas.Result.{err_from_is_err_and}
use Rattle.optimum.proofs.search.Goals as goal

pub returns-in_err-admitted : goal.returns-in_err-admitted
returns-in_err-admitted c =
    let p = err_from_is_err_and c.from_residual.result c.from_residual.ensures.1 in
    rw (p.1, p.2) (search_refused _ _ _ _ _ c.in_err-admitted.ensures)

pub whole_plays-wholes-requires : goal.whole_plays-wholes-requires
whole_plays-wholes-requires c =
    let g = granted (none_failed _ c.in_ok-admitted.ensures) in
    (few_campaigns g, priced_of g)

pub allot-requires : goal.allot-requires
allot-requires c = lent_of (granted (none_failed _ c.in_ok-admitted.ensures))

pub takings-requires : goal.takings-requires
takings-requires c =
    let g = granted (none_failed _ c.in_ok-admitted.ensures) in
    (few_campaigns g, g.few, omega (arith, g.for_allotment, c.allot.auto.allotment))

pub returns : goal.returns
returns c =
    let g = granted (none_failed _ c.in_ok-admitted.ensures) in
    search_found g _ c.whole_plays-wholes.ensures c.allot.ensures c.allot.auto.allotment
    c.allot.auto.surplus c.allot.auto.worth c.takings.ensures
