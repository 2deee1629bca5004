-- A question that fails gives its number; else the answer is the test's, with the whole plays divided out.
use Rattle.optimum.proofs.Asked.{granted, few_campaigns, priced_of, lent_of}
use Rattle.optimum.proofs.Found.{check_answer, check_refused, none_failed}
use Rattle.std.proofs.lemmas.Result.{err_from_is_err_and}
use Rattle.optimum.proofs.check.Goals as goal

pub returns-in_err-admitted : goal.returns-in_err-admitted
returns-in_err-admitted c =
    let p = err_from_is_err_and c.from_residual.result c.from_residual.ensures.1 in
    rw (p.1, p.2) (check_refused _ _ _ _ _ c.in_err-admitted.ensures)

pub whole_plays-wholes-requires : goal.whole_plays-wholes-requires
whole_plays-wholes-requires c =
    let g = granted (none_failed _ c.in_ok-admitted.ensures) in
    (few_campaigns g, priced_of g)

pub certified-requires : goal.certified-requires
certified-requires c =
    let g = granted (none_failed _ c.in_ok-admitted.ensures) in
    (lent_of g, g.few)

pub returns : goal.returns
returns c =
    let g = granted (none_failed _ c.in_ok-admitted.ensures) in
    check_answer g _ c.whole_plays-wholes.ensures c.certified.ensures
