-- The chain asks the question of each view.
use Rattle.std.proofs.Common.{◌∙◌, rules, tests}
use Rattle.std.proofs.lemmas.Iterator.{YieldsList-from_slice}
use Rattle.std.proofs.lemmas.Iterator.Search.{all_from_yields_List}
use Rattle.sets.specs.Set.{within}
use Rattle.certificate.proofs.Listed.{every_listed}
use Rattle.optimum.proofs.all_within.Goals as goal

pub returns : goal.returns
returns c =
    let a = c.args in
    all_from_yields_List (within a.count) c.all.new.self _ c.all.result c.all.ensures.ran
    (YieldsList-from_slice a.views.now (search rules)) (λ x b q k. search (rules, tests))
    ∙ every_listed (within a.count) a.views.now
