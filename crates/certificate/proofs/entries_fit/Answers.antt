-- The chain tests each entry with its view.
use Rattle.std.proofs.Common.{ℕ, ◌∙◌, rules, tests}
use Rattle.std.proofs.lemmas.Iterator.{YieldsList-from_slice, YieldsList-from_zip}
use Rattle.std.proofs.lemmas.Iterator.Search.{all_from_yields_List}
use Rattle.allotments.specs.Allotment.{entry_fits}
use Rattle.certificate.proofs.Listed.{every_zipped}
use Rattle.certificate.proofs.entries_fit.Goals as goal

pub returns : goal.returns
returns c =
    let a = c.args in
    all_from_yields_List (λ (q : ℕ × ℕ). entry_fits q.0 q.1) c.all.new.self _ c.all.result c.all.ensures.ran
    (YieldsList-from_zip (YieldsList-from_slice a.views.now (search rules))
    (YieldsList-from_slice a.allotment.now (search rules)))
    (λ x b q k. search (rules, tests)) ∙ every_zipped entry_fits a.views.now a.allotment.now c.requires
