-- The figures of the campaigns below c stand.
use Rattle.matching.specs.Cited.{campaign_figure}
use Rattle.matching.proofs.Fill.{Filling}
use Rattle.matching.proofs.write_campaign_figures.Given as goal

abbrev pub invariant-loop-c : goal.invariant-loop-c
invariant-loop-c l = Filling l.initial.surplus l.surplus l.count l.c (campaign_figure l.prices l.level)
