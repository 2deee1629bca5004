-- The loop keeps `Left`: what is left of the walk, done from here, gives the whole walk.
use Rattle.campaigns.specs.Campaign.{campaign_at}
use Rattle.choice.proofs.Turns.{Left}
use Rattle.choice.proofs.walk.Given as goal

abbrev pub invariant-loop-i : goal.invariant-loop-i
invariant-loop-i l = Left l.plan l.fn.view (campaign_at l.terms l.initial.counts) l.terms l.counts l.best l.i-iterator.0
