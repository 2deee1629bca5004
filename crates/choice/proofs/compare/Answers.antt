-- A campaign that can pay costs at least 1.
use Rattle.campaigns.proofs.Laws.{price_least}
use Rattle.choice.proofs.compare.Goals as goal

pub can_pay-requires-clause-le_price : goal.can_pay-requires-clause-le_price
can_pay-requires-clause-le_price c = price_least c.args.c c.requires.c_value
