-- The figures of a state.
use Rattle.std.specs.Prelude.{ℕ}
use Rattle.finite.specs.Finite.{table}
use Rattle.campaigns.specs.declared.Campaign.{Campaign}
use Rattle.campaigns.specs.Campaign.{spending}
use Rattle.day.specs.declared.Day.{Day}
use Rattle.day.specs.Day.{campaign, total_takings}
use Rattle.page.specs.Page.{Row, Figures}

-- the price that the page shows; what is paid is price × plays, the campaign's part of the takings
abbrev pub price_shown : Campaign → ℕ
price_shown c = c.price

abbrev pub page_row : Campaign → Row
page_row c = record { plays = c.plays; price = price_shown c; paid = spending c; named = c.named }

unfoldable pub figures : Day → Figures
figures s = record { rows = table s.count (λ i. page_row (campaign s i)); takings = total_takings s }
