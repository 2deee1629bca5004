-- Days as text and their lines, computed: document 01's listing, which took all that it could, and a day that gave to
-- campaign 0 the view that campaign 1 could have had. Its last view found nobody, since campaign 1 was paused.
use Rattle.std.specs.Prelude.{◌≡◌, List, [], ◌∷◌, ℕ}
use Rattle.lines.specs.Form.{bytes}
use Rattle.stream.specs.Listing.{lines_of, listing_lines}
use Rattle.earnings.specs.Earnings.{earnings_text}
use Rattle.pumpgreatest.specs.Prints.{day_earnings}

abbrev pub less_than_all : List (List ℕ)
less_than_all = lines_of (
    "(plan (depth 2) (width 2))" ∷
    "(campaign (price 6) (budget 6))" ∷
    "(campaign (price 3) (budget 6))" ∷
    "(start)" ∷
    "(view 0 1)" ∷
    "(view 0)" ∷
    "(pause 1)" ∷
    "(view 1)" ∷
    "(close)" ∷ [])

pub record Examples : Type 0 where
  pub of_the_listing : earnings_text (day_earnings listing_lines) ≡ bytes "(takings 16) (greatest 16) (ratio 1/1)\n"
  pub of_less_than_all : earnings_text (day_earnings less_than_all) ≡ bytes "(takings 6) (greatest 9) (ratio 2/3)\n"
