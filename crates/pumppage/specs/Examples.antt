-- The pages of two days, computed: from the lines that are read to the bytes that are printed. On the day of document
-- 01's listing each campaign's plays are its turns, and each paid its whole budget; on the other neither holds.
use Rattle.std.specs.Prelude.{◌≡◌, List, [], ◌∷◌, ℕ}
use Prim.Native.String.{String}
use Rattle.day.specs.Day.{blank}
use Rattle.stream.specs.Input.{after_lines}
use Rattle.stream.specs.Listing.{listing_lines, uneven_lines}
use Rattle.page.specs.Printing.{page_of}
use Rattle.page.specs.Examples.{text_of}

-- the page of the state after these lines, from the blank state on, reads so
abbrev pub PageIs : (lines : List (List ℕ)) → (text : List String) → Type 0
PageIs ls t = page_of (after_lines blank ls) ≡ text_of t

pub record Examples : Type 0 where
  pub of_the_listing : PageIs listing_lines (
      "  0     2       0.05          0.10     4" ∷
      "  1     2       0.03          0.06     4" ∷
      "total                         0.16      " ∷ [])
  -- campaign 0 plays three times and has budget left over; campaign 1 finishes a turn and never plays
  pub of_uneven : PageIs uneven_lines (
      "  0     3       0.02          0.06     3" ∷
      "  1     0       0.01          0.00     3" ∷
      "total                         0.06      " ∷ [])
