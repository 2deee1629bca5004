-- Pages as they read, computed: that of document 01's listing at its end, that of no campaigns, and two with great
-- figures, a campaign at the limits of document 01 and the greatest that the columns hold; three are read back. And
-- questions 1 and 18 of a page, with what is left in the lent buffer.
use Rattle.std.specs.Prelude.{◌≡◌, List, [], ◌∷◌, ◌++◌, ℕ, replicate, Result, Ok, Err}
use Prim.Native.String.{String}
use Rattle.campaigns.specs.declared.Phase.TheVariants.{Closed}
use Rattle.day.specs.declared.Day.{Day}
use Rattle.day.specs.Day.{in_phase, blank}
use Rattle.lines.specs.Form.{bytes}
use Rattle.refusal.specs.declared.Refusal.{Refusal}
use Rattle.refusal.specs.Refusal.{refusal}
use Rattle.page.specs.Page.{Row, Figures, page, read_page}
use Rattle.page.specs.Printing.{printing, printed}

-- lines of text, each ended by byte 10
abbrev pub text_of : List String → List ℕ
text_of [] = []
text_of (s ∷ ss) = bytes s ++ (10 ∷ text_of ss)

abbrev pub row : (plays price paid named : ℕ) → Row
row p c x n = record { plays = p; price = c; paid = x; named = n }

abbrev pub listing : Figures
listing = record { rows = row 2 5 10 4 ∷ row 2 3 6 4 ∷ []; takings = 16 }

abbrev pub nothing : Figures
nothing = record { rows = []; takings = 0 }

-- their page, of 41 bytes
abbrev pub nothing_text : List ℕ
nothing_text = text_of ("total                         0.00      " ∷ [])

-- a campaign of the greatest price that spent the greatest budget, on a day of as many views as there may be
abbrev pub limits : Figures
limits = record { rows = row 2_000 1_000_000 2_000_000_000 4_096 ∷ []; takings = 2_000_000_000 }

-- the greatest figures that the columns hold, with no space between them
abbrev pub columns : Figures
columns = record {
  rows = row 999_999 9_999_999_999 9_999_999_999_999 999_999 ∷ [];
  takings = 9_999_999_999_999;
}

-- printing the page of a state into a lent buffer of so many bytes, all 7: the answer, and the buffer afterwards
abbrev pub Leaves : Day → (room : ℕ) → Result ℕ Refusal → (after : List ℕ) → Type 0
Leaves s n a after = (printing s (replicate n 7) ≡ a) × (printed s (replicate n 7) ≡ after)

-- a state that is not sound: its Closed phase does not hold the takings
abbrev pub wrongly_closed : Day
wrongly_closed = in_phase blank (Closed 1)

pub record Examples : Type 0 where
  pub listing_is : page listing ≡
      text_of (
      "  0     2       0.05          0.10     4" ∷
      "  1     2       0.03          0.06     4" ∷
      "total                         0.16      " ∷ [])
  pub listing_back : read_page (page listing) ≡ listing
  pub nothing_is : page nothing ≡ nothing_text
  pub nothing_back : read_page (page nothing) ≡ nothing
  pub limits_are : page limits ≡
      text_of (
      "  0  2000   10000.00   20000000.00  4096" ∷
      "total                  20000000.00      " ∷ [])
  pub columns_are : page columns ≡
      text_of (
      "  099999999999999.9999999999999.99999999" ∷
      "total               99999999999.99      " ∷ [])
  pub columns_back : read_page (page columns) ≡ columns
  -- the blank state's page: room for all of it, a byte beyond, which keeps its value, and a byte too few
  pub exact_room : Leaves blank 41 (Ok 41) nothing_text
  pub later_byte : Leaves blank 42 (Ok 41) (nothing_text ++ (7 ∷ []))
  pub one_short : Leaves blank 40 (Err (refusal 18)) (replicate 40 7)
  -- 1 is asked, and before 18
  pub unsound : Leaves wrongly_closed 41 (Err (refusal 1)) (replicate 41 7)
  pub soundness_first : Leaves wrongly_closed 40 (Err (refusal 1)) (replicate 40 7)
