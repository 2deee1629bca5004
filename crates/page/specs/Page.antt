-- Document 02's station's page: its lines, and what is read from its bytes alone. It knows no state: Figures has the
-- figures of one.
use Rattle.std.specs.Prelude.{ℕ, zero, suc, ◌+◌, ◌*◌, ◌-◌, ◌/◌, ◌%◌, ◌^◌, ◌≤◌, ◌<◌, cond, List, [], ◌∷◌, ◌++◌, length}
use Rattle.std.specs.Prelude.{take, drop, replicate}
use Rattle.lines.specs.Numeral.{numeral}
use Rattle.lines.specs.Form.{bytes}
use Rattle.lines.specs.Reading.{is_digit}

-- the figures of a campaign's line but its number, which is its place; money is in cents
pub record Row : Type 0 where
  pub plays : ℕ
  pub price : ℕ
  pub paid : ℕ
  pub named : ℕ

-- a set of figures: the campaigns in number order, and the takings
pub record Figures : Type 0 where
  pub rows : List Row
  pub takings : ℕ

-- a line has 40 characters and a byte 10
abbrev pub line_length : ℕ
line_length = 41

-- a text in the columns from first to last, flush right, filled with spaces
unfoldable pub flush : (first last : ℕ) → List ℕ → List ℕ
flush first last t = replicate (last + 1 - first - length t) 32 ++ t

-- columns of spaces
abbrev pub spaces : (first last : ℕ) → List ℕ
spaces first last = replicate (last + 1 - first) 32

-- an amount: a point, two decimals and at least one digit before it, with no needless zeros in front
unfoldable pub cents : ℕ → List ℕ
cents n = numeral (n / 100) ++ (46 ∷ (48 + n / 10 % 10) ∷ (48 + n % 10) ∷ [])

-- the 40 characters of campaign i
unfoldable pub row_text : ℕ → Row → List ℕ
row_text i r =
    flush 1 3 (numeral i) ++ (flush 4 9 (numeral r.plays) ++ (flush 10 20 (cents r.price)
    ++ (flush 21 34 (cents r.paid) ++ flush 35 40 (numeral r.named))))

-- the 40 characters of the last line
unfoldable pub total_text : (takings : ℕ) → List ℕ
total_text t = bytes "total" ++ (spaces 6 20 ++ (flush 21 34 (cents t) ++ spaces 35 40))

-- the lines of the campaigns from i on
unfoldable pub row_lines : ℕ → List Row → List ℕ
row_lines i [] = []
row_lines i (r ∷ rs) = row_text i r ++ (10 ∷ row_lines (suc i) rs)

unfoldable pub page : Figures → List ℕ
page f = row_lines 0 f.rows ++ (total_text f.takings ++ (10 ∷ []))

-- What columns hold: a number of at most so many digits; the point of an amount takes one of them.
pub record RowFits (r : Row) : Type 0 where
  pub plays_fit : r.plays < 10 ^ 6
  pub price_fits : r.price < 10 ^ 10
  pub paid_fits : r.paid < 10 ^ 13
  pub named_fit : r.named < 10 ^ 6

abbrev pub AllFit : List Row → Type 0
AllFit [] = Unit {0}
AllFit (r ∷ rs) = RowFits r × AllFit rs

pub record FiguresFit (f : Figures) : Type 0 where
  pub few : length f.rows ≤ 10 ^ 3
  pub rows_fit : AllFit f.rows
  pub takings_fit : f.takings < 10 ^ 13

-- Reading a page, given nothing but its bytes.

-- the number whose digits stand in l, behind a; spaces and the point are passed over
unfoldable pub number_in : ℕ → List ℕ → ℕ
number_in a [] = a
number_in a (b ∷ l) = number_in (cond (is_digit b) (a * 10 + (b - 48)) a) l

-- the characters in the columns from first to last of the line at the front of l
abbrev pub text_in : (first last : ℕ) → List ℕ → List ℕ
text_in first last l = take (last + 1 - first) (drop (first - 1) l)

-- the figure in these columns
abbrev pub figure_in : (first last : ℕ) → List ℕ → ℕ
figure_in first last l = number_in 0 (text_in first last l)

abbrev pub read_row : List ℕ → Row
read_row l = record {
  plays = figure_in 4 9 l;
  price = figure_in 10 20 l;
  paid = figure_in 21 34 l;
  named = figure_in 35 40 l;
}

abbrev pub with_row : Row → Figures → Figures
with_row r f = record { rows = r ∷ f.rows; takings = f.takings }

-- k lines of campaigns, and the last line
unfoldable pub read_lines : ℕ → List ℕ → Figures
read_lines zero l = record { rows = []; takings = figure_in 21 34 l }
read_lines (suc k) l = with_row (read_row l) (read_lines k (drop line_length l))

-- how many campaigns there are is told by the length
unfoldable pub read_page : List ℕ → Figures
read_page l = read_lines (length l / line_length - 1) l
