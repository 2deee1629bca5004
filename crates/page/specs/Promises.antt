-- What is promised of every page: "No figure that the limits allow overflows its columns. The figures can be read back
-- from a page alone, and no two different sets print alike."
use Rattle.std.specs.Prelude.{ℕ, ◌+◌, ◌*◌, ◌/◌, ◌%◌, ◌<◌, ◌≡◌, true, cond, List, [], ◌∷◌, eqb, length, drop}
use Rattle.std.specs.Prelude.{replicate, get_or}
use Rattle.day.specs.declared.Day.{Day}
use Rattle.day.specs.Day.{campaign, total_takings, sound}
use Rattle.lines.specs.Form.{bytes}
use Rattle.lines.specs.Reading.{seen, numeral_at}
use Rattle.page.specs.Page.{Figures, line_length, FiguresFit, page, text_in, figure_in, read_page}
use Rattle.page.specs.Figures.{figures}
use Rattle.page.specs.Printing.{page_of, Tells}

-- l without the spaces at its front
abbrev pub behind_spaces : List ℕ → List ℕ
behind_spaces [] = []
behind_spaces (b ∷ l) = cond (eqb b 32) (behind_spaces l) (b ∷ l)

-- the number n in the columns from first to last of the line at the front of l, "flush right, filled with spaces": it
-- is read from them, and behind spaces they hold its numeral and nothing else
pub record NumberShows (first last n : ℕ) (l : List ℕ) : Type 0 where
  pub figure_is : figure_in first last l ≡ n
  pub flush_right : numeral_at (behind_spaces (text_in first last l)) ≡ seen n []

-- n cents there in the same manner, with "a point, two decimals and at least one digit before it, with no needless
-- zeros in front": behind spaces the numeral of n / 100, byte 46, two digits and nothing else
pub record AmountShows (first last n : ℕ) (l : List ℕ) : Type 0 where
  pub figure_is : figure_in first last l ≡ n
  pub flush_right : numeral_at (behind_spaces (text_in first last l))
      ≡ seen (n / 100) (46 ∷ (48 + n / 10 % 10) ∷ (48 + n % 10) ∷ [])

-- the line at the front of l shows campaign i with these figures
pub record LineShows (i plays price paid named : ℕ) (l : List ℕ) : Type 0 where
  pub number_is : NumberShows 1 3 i l
  pub plays_are : NumberShows 4 9 plays l
  pub price_is : AmountShows 10 20 price l
  pub paid_is : AmountShows 21 34 paid l
  pub named_are : NumberShows 35 40 named l

-- the last line, at the front of l, shows the takings t, with spaces elsewhere
pub record TotalShows (t : ℕ) (l : List ℕ) : Type 0 where
  pub word_is : text_in 1 5 l ≡ bytes "total"
  pub takings_are : AmountShows 21 34 t l
  pub spaces_are : (text_in 6 20 l ≡ replicate 15 32) × (text_in 35 40 l ≡ replicate 6 32)

-- the page l of a state: a line for each campaign in number order, and the last line with the takings
pub record PageShows (s : Day) (l : List ℕ) : Type 0 where
  pub length_is : length l ≡ line_length * (s.count + 1)
  pub campaigns_are : (i : ℕ) → i < s.count → let c = campaign s i in
      LineShows i c.plays c.price (c.price * c.plays) c.named (drop (line_length * i) l)
  pub total_is : TotalShows (total_takings s) (drop (line_length * s.count) l)

pub record Promises : Type 0 where
  -- the page of every sound state shows that state
  pub shows : (s : Day) → sound s ≡ true → PageShows s (page_of s)
  -- the figures of every sound state fit
  pub none_overflows : (s : Day) → sound s ≡ true → FiguresFit (figures s)
  -- so many lines of 41 bytes, and byte 10 is the last of each and stands nowhere else
  pub lines_are : (f : Figures) → FiguresFit f → length (page f) ≡ line_length * (length f.rows + 1)
  pub ends_are : (f : Figures) → FiguresFit f → (i : ℕ) → i < length (page f)
      → eqb (get_or (page f) i 0) 10 ≡ eqb (i % line_length) 40
  pub reads_back : (f : Figures) → FiguresFit f → read_page (page f) ≡ f
  pub prints_once : (f g : Figures) → FiguresFit f → FiguresFit g → page f ≡ page g → f ≡ g
  pub tells : (s : Day) (d : List ℕ) → Tells s d
