-- What the day took beside what it could have earned, and its line.
use Rattle.std.specs.Prelude.{◌≡◌, cond, List, [], ◌∷◌, ◌++◌, ℕ, zero, suc, ◌^◌, ◌<◌, eqb, take, drop, Result, Ok, Err}
use Rattle.lines.specs.declared.Record.TheVariants as lines
use Rattle.lines.specs.Form.{bytes}
use Rattle.lines.specs.Numeral.{numeral}
use Rattle.lines.specs.Reading.{seen, numeral_at}
use Rattle.writer.specs.Writing.{line}
use Rattle.campaigns.specs.Limits.{max_campaigns}
use Rattle.day.specs.declared.Day.{Day}
use Rattle.day.specs.Day.{total_takings}
use Rattle.questions.specs.Questions.{first_failed, accepts}
use Rattle.allotments.specs.Limits.{max_handed_in}
use Rattle.optimum.specs.Optimum.{questions, search_door, most_of}
use Rattle.refusal.specs.declared.Refusal.{Refusal}
use Rattle.refusal.specs.Refusal.{refusal}
use Rattle.earnings.specs.declared.Figures.{Figures}
use Rattle.earnings.specs.Ratio.{ratio_of}

-- from the number of the question that failed, or 0
abbrev pub earnings_of : (question takings greatest : ℕ) → Result Figures Refusal
earnings_of zero t g = Ok (record { takings = t; greatest = g })
earnings_of (suc q) t g = Err (refusal (suc q))

-- the number of the first question of the search that fails, or 0, where enough is lent for 256 views and 64 campaigns
unfoldable pub question_of : Day → (views : List ℕ) → ℕ
question_of s views = first_failed (questions s views max_handed_in max_campaigns max_handed_in)

unfoldable pub earned : Day → (views : List ℕ) → Result Figures Refusal
earned s views = earnings_of (question_of s views) (total_takings s) (most_of s views)

-- the number of an answer, 0 where it is accepted, and its values
abbrev pub number : Result Figures Refusal → ℕ
number (Err r) = r.question
number (Ok f) = 0

abbrev pub values : Result Figures Refusal → List ℕ
values (Err r) = r.question ∷ []
values (Ok f) = f.takings ∷ f.greatest ∷ []

pub record Tells (s : Day) (views : List ℕ) : Type 0 where
  pub number_is : number (earned s views) ≡ question_of s views
  -- that of request 4's questions, in its words
  pub asked : search_door s views accepts (number (earned s views))
  pub values_are : values (earned s views)
      ≡ let q = number (earned s views) in cond (eqb q 0) (total_takings s ∷ most_of s views ∷ []) (q ∷ [])

abbrev pub AlwaysTells : Type 0
AlwaysTells = (s : Day) (views : List ℕ) → Tells s views

-- room for every line
abbrev pub report_room : ℕ
report_room = 128

-- the line, with its byte 10
unfoldable pub figures_text : (takings greatest : ℕ) → List ℕ
figures_text t g =
    bytes "(takings " ++ (numeral t ++ (bytes ") (greatest " ++ (numeral g ++ (bytes ") (ratio " ++
    (numeral (ratio_of t g).numerator ++ (bytes "/" ++ (numeral (ratio_of t g).denominator ++ bytes ")\n")))))))

-- the figures read back from the bytes of their line: words and numerals in turn, and nothing else
pub record Reads (t g : ℕ) (l : List ℕ) : Type 0 where
  -- what is left behind each numeral but the last
  pub behind_takings : List ℕ
  pub behind_greatest : List ℕ
  pub behind_numerator : List ℕ
  pub takings_word : take 9 l ≡ bytes "(takings "
  pub takings_are : numeral_at (drop 9 l) ≡ seen t behind_takings
  pub greatest_word : take 12 behind_takings ≡ bytes ") (greatest "
  pub greatest_is : numeral_at (drop 12 behind_takings) ≡ seen g behind_greatest
  pub ratio_word : take 9 behind_greatest ≡ bytes ") (ratio "
  pub numerator_is : numeral_at (drop 9 behind_greatest) ≡ seen (ratio_of t g).numerator behind_numerator
  pub stroke_is : take 1 behind_numerator ≡ bytes "/"
  pub denominator_is : numeral_at (drop 1 behind_numerator) ≡ seen (ratio_of t g).denominator (bytes ")\n")

abbrev pub LineReads : Type 0
LineReads = (t g : ℕ) → t < 2 ^ 64 → g < 2 ^ 64 → Reads t g (figures_text t g)

-- that of a refusal is document 01's
abbrev pub earnings_text : Result Figures Refusal → List ℕ
earnings_text (Err r) = line (lines.Refused r.question)
earnings_text (Ok f) = figures_text f.takings f.greatest
