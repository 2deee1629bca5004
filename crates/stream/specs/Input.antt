-- A whole input as its lines, and what answers lines.
use Rattle.std.specs.Prelude.{◌≡◌, List, [], ◌∷◌, ◌++◌, ℕ, length}
use Rattle.day.specs.declared.Day.{Day}
use Rattle.reply.specs.Reply.{reply, next}
use Rattle.reply.specs.Session.{upto}

-- the input that has these lines, each ended by byte 10, and a rest
unfoldable pub joined : List (List ℕ) → List ℕ → List ℕ
joined [] rest = rest
joined (l ∷ ls) rest = l ++ (10 ∷ joined ls rest)

-- without byte 10
abbrev pub Plain : List ℕ → Type 0
Plain l = upto l ≡ length l

abbrev pub AllPlain : List (List ℕ) → Type 0
AllPlain [] = Unit {0}
AllPlain (l ∷ ls) = Plain l × AllPlain ls

-- an input as lines and a rest
pub record Split (input : List ℕ) : Type 0 where
  pub lines : List (List ℕ)
  pub rest : List ℕ
  pub lines_plain : AllPlain lines
  pub rest_plain : Plain rest
  pub whole : joined lines rest ≡ input

-- A last line without byte 10 counts if it has bytes.
abbrev pub last_line : (rest : List ℕ) → List (List ℕ)
last_line [] = []
last_line (b ∷ l) = (b ∷ l) ∷ []

-- the lines of an input
abbrev pub all_lines : {input : List ℕ} → Split input → List (List ℕ)
all_lines i = i.lines ++ last_line i.rest

-- lines answered one after the other: the state after them, and the answers
unfoldable pub after_lines : Day → List (List ℕ) → Day
after_lines s [] = s
after_lines s (l ∷ ls) = after_lines (next s l) ls

unfoldable pub replies : Day → List (List ℕ) → List ℕ
replies s [] = []
replies s (l ∷ ls) = reply s l ++ replies (next s l) ls
