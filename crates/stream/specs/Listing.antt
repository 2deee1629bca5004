-- Document 01's listing as text, its input and its whole output; and a day whose figures all differ.
use Rattle.std.specs.Prelude.{List, [], ◌∷◌, ℕ}
use Prim.Native.String.{String}
use Rattle.lines.specs.Form.{bytes}

-- lines of text, without their byte 10
abbrev pub lines_of : List String → List (List ℕ)
lines_of [] = []
lines_of (s ∷ ss) = bytes s ∷ lines_of ss

abbrev pub listing_lines : List (List ℕ)
listing_lines = lines_of (
    "(plan (depth 2) (width 2))" ∷
    "(campaign (price 5) (budget 10))" ∷
    "(campaign (price 3) (budget 6))" ∷
    "(start)" ∷
    "(view 0 1)" ∷
    "(view 0 1)" ∷
    "(view 0 1)" ∷
    "(view 0)" ∷
    "(view 1)" ∷
    "(view 2)" ∷
    "(close)" ∷ [])

abbrev pub listing_answers : List (List ℕ)
listing_answers = lines_of (
    "(ok)" ∷
    "(ok)" ∷
    "(ok)" ∷
    "(ok)" ∷
    "(play 0 (paid 5))" ∷
    "(play 1 (paid 3))" ∷
    "(play 0 (paid 5))" ∷
    "(nobody)" ∷
    "(play 1 (paid 3))" ∷
    "(refused 13)" ∷
    "(closed (takings 16) (claim 48) (full 64))" ∷
    "(tally 0 (plays 2) (turns 2) (age 0) (named 4))" ∷
    "(tally 1 (plays 2) (turns 2) (age 0) (named 4))" ∷ [])

-- A day whose figures all differ: depth and width, the prices, the budgets, takings, claim and full; and no two counts
-- are alike in both tallies. W is 4, 6 and 9, so campaign 0 plays at 8 against 4, 6 and 4; campaign 1 ends a turn in
-- the second view, and has age 1 after the third. The claim is 2 × (3 × 5) + 1 × (1 × 5 + 6 - 4).
abbrev pub uneven_lines : List (List ℕ)
uneven_lines =
    lines_of
    ("(plan (depth 2) (width 3))" ∷ "(campaign (price 2) (budget 9))" ∷ "(campaign (price 1) (budget 1))" ∷ "(start)" ∷
    "(view 0 1)" ∷ "(view 0 1)" ∷ "(view 0 1)" ∷ "(close)" ∷ [])

abbrev pub uneven_answers : List (List ℕ)
uneven_answers =
    lines_of
    ("(ok)" ∷ "(ok)" ∷ "(ok)" ∷ "(ok)" ∷ "(play 0 (paid 2))" ∷ "(play 0 (paid 2))" ∷ "(play 0 (paid 2))" ∷
    "(closed (takings 6) (claim 37) (full 54))" ∷ "(tally 0 (plays 3) (turns 3) (age 0) (named 3))" ∷
    "(tally 1 (plays 0) (turns 1) (age 1) (named 3))" ∷ [])
