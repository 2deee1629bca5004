-- Day records as numbers, for callers without structs: two for each day, its takings and its greatest.
use Rattle.std.specs.Prelude.{Bool, List, [], ◌∷◌, ℕ, ◌%◌, eqb, length}
use Rattle.month.specs.declared.DayRecord.{DayRecord}

-- there is an even number of them
abbrev pub is_pairs : List ℕ → Bool
is_pairs l = eqb (length l % 2) 0

-- the records; a last number without its fellow is none
unfoldable pub pairs : List ℕ → List DayRecord
pairs [] = []
pairs (t ∷ []) = []
pairs (t ∷ (g ∷ l)) = record { takings = t; greatest = g } ∷ pairs l
