-- How the contracts of the reader's inner functions speak of what they found. Nothing that a caller of the crate relies
-- on is defined here.
use Rattle.std.specs.Prelude.{ℕ, List, [], ◌∷◌, Option, Some, None}
use Rattle.std.specs.Borrow.{Bor}
use Rattle.lines.specs.Reading.{Rest, none, some, Seen, seen, unseen, strip}

-- the number that was found at the front of a line, and what is left behind it
abbrev pub found : Option (ℕ × Bor (List ℕ)) → Seen
found None = unseen
found (Some p) = seen p.0 p.1.now

-- what is left of a line, where it is
abbrev pub match_rest : Option (Bor (List ℕ)) → Rest
match_rest None = none
match_rest (Some x) = some x.now

-- the line without the bytes w at its front
unfoldable pub stripped : List ℕ → Rest → Rest
stripped [] r = r
stripped (b ∷ w) r = stripped w (strip b r)
