-- The limit of the search and of the check.
use Rattle.std.specs.Prelude.{ℕ}

-- question 19: up to 256 views are handed in
abbrev pub max_handed_in : ℕ
max_handed_in = 256
