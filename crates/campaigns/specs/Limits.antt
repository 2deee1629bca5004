-- The limits of campaigns and views that document 01's questions name; those of a plan stand in `powers/specs/Limits`.
-- The code's constants are proved equal to them (`Day::limits`).
use Rattle.std.specs.Prelude.{ℕ}

-- question 7: up to 64 campaigns
abbrev pub max_campaigns : ℕ
max_campaigns = 64

-- question 8: the price is from 1 to 1,000,000
abbrev pub max_price : ℕ
max_price = 1_000_000

-- questions 9 and 10: a budget, and all budgets together
abbrev pub max_budget : ℕ
max_budget = 2_000_000_000

-- question 12: accepted views
abbrev pub max_views : ℕ
max_views = 4_096
