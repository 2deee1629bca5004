-- Names for the contracts of the check's passes.
use Rattle.std.specs.Prelude.{ℕ, ◌-◌, cond, leb, Option, Some, None}

-- what is left of an amount after a part of it, if it is enough
abbrev pub rest_left : (part amount : ℕ) → Option ℕ
rest_left part amount = cond (leb part amount) (Some (amount - part)) None
