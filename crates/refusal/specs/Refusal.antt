-- A refusal by its number.
use Rattle.std.specs.Prelude.{ℕ}
use Rattle.refusal.specs.declared.Refusal.{Refusal}

-- the refusal of question n
abbrev pub refusal : (n : ℕ) → Refusal
refusal n = record { question = n }
