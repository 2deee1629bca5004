-- Names for the contracts of the inner functions.
use Rattle.std.specs.Prelude.{◌≡◌, List, ℕ, zero, suc, ◌<◌, Result, Ok, Err}
use Rattle.refusal.specs.declared.Refusal.{Refusal}
use Rattle.refusal.specs.Refusal.{refusal}
use Rattle.campaigns.specs.Campaign.{whole_plays, column}
use Rattle.allotments.specs.Allotment.{at}

-- whole plays of the first n campaigns, whose terms are prices and budgets
abbrev pub Divided : (n : ℕ) (terms wholes : List ℕ) → Type 0
Divided n terms wholes = (i : ℕ) → i < n → at wholes i ≡ whole_plays (at terms i) (at terms (column 1 i))

-- the refusal of the question that failed, if one did
abbrev pub admission : (question : ℕ) → Result (Unit {0}) Refusal
admission zero = Ok tt
admission (suc q) = Err (refusal (suc q))
