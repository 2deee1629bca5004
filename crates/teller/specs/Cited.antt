-- A name for the contract of an inner function: one read.
use Rattle.std.specs.Prelude.{List, ℕ, take}
use Rattle.teller.specs.declared.Teller.{Teller}
use Rattle.teller.specs.Telling.{Waits}

-- one read that gave n bytes, at the front of the block l: they were taken, and the listener k became m
pub record Taken {T L : Type 0} (took : L → List ℕ → L → Type 0) (w : Teller T) (k : L) (l : List ℕ) (n : ℕ) (m : L)
    (r : Teller T) : Type 0 where
  pub waits : Waits w l n r
  pub took_is : took k (take n l) m
