-- What is told, over the program's wire; only `src/lib.rt` can put a teller together.
use Rattle.std.specs.Prelude.{◌≡◌, true, Some, None, List, ℕ, ◌<◌}
use Rattle.wire.specs.Wires.{new_wire, counted_on, max_reads, input_of, NoneEmpty, Reads, Writes}
use Rattle.teller.specs.declared.Teller.{Teller}

-- nothing read, and nothing told
abbrev pub new_teller : {T : Type 0} → Teller T
new_teller = record { told = None; wire = new_wire }

-- a read that gave n bytes, after which the block is l
pub record Waits {T : Type 0} (w : Teller T) (l : List ℕ) (n : ℕ) (r : Teller T) : Type 0 where
  pub told_same : r.told ≡ w.told
  pub reads : Reads w.wire l n r.wire

-- the text of x told
pub record Told {T : Type 0} (text : T → List ℕ) (w : Teller T) (x : T) (r : Teller T) : Type 0 where
  pub told_is : r.told ≡ Some x
  pub writes : Writes w.wire (text x) r.wire

-- There are blocks, none empty, of as many bytes as the reads gave; as one input they took the listener from k to m,
-- and nothing was told. Unless `max_reads` reads were made, the last read gave nothing.
pub record Heard {T L : Type 0} (took : L → List ℕ → L → Type 0) (k m : L) (r : Teller T) : Type 0 where
  pub blocks : List (List ℕ)
  pub none_empty : NoneEmpty blocks
  pub took_is : took k (input_of blocks) m
  pub got_is : r.wire.got ≡ counted_on 0 (input_of blocks)
  pub ended_is : r.wire.reads < max_reads → r.wire.ended ≡ true
  pub failed_ends : r.wire.failed ≡ true → r.wire.ended ≡ true
  pub told_none : r.told ≡ None
  pub none_told : r.wire.told ≡ 0
