-- Standard input and output, as far as contracts reach: no contract can say what a read put into the block, or what a
-- write made of its bytes. A wire counts the reads, the bytes that they gave and the bytes that were told, modulo 2^64;
-- only `src/lib.rt` can put one together, and it is a value, which a program has to go on with.
use Rattle.std.specs.Prelude.{◌≡◌, ℕ, ◌+◌, ◌-◌, ◌%◌, ◌^◌, ◌<◌, ◌≤◌, true, false, ◌↔◌, List, [], ◌∷◌, ◌++◌, length}
use Rattle.std.specs.Prelude.{take, ◌==◌}
use Rattle.wire.specs.declared.Wire.{Wire}

-- n, and as many more as l has bytes
abbrev pub counted_on : ℕ → List ℕ → ℕ
counted_on n l = (n + length l) % 2 ^ 64

abbrev pub new_wire : Wire
new_wire = record { reads = 0; got = 0; told = 0; ended = false; failed = false; sent = true; unread = false }

-- nothing was read or told yet, and nothing ended or failed
abbrev pub NewWireIs : Type 0
NewWireIs =
    (new_wire.reads ≡ 0) × (new_wire.got ≡ 0) × (new_wire.told ≡ 0)
    × (new_wire.ended ≡ false) × (new_wire.failed ≡ false) × (new_wire.sent ≡ true)

-- the reads that a program can make: its loop counts them, and no run comes near
abbrev pub max_reads : ℕ
max_reads = 2 ^ 64 - 1

-- that number in figures
abbrev pub MaxReadsIs : Type 0
MaxReadsIs = max_reads ≡ 18_446_744_073_709_551_615

-- One read that gave n bytes, after which the block is l, with them at its front, and the wire is v. Free are n, the
-- bytes of l, and whether the read failed, being what C answered, but that a read that failed gave nothing.
pub record Reads (w : Wire) (l : List ℕ) (n : ℕ) (v : Wire) : Type 0 where
  pub inside : n ≤ length l
  pub reads_is : v.reads ≡ (w.reads + 1) % 2 ^ 64
  pub got_is : v.got ≡ counted_on w.got (take n l)
  pub told_is : v.told ≡ w.told
  pub ended_is : v.ended ≡ (n == 0)
  pub failed_ends : v.failed ≡ true → v.ended ≡ true
  pub sent_is : v.sent ≡ w.sent

-- a read ends the input exactly if it gave nothing
abbrev pub EmptyReadEnds : Type 0
EmptyReadEnds = (w : Wire) (l : List ℕ) (n : ℕ) (v : Wire) → Reads w l n v → (v.ended ≡ true) ↔ (n ≡ 0)

-- The bytes b told. Whether they went is what C answered: it is free, but that a failure before stays one.
pub record Writes (w : Wire) (b : List ℕ) (v : Wire) : Type 0 where
  pub reads_is : v.reads ≡ w.reads
  pub got_is : v.got ≡ w.got
  pub told_is : v.told ≡ counted_on w.told b
  pub ended_is : v.ended ≡ w.ended
  pub failed_is : v.failed ≡ w.failed
  pub sent_before : v.sent ≡ true → w.sent ≡ true

-- While no count runs over 2^64, a read counts itself and its bytes, and a telling its bytes; all else stays.
pub record WireCounts : Type 0 where
  pub reading : (w : Wire) (l : List ℕ) (n : ℕ) (v : Wire) → Reads w l n v
      → w.reads < max_reads → w.got + n < 2 ^ 64
      → (v.reads ≡ w.reads + 1) × (v.got ≡ w.got + n) × (v.told ≡ w.told) × (v.sent ≡ w.sent)
  pub telling : (w : Wire) (b : List ℕ) (v : Wire) → Writes w b v → w.told + length b < 2 ^ 64
      → (v.told ≡ w.told + length b) × (v.reads ≡ w.reads) × (v.got ≡ w.got)
      × (v.ended ≡ w.ended) × (v.failed ≡ w.failed)

-- blocks, the latest first, as one input
abbrev pub input_of : List (List ℕ) → List ℕ
input_of [] = []
input_of (b ∷ bs) = input_of bs ++ b

abbrev pub NoneEmpty : List (List ℕ) → Type 0
NoneEmpty [] = Unit {0}
NoneEmpty (b ∷ bs) = (0 < length b) × NoneEmpty bs
