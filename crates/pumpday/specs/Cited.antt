-- Names for the contracts of inner functions: a part of a block, a block, and one read.
use Rattle.std.specs.Prelude.{◌≡◌, true, List, ℕ, ◌+◌, ◌≤◌, length, take, drop}
use Rattle.reply.specs.Session.{Session, fed, consumed_count}
use Rattle.stream.specs.Stream.{session_of, consumed_bytes}
use Rattle.wire.specs.declared.Wire.{Wire}
use Rattle.wire.specs.Wires.{Reads}
use Rattle.pumpday.specs.declared.teller.Teller.{Teller}
use Rattle.pumpday.specs.Telling.{Told}

-- what the teller's stream holds, and what it comes to by the bytes l
abbrev pub held : Teller → Session
held w = session_of w.stream

abbrev pub by : Teller → List ℕ → Session
by w l = fed (held w) l

-- the block l from a place on, as far as there is room
pub record Part (w : Teller) (l d : List ℕ) (from : ℕ) (r : Teller) (to : ℕ) : Type 0 where
  pub upto_is : to ≡ from + consumed_count (length d) (held w) (drop from l)
  pub inside : to ≤ length l
  pub tells : Told w (by w (consumed_bytes (held w) (drop from l) d)) r

-- the block l up to a place: all of it unless a write failed
pub record Whole (w : Teller) (l : List ℕ) (r : Teller) (to : ℕ) : Type 0 where
  pub inside : to ≤ length l
  pub tells : Told w (by w (take to l)) r
  pub all : r.wire.sent ≡ true → to ≡ length l

-- One read that gave n bytes, at the front of the block l: the first `taken` of them were taken and their answers told,
-- and that is all of them unless a write failed.
pub record Taken (w : Teller) (l : List ℕ) (r : Teller) : Type 0 where
  pub n : ℕ
  pub read : Wire
  pub reads : Reads w.wire l n read
  pub taken : ℕ
  pub inside : taken ≤ n
  pub tells : Told (record { stream = w.stream; wire = read }) (by w (take taken l)) r
  pub all : r.wire.sent ≡ true → taken ≡ n
