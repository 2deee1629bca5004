-- Bytes fed to a session: byte 10 ends a line, and a line is answered as it ends.
use Rattle.std.specs.Prelude.{cond, List, [], ◌∷◌, ◌++◌, ℕ, suc, ◌+◌, leb, eqb, length, take}
use Rattle.day.specs.declared.Day.{Day}
use Rattle.lines.specs.Limits.{line_buffer}
use Rattle.reply.specs.Reply.{reply, next}

-- room for the longest answer: a closing line and 64 tallies
abbrev pub reply_room : ℕ
reply_room = 16384

-- the state, what is held of an unfinished line, and the answers so far
pub record Session : Type 0 where
  pub day : Day
  pub pending : List ℕ
  pub output : List ℕ

-- The bytes w more of a line. No more are held than tell that it is too long: such a line is answered 16, whatever it
-- is.
abbrev pub longer : Session → List ℕ → Session
longer x w = record { day = x.day; pending = take line_buffer (x.pending ++ w); output = x.output }

-- the line ends and is answered
abbrev pub ended : Session → Session
ended x = record { day = next x.day x.pending; pending = []; output = x.output ++ reply x.day x.pending }

-- one byte, and a list of bytes
unfoldable pub after_byte : Session → ℕ → Session
after_byte x b = cond (eqb b 10) (ended x) (longer x (b ∷ []))

unfoldable pub fed : Session → List ℕ → Session
fed x [] = x
fed x (b ∷ l) = fed (after_byte x b) l

-- how many bytes of l are taken, where n bytes are lent for answers: a byte is taken while there is room for the
-- longest answer
unfoldable pub consumed_count : ℕ → Session → List ℕ → ℕ
consumed_count n x [] = 0
consumed_count n x (b ∷ l) = cond (leb (length x.output + reply_room) n) (suc (consumed_count n (after_byte x b) l))
    0

-- how many bytes stand before the first byte 10
unfoldable pub upto : List ℕ → ℕ
upto [] = 0
upto (b ∷ l) = cond (eqb b 10) 0 (suc (upto l))

-- the first line of w, without its byte 10
abbrev pub first_line : List ℕ → List ℕ
first_line w = take (upto w) w
