-- What is told: the answers that are due from the program's stream, over its wire; only `src/teller.rt` can put
-- a teller together.
use Rattle.std.specs.Prelude.{◌≡◌, Bool, true, false, List, [], ◌++◌, ℕ}
use Rattle.day.specs.Day.{blank}
use Rattle.reply.specs.Session.{Session, fed}
use Rattle.stream.specs.declared.feed.Stream.{Stream}
use Rattle.stream.specs.Input.{replies, Split, all_lines}
use Rattle.stream.specs.Stream.{finished, new_stream, session_of, silent}
use Rattle.programs.specs.Examples.{in_one}
use Rattle.wire.specs.Wires.{new_wire, Writes}
use Rattle.pumpday.specs.declared.teller.Teller.{Teller}

abbrev pub new_teller : Teller
new_teller = record { stream = new_stream; wire = new_wire }

-- what the stream k has come to by the bytes l, or at the end of input; its output is due
abbrev pub session_after : Stream → List ℕ → (end : Bool) → Session
session_after k l false = fed (session_of k) l
session_after k l true = finished (session_of k)

-- The stream k tells the bytes b over an input, which it takes in parts, and at its end: each part as `tell` asks for.
pub data TellsOver : Stream → (input b : List ℕ) → Type 0 where
  at_end : (k : Stream) → TellsOver k [] (session_after k [] true).output
  part : (k next : Stream) (l later b : List ℕ) → session_of next ≡ silent (session_after k l false)
      → TellsOver next later b → TellsOver k (l ++ later) ((session_after k l false).output ++ b)

-- whatever the parts, a new stream tells the answers to the input's lines
abbrev pub ToldAnswers : Type 0
ToldAnswers =
    (input b : List ℕ) → TellsOver new_stream input b → (i : Split input) → b ≡ replies blank (all_lines i)

-- and any parts can be told so
abbrev pub AnyParts : Type 0
AnyParts = (parts : List (List ℕ)) → (b : List ℕ) × TellsOver new_stream (in_one parts) b

-- the stream has come to y, and the answers of y were told
pub record Told (w : Teller) (y : Session) (r : Teller) : Type 0 where
  pub stream_is : session_of r.stream ≡ silent y
  pub writes : Writes w.wire y.output r.wire
