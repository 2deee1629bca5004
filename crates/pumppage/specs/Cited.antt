-- A name for the contracts of inner functions: bytes that a stream takes.
use Rattle.std.specs.Prelude.{◌≡◌, List, ℕ}
use Rattle.reply.specs.Session.{fed}
use Rattle.stream.specs.declared.feed.Stream.{Stream}
use Rattle.stream.specs.Stream.{session_of, silent}

-- the stream k took the bytes l and became m
abbrev pub Took : Stream → List ℕ → Stream → Type 0
Took k l m = session_of m ≡ silent (fed (session_of k) l)
