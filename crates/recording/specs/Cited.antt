-- A name for the contracts: bytes taken.
use Rattle.std.specs.Prelude.{◌≡◌, List, ℕ}
use Rattle.reply.specs.Session.{fed}
use Rattle.stream.specs.declared.feed.Stream.{Stream}
use Rattle.stream.specs.Stream.{session_of, silent}
use Rattle.recording.specs.Recording.{recorded}

-- the stream k took the bytes l and became m, and the entries v for views became w
pub record Took (k : Stream) (v l : List ℕ) (m : Stream) (w : List ℕ) : Type 0 where
  pub session_is : session_of m ≡ silent (fed (session_of k) l)
  pub views_are : w ≡ recorded (session_of k) v l
