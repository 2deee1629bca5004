-- Names for the contracts of inner functions: the earnings at the end of input.
use Rattle.std.specs.Prelude.{List, ℕ, Result}
use Rattle.day.specs.declared.Day.{Day}
use Rattle.stream.specs.declared.feed.Stream.{Stream}
use Rattle.stream.specs.Stream.{finished, session_of}
use Rattle.recording.specs.Recording.{noted, kept_views}
use Rattle.refusal.specs.declared.Refusal.{Refusal}
use Rattle.earnings.specs.declared.Figures.{Figures}
use Rattle.earnings.specs.Earnings.{earned}

-- the earnings of a state that has these entries for its views
abbrev pub earned_of : Day → (views : List ℕ) → Result Figures Refusal
earned_of s views = earned s (kept_views s views)

-- the earnings at the end of input, where the stream is k and v are the entries for views
abbrev pub earned_at_end : Stream → (v : List ℕ) → Result Figures Refusal
earned_at_end k v = earned_of (finished (session_of k)).day (noted k.day (session_of k).pending v)
