-- The calls beside a day's takings, for the contracts of the inner functions.
use Rattle.std.specs.Prelude.{◌≡◌, List, ℕ}
use Rattle.day.specs.declared.Day.{Day}
use Rattle.day.specs.Calls.{Call}
use Rattle.demands.specs.Transcript.{transcript, final}
use Rattle.floor.specs.History.{History, day_takings, continued}
use Rattle.replay.specs.declared.Replayed.{Replayed}

-- the state s, and the takings p
abbrev pub at : Day → ℕ → Replayed
at s p = record { day = s; paid = p }

-- r is what calls make of the state s and of the takings p, of whatever day these are the takings
abbrev pub ReplaysTo : (s : Day) (p : ℕ) → List Call → Replayed → Type 0
ReplaysTo s p cs r =
    (h : History) → day_takings h ≡ p → r ≡ at (final s cs) (day_takings (continued h (transcript s cs)))
