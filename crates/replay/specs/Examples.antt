-- The contract of replaying, asked of three days.
use Rattle.std.specs.Prelude.{◌≡◌, List, [], ◌∷◌, ℕ}
use Rattle.day.specs.declared.Day.{Day}
use Rattle.day.specs.Day.{blank, total_takings}
use Rattle.day.specs.Calls.{Call}
use Rattle.day.specs.Calls.Call.{start_day}
use Rattle.demands.specs.Transcript.{final}
use Rattle.demands.specs.Cases.{calls_made, plan, campaign_of, view, pause, resume, listing}
use Rattle.floor.specs.History.{Starts}
use Rattle.floor.specs.Moments.{second_day}
use Rattle.replay.specs.declared.Replayed.{Replayed}
use Rattle.replay.specs.Replay.{decode, Replays}

-- the words encode these calls, a list of demand 3; whatever the contract allows holds this sum, and so does the record
pub record Example (s : Day) (words : List ℕ) (calls : List Call) (paid : ℕ) : Type 0 where
  pub encodes : decode words ≡ calls
  pub starts : Starts s (decode words)
  pub pays : (r : Replayed) → Replays s words r → (r.paid ≡ paid) × (total_takings r.day ≡ paid)

-- document 01's listing, with a kind that is no call and two words left at the end
abbrev pub listing_words : List ℕ
listing_words =
    0 ∷ 2 ∷ 2 ∷ 1 ∷ 5 ∷ 10 ∷ 1 ∷ 3 ∷ 6 ∷ 2 ∷ 0 ∷ 0 ∷ 3 ∷ 3 ∷ 0 ∷ 3 ∷ 3 ∷ 0 ∷ 3 ∷ 3 ∷ 0 ∷ 3 ∷ 1 ∷ 0 ∷
    9 ∷ 3 ∷ 3 ∷ 3 ∷ 2 ∷ 0 ∷ 3 ∷ 4 ∷ 0 ∷ 5 ∷ 0 ∷ 0 ∷ 4 ∷ 0 ∷ 0 ∷ 4 ∷ 1 ∷ 0 ∷ 3 ∷ 3 ∷ []

-- another day from where the listing ended (`second_day`): its takings begin again
abbrev pub next_day : List ℕ
next_day = 0 ∷ 1 ∷ 2 ∷ 1 ∷ 2 ∷ 2 ∷ 1 ∷ 1 ∷ 1 ∷ 2 ∷ 0 ∷ 0 ∷ 3 ∷ 3 ∷ 0 ∷ []

-- a day with a pause: the view between plays nobody
abbrev pub with_pause : List ℕ
with_pause =
    0 ∷ 2 ∷ 2 ∷ 1 ∷ 5 ∷ 10 ∷ 2 ∷ 0 ∷ 0 ∷ 3 ∷ 1 ∷ 0 ∷ 6 ∷ 0 ∷ 0 ∷ 3 ∷ 1 ∷ 0 ∷ 7 ∷ 0 ∷ 0 ∷ 3 ∷ 1 ∷ 0 ∷ []

abbrev pub pausing : List Call
pausing = plan 2 2 ∷ campaign_of 5 10 ∷ start_day ∷ view 1 ∷ pause 0 ∷ view 1 ∷ resume 0 ∷ view 1 ∷ []

abbrev pub Examples : Type 0
Examples =
    Example blank listing_words (calls_made listing) 16 ×
    Example (final blank (calls_made listing)) next_day second_day 2 ×
    Example blank with_pause pausing 10
