-- The day's own answers, read as an allotment of its own views: what the day took is one of the figures that demand 3
-- and the greatest takings speak of.
use Rattle.std.specs.Prelude.{◌≡◌, List, ℕ, ◌<◌, get_or, length}
use Rattle.allotments.specs.Allotment.{times, nobody}
use Rattle.day.specs.declared.Answer.{Answer}
use Rattle.day.specs.declared.Answer.TheVariants.{Refused, Done, Played, Nobody, Tallied, Closing}
use Rattle.day.specs.declared.Day.{Day}
use Rattle.day.specs.Day.{campaign}
use Rattle.day.specs.Calls.{Call}
use Rattle.demands.specs.Transcript.{transcript, final}
use Rattle.floor.specs.History.{Starts, History, day_takings, history}
use Rattle.floor.specs.Floor.{price_of, Allotted, takings_of}

-- the campaign that an answer says has played, or nobody
abbrev pub player_in : Answer → ℕ
player_in (Refused q) = nobody
player_in Done = nobody
player_in (Played i p) = i
player_in Nobody = nobody
player_in (Tallied p t a n) = nobody
player_in (Closing t c f) = nobody

-- view j is given to the campaign that played it; past the last view to nobody
abbrev pub own_allotment : History → ℕ → ℕ
own_allotment h j = player_in (get_or h.answers j Nobody)

-- the day h, at whose end the state is s
pub record Own (h : History) (s : Day) : Type 0 where
  -- who played is an allotment of the day's views, and takes what was paid
  pub allotted : Allotted h (own_allotment h)
  pub takings_are : takings_of h (price_of h) (own_allotment h) ≡ day_takings h
  -- it gives each campaign as many views as the record counts plays
  pub plays_are : (i : ℕ) → i < s.count → times (length h.views) (own_allotment h) i ≡ (campaign s i).plays

-- of every list of demand 3
abbrev pub OwnAllotted : Type 0
OwnAllotted = (s : Day) (cs : List Call) → Starts s cs → Own (history (transcript s cs)) (final s cs)
