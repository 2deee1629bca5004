-- Calls encoded as words, and what replaying them promises.
use Rattle.std.specs.Prelude.{◌≡◌, true, false, cond, List, [], ◌∷◌, ◌++◌, ℕ, take, drop}
use Rattle.day.specs.declared.Day.{Day}
use Rattle.day.specs.Calls.{Call}
use Rattle.day.specs.Calls.Call.{open_plan, add_campaign, start_day, show_view, ask_tally, close_day, mark_campaign}
use Rattle.demands.specs.Transcript.{transcript, final}
use Rattle.floor.specs.History.{Starts, day_takings, history}
use Rattle.floor.specs.Floor.{Floor}
use Rattle.floor.specs.Noon.{NoonFloor}
use Rattle.replay.specs.declared.Replayed.{Replayed}

-- the call that three words encode: kinds 0 to 7 stand for the calls in this order, the last two for
-- pausing and resuming, and any other kind is no call
unfoldable pub call_in : (kind a b : ℕ) → List Call
call_in kind a b = take 1 (drop kind (
    open_plan (record { depth = a; width = b }) ∷ add_campaign (record { price = a; budget = b }) ∷ start_day ∷
    show_view (record { set = a }) ∷ ask_tally a ∷ close_day ∷ mark_campaign true a ∷ mark_campaign false a ∷ []))

-- three words a call; one or two words left at the end are no call
unfoldable pub decode : List ℕ → List Call
decode [] = []
decode (kind ∷ []) = []
decode (kind ∷ a ∷ []) = []
decode (kind ∷ a ∷ b ∷ words) = call_in kind a b ++ decode words

-- the words of a call: its kind and its arguments as they are, so that they have 64 bits if the arguments have
abbrev pub words_of : Call → List ℕ
words_of (open_plan pl) = 0 ∷ pl.depth ∷ pl.width ∷ []
words_of (add_campaign t) = 1 ∷ t.price ∷ t.budget ∷ []
words_of start_day = 2 ∷ 0 ∷ 0 ∷ []
words_of (show_view w) = 3 ∷ w.set ∷ 0 ∷ []
words_of (ask_tally i) = 4 ∷ i ∷ 0 ∷ []
words_of close_day = 5 ∷ 0 ∷ 0 ∷ []
words_of (mark_campaign b i) = cond b 6 7 ∷ i ∷ 0 ∷ []

abbrev pub encode : List Call → List ℕ
encode [] = []
encode (c ∷ cs) = words_of c ++ encode cs

-- every list of calls is encoded by its words
abbrev pub EveryList : Type 0
EveryList = (cs : List Call) → decode (encode cs) ≡ cs

-- what replaying words from the state s hands back
pub record Replays (s : Day) (words : List ℕ) (r : Replayed) : Type 0 where
  -- the state at the end of the calls
  pub ran : r.day ≡ final s (decode words)
  -- the day's takings: the sum of the prices paid in the answers to its accepted views
  pub paid_is : r.paid ≡ day_takings (history (transcript s (decode words)))
  -- demand 3 of these calls
  pub demand_3 : Starts s (decode words) → Floor (history (transcript s (decode words))) r.day
  -- and the floor at noon, of the state handed back
  pub noon : Starts s (decode words) → NoonFloor (history (transcript s (decode words))) r.day

-- so any list of calls runs from any state, whatever it holds: the state handed back is that after them, and what was
-- paid is theirs
abbrev pub RunsAnyList : Type 0
RunsAnyList = (s : Day) (cs : List Call) (r : Replayed) → Replays s (encode cs) r
    → (r.day ≡ final s cs) × (r.paid ≡ day_takings (history (transcript s cs)))
