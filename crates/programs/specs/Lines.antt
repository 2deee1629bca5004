-- Any list of input lines, from the blank state, and the lines that answer them: the calls that they make, what the
-- answers say was paid, and what demand 3 and Algorithm 4 say of their day.
use Rattle.std.specs.Prelude.{◌≡◌, Bool, true, false, cond, ◌&&◌, List, [], ◌∷◌, ℕ, ◌+◌, ◌≤◌}
use Rattle.std.specs.Prelude.{Result, Ok, Err}
use Rattle.refusal.specs.declared.Refusal.{Refusal}
use Rattle.lines.specs.declared.Record.{Record}
use Rattle.lines.specs.declared.Record.TheVariants.{Plan, Campaign, Start, View, Close, Done, Play, Nobody, Refused}
use Rattle.lines.specs.declared.Record.TheVariants.{Closed, Tally, Pause, Resume}
use Rattle.lines.specs.Reading.{reading}
use Rattle.campaigns.specs.declared.Terms.{Terms}
use Rattle.campaigns.specs.View.{full}
use Rattle.day.specs.declared.Answer.{Answer}
use Rattle.day.specs.declared.Day.{Day}
use Rattle.day.specs.Day.{blank, total_claim}
use Rattle.day.specs.Calls.{Call}
use Rattle.noon.specs.Noon.{floor_figure}
use Rattle.demands.specs.Transcript.{Exchange, transcript, final}
use Rattle.floor.specs.History.{History, day_takings, history}
use Rattle.floor.specs.Floor.{Floor}
use Rattle.floor.specs.Noon.{NoonFloor}
use Rattle.refinement.specs.Correspondence.{BuysAlike}
use Rattle.refinement.specs.Days.{DayAgrees}
use Rattle.reply.specs.Reply.{Request, request_of, outcome, reply, next}
use Rattle.reply.specs.Reply.Request.{makes, fails}
use Rattle.reply.specs.Session.{first_line}
use Rattle.stream.specs.Input.{after_lines}

-- The calls.

-- a line that is no call makes none
abbrev pub with_request : Request → List Call → List Call
with_request (makes c) cs = c ∷ cs
with_request (fails q) cs = cs

unfoldable pub calls_of : List (List ℕ) → List Call
calls_of [] = []
calls_of (l ∷ ls) = with_request (request_of (reading l)) (calls_of ls)

-- each call with the answer that its line got
abbrev pub with_exchange : Request → Answer → List Exchange → List Exchange
with_exchange (makes c) a xs = record { made = c; answer = a } ∷ xs
with_exchange (fails q) a xs = xs

unfoldable pub exchanges : Day → List (List ℕ) → List Exchange
exchanges s [] = []
exchanges s (l ∷ ls) = with_exchange (request_of (reading l)) (outcome s l).answer (exchanges (next s l) ls)

-- whatever the state before, that after the lines is the one after the calls, which were answered as the lines were
pub record MakesCalls (s : Day) (ls : List (List ℕ)) : Type 0 where
  pub state_is : after_lines s ls ≡ final s (calls_of ls)
  pub exchanges_are : exchanges s ls ≡ transcript s (calls_of ls)

abbrev pub LinesMakeCalls : Type 0
LinesMakeCalls = (s : Day) (ls : List (List ℕ)) → MakesCalls s ls

-- What was paid, told by the text alone.

abbrev pub is_plan : Record → Bool
is_plan (Plan k d) = true
is_plan (Campaign p b) = false
is_plan Start = false
is_plan (View v) = false
is_plan Close = false
is_plan Done = false
is_plan (Play i p) = false
is_plan Nobody = false
is_plan (Refused q) = false
is_plan (Closed t c f) = false
is_plan (Tally i p t a n) = false
is_plan (Pause i) = false
is_plan (Resume i) = false

abbrev pub is_ok : Record → Bool
is_ok (Plan k d) = false
is_ok (Campaign p b) = false
is_ok Start = false
is_ok (View v) = false
is_ok Close = false
is_ok Done = true
is_ok (Play i p) = false
is_ok Nobody = false
is_ok (Refused q) = false
is_ok (Closed t c f) = false
is_ok (Tally i p t a n) = false
is_ok (Pause i) = false
is_ok (Resume i) = false

abbrev pub price_in : Record → ℕ
price_in (Plan k d) = 0
price_in (Campaign p b) = 0
price_in Start = 0
price_in (View v) = 0
price_in Close = 0
price_in Done = 0
price_in (Play i p) = p
price_in Nobody = 0
price_in (Refused q) = 0
price_in (Closed t c f) = 0
price_in (Tally i p t a n) = 0
price_in (Pause i) = 0
price_in (Resume i) = 0

abbrev pub of_reading : {A : Type 0} → (Record → A) → A → Result Record Refusal → A
of_reading f a (Ok r) = f r
of_reading f a (Err e) = a

-- the sum p, with the line l and its answer w: (ok) to a plan begins a day, and (play C (paid N)) adds N
abbrev pub sum_after : ℕ → (l w : List ℕ) → ℕ
sum_after p l w =
    cond (of_reading is_plan false (reading l) && of_reading is_ok false (reading (first_line w))) 0
    (p + of_reading price_in 0 (reading (first_line w)))

-- the sum of the prices in the (play ..) lines since the last plan that was answered (ok)
unfoldable pub sum_over : ℕ → Day → List (List ℕ) → ℕ
sum_over p s [] = p
sum_over p s (l ∷ ls) = sum_over (sum_after p l (reply s l)) (next s l) ls

abbrev pub sum_paid : List (List ℕ) → ℕ
sum_paid ls = sum_over 0 blank ls

-- The day of the lines ls, told by what was handed in and what was answered.
abbrev pub day_of : List (List ℕ) → History
day_of ls = history (exchanges blank ls)

pub record OfLines (ls : List (List ℕ)) : Type 0 where
  pub calls : MakesCalls blank ls
  -- the day's takings are the sum of the prices in the lines that were answered
  pub paid_is : day_takings (day_of ls) ≡ sum_paid ls
  -- demand 3
  pub floor : Floor (day_of ls) (after_lines blank ls)
  -- the floor at noon, of any lines: so after every line of an input
  pub noon : NoonFloor (day_of ls) (after_lines blank ls)
  -- a line more that is answered (closed (takings T) (claim C) (full F)): T is that sum, C the total claim of the
  -- state, and F is full, d^k × T
  pub closing_is : (l : List ℕ) (t c f : ℕ) → reading (first_line (reply (after_lines blank ls) l)) ≡ Ok (Closed t c f)
      → (t ≡ sum_paid ls) × (c ≡ total_claim (after_lines blank ls)) × (f ≡ full (day_of ls).plan t)
  -- and C lies between the floor's figure and F
  pub closing_noon : (l : List ℕ) (t c f : ℕ)
      → reading (first_line (reply (after_lines blank ls) l)) ≡ Ok (Closed t c f)
      → (floor_figure (after_lines blank ls) ≤ c) × (c ≤ f)
  -- the views got Algorithm 4's answers
  pub agrees : (B : Terms → ℕ) → BuysAlike B → DayAgrees B (day_of ls) (after_lines blank ls)

abbrev pub LinesKeepTheDemands : Type 0
LinesKeepTheDemands = (ls : List (List ℕ)) → OfLines ls
