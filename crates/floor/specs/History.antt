-- A list of calls and its day, told only by what was handed in and what was answered.
use Rattle.std.specs.Prelude.{◌≡◌, Bool, true, cond, List, [], ◌∷◌, ◌++◌, map, ℕ, eqb}
use Rattle.finite.specs.Finite.{total}
use Rattle.campaigns.specs.declared.Plan.{Plan}
use Rattle.campaigns.specs.declared.Terms.{Terms}
use Rattle.campaigns.specs.declared.View.{View}
use Rattle.campaigns.specs.View.{unmarked}
use Rattle.day.specs.declared.Answer.{Answer}
use Rattle.day.specs.declared.Answer.TheVariants.{Refused, Done, Played, Nobody, Tallied, Closing}
use Rattle.day.specs.declared.Day.{Day}
use Rattle.day.specs.Day.{blank_plan, blank}
use Rattle.day.specs.Calls.{number, marked, Call, call}
use Rattle.day.specs.Calls.Call.{open_plan, add_campaign, start_day, show_view, ask_tally, close_day, mark_campaign}
use Rattle.demands.specs.Transcript.{Exchange}

-- a call is accepted when it isn't refused: its answer has no question's number
abbrev pub accepted : Answer → Bool
accepted a = eqb (number a) 0

-- the first call is given the blank state or, where it is an opening that is accepted, any state
pub data Starts : Day → List Call → Type 0 where
  from_blank : (cs : List Call) → Starts blank cs
  from_opening : (s : Day) (pl : Plan) (cs : List Call) → accepted (call s (open_plan pl)).answer ≡ true
      → Starts s (open_plan pl ∷ cs)

-- so any list may be given the blank state, an empty one too, and one that opens a plan any state that accepts it
pub record AnyListStarts : Type 0 where
  pub at_blank : (cs : List Call) → Starts blank cs
  pub at_opening : (s : Day) (pl : Plan) (cs : List Call) → number (call s (open_plan pl)).answer ≡ 0
      → Starts s (open_plan pl ∷ cs)

-- the day: the last accepted opening with the accepted calls after it. Depth and width are those handed to the opening,
-- price and budget those handed to the accepted adding, the paused marks what the accepted pausings and resumings left,
-- and a view is what it found: the set handed in less those marks. Beside the views stand the answers to them.
pub record History : Type 0 where
  pub plan : Plan
  pub terms : List Terms
  pub paused : ℕ
  pub views : List View
  pub answers : List Answer

abbrev pub opening : Plan → History
opening pl = record { plan = pl; terms = []; paused = 0; views = []; answers = [] }

-- the day's own views, each as its set of unpaused names
abbrev pub own_views : History → List ℕ
own_views h = map (λ w. w.set) h.views

-- the price paid in an answer, where nobody counts 0
abbrev pub paid_in : Answer → ℕ
paid_in (Refused q) = 0
paid_in Done = 0
paid_in (Played i p) = p
paid_in Nobody = 0
paid_in (Tallied p t a n) = 0
paid_in (Closing t c f) = 0

-- the day's takings: the sum of the prices paid in the answers to its accepted views
abbrev pub day_takings : History → ℕ
day_takings h = total paid_in h.answers

-- the day with an accepted call more
abbrev pub with_call : History → Call → Answer → History
with_call h (open_plan pl) a = opening pl
with_call h (add_campaign t) a = record {
  plan = h.plan;
  terms = h.terms ++ (t ∷ []);
  paused = h.paused;
  views = h.views;
  answers = h.answers;
}
with_call h start_day a = h
with_call h (show_view w) a = record {
  plan = h.plan;
  terms = h.terms;
  paused = h.paused;
  views = h.views ++ (unmarked h.paused w ∷ []);
  answers = h.answers ++ (a ∷ []);
}
with_call h (ask_tally i) a = h
with_call h close_day a = h
with_call h (mark_campaign b i) a = record {
  plan = h.plan;
  terms = h.terms;
  paused = marked b i h.paused;
  views = h.views;
  answers = h.answers;
}

-- refused calls are no part of a day
abbrev pub entered : History → Exchange → History
entered h x = cond (accepted x.answer) (with_call h x.made x.answer) h

unfoldable pub continued : History → List Exchange → History
continued h [] = h
continued h (x ∷ xs) = continued (entered h x) xs

-- a list without an accepted opening has a day of depth 1, width 1, no campaigns and no views
abbrev pub history : List Exchange → History
history xs = continued (opening blank_plan) xs
