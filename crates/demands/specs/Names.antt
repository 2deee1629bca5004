-- What the code's own names stand for: the calls, what an operation in place hands back, and the limits, in figures.
use Rattle.std.specs.Prelude.{◌≡◌, true, false, List, [], ◌∷◌, ℕ}
use Rattle.campaigns.specs.declared.Plan.{Plan}
use Rattle.campaigns.specs.declared.Terms.{Terms}
use Rattle.campaigns.specs.declared.View.{View}
use Rattle.day.specs.declared.Call.TheVariants.{Open, Add, Start, Show, Tally, Close, Pause, Resume}
use Rattle.day.specs.declared.Step.{Step}
use Rattle.day.specs.Day.{head_of}
use Rattle.day.specs.Calls.{day_limits}
use Rattle.day.specs.Calls.Call.{open_plan, add_campaign, start_day, show_view, ask_tally, close_day, mark_campaign}
use Rattle.day.specs.InPlace.{asked, outcome_of}

-- a value of `day::Call` asks for the call of its name
pub record CallNames : Type 0 where
  pub opens : (pl : Plan) → asked (Open pl) ≡ open_plan pl
  pub adds : (terms : Terms) → asked (Add terms) ≡ add_campaign terms
  pub starts : asked Start ≡ start_day
  pub shows : (w : View) → asked (Show w) ≡ show_view w
  pub tallies : (i : ℕ) → asked (Tally i) ≡ ask_tally i
  pub closes : asked Close ≡ close_day
  pub pauses : (i : ℕ) → asked (Pause i) ≡ mark_campaign true i
  pub resumes : (i : ℕ) → asked (Resume i) ≡ mark_campaign false i

-- the outcome in place: the state of the head that is handed back and of the two arrays, and the answer
pub record InPlace (r : Step) (terms counts : List ℕ) : Type 0 where
  pub head_is : head_of (outcome_of r terms counts).day ≡ r.head
  pub terms_are : (outcome_of r terms counts).day.terms ≡ terms
  pub counts_are : (outcome_of r terms counts).day.counts ≡ counts
  pub answer_is : (outcome_of r terms counts).answer ≡ r.answer

pub record CodeNames : Type 0 where
  pub calls : CallNames
  pub in_place : (r : Step) (terms counts : List ℕ) → InPlace r terms counts
  -- campaigns, views, depth, width, width to the power depth, price and budget
  pub limits : day_limits ≡ 64 ∷ 4_096 ∷ 32 ∷ 16 ∷ 4_294_967_296 ∷ 1_000_000 ∷ 2_000_000_000 ∷ []
