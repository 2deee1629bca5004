-- Days on which the floor is met exactly, so that at their depths and widths no greater share holds of every day.
use Rattle.std.specs.Prelude.{◌≡◌, cond, List, [], ◌∷◌, map, ℕ, zero, suc, ◌+◌, ◌*◌, ◌<◌, eqb, get_or}
use Rattle.powers.specs.Power.{share}
use Rattle.allotments.specs.Allotment.{nobody}
use Rattle.day.specs.declared.Answer.{Answer}
use Rattle.day.specs.declared.Answer.TheVariants.{Played, Nobody}
use Rattle.day.specs.Day.{blank}
use Rattle.campaigns.specs.View.{full}
use Rattle.day.specs.Calls.{Call}
use Rattle.day.specs.Calls.Call.{start_day}
use Rattle.demands.specs.Transcript.{transcript}
use Rattle.demands.specs.Cases.{plan, campaign_of, view}
use Rattle.floor.specs.History.{Starts, History, day_takings, history}
use Rattle.floor.specs.Floor.{price_of, NoneShort, Allotted, takings_of, Covered}

-- no campaign falls short, something is paid, and an allotment makes both sides of the floor equal: a cent more is not
-- covered
pub record Met (h : History) (to : ℕ → ℕ) : Type 0 where
  pub none_short : NoneShort h
  pub paying : 0 < day_takings h
  pub allotted : Allotted h to
  pub equal : share h.plan.depth h.plan.width * takings_of h (price_of h) to
      ≡ full h.plan (day_takings h)
  pub not_more : Covered h (takings_of h (price_of h) to + 1) → ⊥

-- a day of campaigns of price 1 and one play each: its views, who plays each of them, and to whom an allotment gives
-- it
pub record Exact : Type 0 where
  pub depth : ℕ
  pub width : ℕ
  pub campaigns : ℕ
  pub views : List ℕ
  pub players : List ℕ
  pub to : List ℕ

abbrev pub exact_days : List Exact
exact_days =
    record {
      depth = 1;
      width = 1;
      campaigns = 1;
      views = 1 ∷ [];
      players = 0 ∷ [];
      to = 0 ∷ [];
    } ∷
    -- {0, 1} plays 0; {0} plays nobody, and an allotment gives 1 the first view and 0 the second
    record {
      depth = 1;
      width = 2;
      campaigns = 2;
      views = 3 ∷ 1 ∷ [];
      players = 0 ∷ nobody ∷ [];
      to = 1 ∷ 0 ∷ [];
    } ∷
    -- each round sets campaigns of equal age against each other; the last one never plays
    record {
      depth = 2;
      width = 2;
      campaigns = 4;
      views = 3 ∷ 12 ∷ 10 ∷ 1 ∷ 4 ∷ [];
      players = 0 ∷ 2 ∷ 1 ∷ nobody ∷ nobody ∷ [];
      to = 1 ∷ 3 ∷ nobody ∷ 0 ∷ 2 ∷ [];
    } ∷
    record {
      depth = 3;
      width = 2;
      campaigns = 8;
      views = 3 ∷ 12 ∷ 48 ∷ 192 ∷ 10 ∷ 160 ∷ 136 ∷ 5 ∷ 5 ∷ 80 ∷ 80 ∷ 34 ∷ [];
      players = 0 ∷ 2 ∷ 4 ∷ 6 ∷ 1 ∷ 5 ∷ 3 ∷ nobody ∷ nobody ∷ nobody ∷ nobody ∷ nobody ∷ [];
      to = 1 ∷ 3 ∷ 5 ∷ 7 ∷ nobody ∷ nobody ∷ nobody ∷ 0 ∷ 2 ∷ 4 ∷ 6 ∷ nobody ∷ [];
    } ∷
    record {
      depth = 2;
      width = 3;
      campaigns = 9;
      views = 7 ∷ 56 ∷ 448 ∷ 146 ∷ 292 ∷ 73 ∷ 73 ∷ 73 ∷ 6 ∷ [];
      players = 0 ∷ 3 ∷ 6 ∷ 1 ∷ 2 ∷ nobody ∷ nobody ∷ nobody ∷ nobody ∷ [];
      to = 1 ∷ 4 ∷ 8 ∷ 7 ∷ 5 ∷ 0 ∷ 3 ∷ 6 ∷ 2 ∷ [];
    } ∷
    -- the second day, with lifts that interest nobody
    record {
      depth = 1;
      width = 2;
      campaigns = 2;
      views = 0 ∷ 3 ∷ 0 ∷ 1 ∷ 0 ∷ [];
      players = nobody ∷ 0 ∷ nobody ∷ nobody ∷ nobody ∷ [];
      to = nobody ∷ 1 ∷ nobody ∷ 0 ∷ nobody ∷ [];
    } ∷
    []

-- its calls
abbrev pub adding : ℕ → List Call → List Call
adding zero cs = cs
adding (suc n) cs = campaign_of 1 1 ∷ adding n cs

abbrev pub exact_calls : Exact → List Call
exact_calls x = plan x.depth x.width ∷ adding x.campaigns (start_day ∷ map view x.views)

-- the answers to its views
abbrev pub answers_of : Exact → List Answer
answers_of x = map (λ m. cond (eqb m nobody) Nobody (Played m 1)) x.players

-- its calls are a list of demand 3, those play who are named above, and the day meets the floor exactly
abbrev pub Tight : List Exact → Type 0
Tight [] = Unit {0}
Tight (x ∷ xs) = (Starts blank (exact_calls x) × ((history (transcript blank (exact_calls x))).answers ≡ answers_of x)
    × Met (history (transcript blank (exact_calls x))) (λ j. get_or x.to j nobody)) × Tight xs

abbrev pub ExactDaysTight : Type 0
ExactDaysTight = Tight exact_days
