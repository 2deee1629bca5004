-- Any list of calls, refused ones included: its day, told only by what was handed in and what was answered, beside
-- Algorithm 4.
use Rattle.std.specs.Prelude.{◌≡◌, List, map, ℕ, ◌<◌, length}
use Rattle.day.specs.declared.Day.{Day}
use Rattle.campaigns.specs.declared.Terms.{Terms}
use Rattle.day.specs.Day.{campaign}
use Rattle.day.specs.Calls.{Call, view_answer}
use Rattle.demands.specs.Transcript.{transcript, final}
use Rattle.floor.specs.History.{Starts, History, history}
use Rattle.floor.specs.Floor.{terms_of, price_of}
use Rattle.refinement.specs.Algorithm4.{Instance, algorithm_4, matches}
use Rattle.refinement.specs.Correspondence.{BuysAlike, instance, slots, Represents, Injective}

-- the paper's instance for a day: what was handed to the opening and to the accepted addings
abbrev pub instance_of : (Terms → ℕ) → History → Instance
instance_of B h = instance B h.plan (length h.terms) (terms_of h)

-- the day h, at whose end the state is s: each view got the answer that Algorithm 4 gives, with the price of the one
-- matched, at width 1 too, where a view finds at most one campaign and nothing is compared; and the tallies represent
-- its variables
pub record DayAgrees (B : Terms → ℕ) (h : History) (s : Day) : Type 0 where
  pub same_answers : h.answers
      ≡ map (view_answer (price_of h)) (matches (instance_of B h) (slots h.views))
  pub same_tallies : (i : ℕ) → i < length h.terms
      → Represents (instance_of B h) (length h.views) (algorithm_4 (instance_of B h) (slots h.views)) i
      (campaign s i)
  -- and tell them
  pub injective : 1 < h.plan.width → (i : ℕ) → i < length h.terms → Injective (instance_of B h) i

abbrev pub DaysAsAlgorithm4 : Type 0
DaysAsAlgorithm4 = (B : Terms → ℕ) → BuysAlike B → (s : Day) (cs : List Call) → Starts s cs
    → DayAgrees B (history (transcript s cs)) (final s cs)
