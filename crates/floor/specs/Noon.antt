-- The floor at noon (document 02, request 1): at every moment of a day, of the figures that an owner reads off the
-- record, and that these are the day's.
use Rattle.std.specs.Prelude.{◌≡◌, List, ◌++◌, ◌⊎◌, ℕ, ◌*◌, ◌≤◌, ◌<◌, length, Ok}
use Rattle.finite.specs.Finite.{sum}
use Rattle.powers.specs.Power.{share}
use Rattle.campaigns.specs.Campaign.{whole}
use Rattle.campaigns.specs.View.{full}
use Rattle.day.specs.declared.Day.{Day}
use Rattle.day.specs.Day.{campaign, blank, total_takings, total_claim}
use Rattle.day.specs.Calls.{Call}
use Rattle.noon.specs.Noon.{due_plays, due, total_due, floor_figure, figures_of, at_noon}
use Rattle.demands.specs.Transcript.{transcript, final}
use Rattle.floor.specs.History.{Starts, History, day_takings, history}
use Rattle.floor.specs.Floor.{price_of, whole_of, named_in, unstruck, Allotted, takings_of}

-- what is due to campaign i, by what was handed in
abbrev pub due_of : History → ℕ → ℕ
due_of h i = due_plays h.plan.depth (whole_of h i) (named_in h i)

-- the sum, over campaigns, of price × what is due
abbrev pub day_due : History → ℕ
day_due h = sum (length h.terms) (λ i. price_of h i * due_of h i)

-- the day h, whose state is s
pub record NoonFloor (h : History) (s : Day) : Type 0 where
  -- d^k × takings is at least (d^k − (d−1)^k) × the sum, over campaigns, of price × what is due
  pub floor_now : floor_figure s ≤ full s.plan (total_takings s)
  -- and the total claim lies between those two figures
  pub claim_above : floor_figure s ≤ total_claim s
  pub claim_below : total_claim s ≤ full s.plan (total_takings s)
  -- the claim bounds what an allotment takes of the campaigns that do not fall short: claim / (d^k − (d−1)^k) cents
  pub claim_bounds : (to : ℕ → ℕ) → Allotted h to
      → share s.plan.depth s.plan.width * takings_of h (unstruck h) to ≤ total_claim s
  -- what the record shows is what was handed in and what was answered
  pub plan_is : s.plan ≡ h.plan
  pub count_is : s.count ≡ length h.terms
  pub price_is : (i : ℕ) → i < s.count → (campaign s i).price ≡ price_of h i
  pub whole_is : (i : ℕ) → i < s.count → whole (campaign s i) ≡ whole_of h i
  pub named_is : (i : ℕ) → i < s.count → (campaign s i).named ≡ named_in h i
  pub accepted_is : s.accepted ≡ length h.views
  pub takings_is : total_takings s ≡ day_takings h
  -- the marks are those that the accepted pausings and resumings left
  pub paused_is : s.paused ≡ h.paused
  pub due_is : total_due s ≡ day_due h
  -- the turns of each campaign reach what is due to it
  pub turns_enough : (i : ℕ) → i < s.count → due s.plan.depth (campaign s i) ≤ (campaign s i).turns
  -- asked for, the three figures are given
  pub answered : at_noon s ≡ Ok (figures_of s)

-- Every moment of every list of demand 3: after any of its calls and, where it is given the blank state, before them;
-- before an opening of any other state there is no day.
abbrev pub AtEveryMoment : Type 0
AtEveryMoment =
    (s : Day) (before after : List Call) → Starts s (before ++ after) → (s ≡ blank) ⊎ (0 < length before)
    → NoonFloor (history (transcript s before)) (final s before)
