-- "Sound" and "Questions at the door" once more, as propositions with the documents' own numbers: what a sound state
-- is, when a call is accepted, and the number that it gets where it is not. The sentences take nothing from the tests
-- that the code is proved against; closed statements join the two.
use Rattle.std.specs.Prelude.{◌≡◌, true, not, ◌&&◌, ◌↔◌, ℕ, ◌+◌, ◌-◌, ◌*◌, ◌^◌, ◌≤◌, ◌<◌, IsSome, IfSome}
use Rattle.finite.specs.Finite.{sum, count}
use Rattle.sets.specs.Set.{member}
use Rattle.campaigns.specs.declared.Campaign.{Campaign}
use Rattle.campaigns.specs.declared.Phase.TheVariants.{Filling, Running, Closed}
use Rattle.campaigns.specs.declared.Plan.{Plan}
use Rattle.questions.specs.Questions.{asks, accepts}
use Rattle.day.specs.declared.Day.{Day}
use Rattle.day.specs.Day.{campaign, sound, audited}
use Rattle.day.specs.Day as states
use Rattle.day.specs.Calls.{number, Call, call}
use Rattle.day.specs.Calls.Call.{open_plan, add_campaign, start_day, show_view, ask_tally, close_day, mark_campaign}

-- questions 3, 4 and 5
abbrev pub DepthFits : Plan → Type 0
DepthFits pl = (1 ≤ pl.depth) × (pl.depth ≤ 32)

abbrev pub WidthFits : Plan → Type 0
WidthFits pl = (1 ≤ pl.width) × (pl.width ≤ 16)

abbrev pub PowerFits : Plan → Type 0
PowerFits pl = pl.width ^ pl.depth ≤ 4_294_967_296

-- questions 8 and 9
abbrev pub PriceFits : (price : ℕ) → Type 0
PriceFits p = (1 ≤ p) × (p ≤ 1_000_000)

abbrev pub BudgetFits : (price budget : ℕ) → Type 0
BudgetFits p b = (p ≤ b) × (b ≤ 2_000_000_000)

-- the sum of the budgets, and takings: the sum of price × plays
abbrev pub total_budgets : Day → ℕ
total_budgets s = sum s.count (λ i. (campaign s i).budget)

abbrev pub takings : Day → ℕ
takings s = sum s.count (λ i. (campaign s i).price * (campaign s i).plays)

-- full: d^k × takings
abbrev pub full : Day → ℕ
full s = s.plan.width ^ s.plan.depth * takings s

-- W(a) = d^a × (d − 1)^(k − a)
abbrev pub W : Day → (a : ℕ) → ℕ
W s a = s.plan.width ^ a * (s.plan.width - 1) ^ (s.plan.depth - a)

-- the total claim: the sum of price × (turns × (d^k − (d−1)^k) + W(age) − W(0))
abbrev pub total_claim : Day → ℕ
total_claim s =
    let k = s.plan.depth in
    let d = s.plan.width in
    sum s.count
    (λ i. let c = campaign s i in c.price * (c.turns * (d ^ k - (d - 1) ^ k) + W s c.age - W s 0))

-- a campaign of a sound state
pub record CampaignSound (s : Day) (c : Campaign) : Type 0 where
  pub price_fits : PriceFits c.price
  pub budget_fits : BudgetFits c.price c.budget
  pub age_below : c.age < s.plan.depth
  -- plays ≤ whole plays: the budget pays for them
  pub plays_paid : c.price * c.plays ≤ c.budget
  pub plays_turns : c.plays ≤ c.turns
  pub turns_named : c.turns ≤ c.named
  pub named_accepted : c.named ≤ s.accepted

-- a campaign with zero counts
abbrev pub new_campaign : (price budget : ℕ) → Campaign
new_campaign p b = record { price = p; budget = b; plays = 0; turns = 0; age = 0; named = 0 }

-- a state is sound when its depth, width and campaigns pass questions 3, 4, 5, 8, 9 and 10, and the other clauses hold
pub record IsSound (s : Day) : Type 0 where
  pub depth_fits : DepthFits s.plan
  pub width_fits : WidthFits s.plan
  pub power_fits : PowerFits s.plan
  pub few_campaigns : s.count ≤ 64
  pub few_views : s.accepted ≤ 4_096
  pub campaigns_sound : (i : ℕ) → i < s.count → CampaignSound s (campaign s i)
  -- question 10
  pub budgets_fit : total_budgets s ≤ 2_000_000_000
  -- entries past the last are all zero
  pub zero_past : (i : ℕ) → s.count ≤ i → i < 64 → campaign s i ≡ new_campaign 0 0
  -- in Filling all counts are zero, accepted views included
  pub filling_counts : s.phase ≡ Filling → (i : ℕ) → i < s.count
      → campaign s i ≡ new_campaign (campaign s i).price (campaign s i).budget
  pub filling_views : s.phase ≡ Filling → s.accepted ≡ 0
  -- a Closed phase holds the takings
  pub closed_holds : (t : ℕ) → s.phase ≡ Closed t → t ≡ takings s
  -- the total claim is at most d^k × takings
  pub claim_covered : total_claim s ≤ full s
  -- document 02's paused marks: an entry past the last has none, and in Filling there is none
  pub marks_within : (i : ℕ) → i < 64 → member s.paused i ≡ true → i < s.count
  pub filling_marks : s.phase ≡ Filling → s.paused ≡ 0

-- the sums that the tests and the answers name are these, of every state
abbrev pub SumsAre : Type 0
SumsAre =
    (s : Day) → (states.total_budgets s ≡ total_budgets s) × (states.total_takings s ≡ takings s)
    × (states.total_claim s ≡ total_claim s)

-- question 1: the tests of soundness pass exactly if the state is sound
abbrev pub SoundMeans : Type 0
SoundMeans = (s : Day) → (sound s ≡ true) ↔ IsSound s

-- there is an audit of a state exactly if it is sound, and it tells its sums
pub record AuditTells (s : Day) : Type 0 where
  pub sound_is : IsSome (audited s) ↔ IsSound s
  pub budgets_are : IfSome (audited s) (λ a. a.budgets ≡ total_budgets s)
  pub takings_are : IfSome (audited s) (λ a. a.takings ≡ takings s)
  pub claim_is : IfSome (audited s) (λ a. a.claim ≡ total_claim s)
  pub full_is : IfSome (audited s) (λ a. a.full ≡ full s)

abbrev pub AlwaysAudited : Type 0
AlwaysAudited = (s : Day) → AuditTells s

-- how many campaigns a set names that are not paused
abbrev pub unpaused : Day → (set : ℕ) → ℕ
unpaused s set = count 64 (λ i. member set i && not (member s.paused i))

-- the questions of each call but the first, in the documents' order
abbrev pub own_door : Day → Call → (n : ℕ) → Type 0
own_door s (open_plan pl) =
    asks 2 ((t : ℕ) × (s.phase ≡ Closed t))
    (asks 3 (DepthFits pl) (asks 4 (WidthFits pl) (asks 5 (PowerFits pl) accepts)))
own_door s (add_campaign t) =
    asks 6 (s.phase ≡ Filling)
    (asks 7 (s.count < 64)
    (asks 8 (PriceFits t.price)
    (asks 9 (BudgetFits t.price t.budget)
    (asks 10 (total_budgets s + t.budget ≤ 2_000_000_000) accepts))))
own_door s start_day = asks 6 (s.phase ≡ Filling) accepts
own_door s (show_view w) =
    asks 11 (s.phase ≡ Running)
    (asks 12 (s.accepted < 4_096)
    (asks 13 ((i : ℕ) → i < 64 → member w.set i ≡ true → i < s.count)
    (asks 14 (unpaused s w.set ≤ s.plan.width) accepts)))
own_door s (ask_tally i) = asks 15 (i < s.count) accepts
own_door s close_day = asks 11 (s.phase ≡ Running) accepts
own_door s (mark_campaign b i) = asks 11 (s.phase ≡ Running) (asks 15 (i < s.count) accepts)

-- the number of every call on every state, whoever made it
abbrev pub AlwaysAsks : Type 0
AlwaysAsks = (s : Day) (c : Call) → asks 1 (IsSound s) (own_door s c) (number (call s c).answer)
