-- What an accepted call does, as propositions in the documents' words: rules 1 to 4 of a view, and what each other call
-- changes; all else stays. As in `Door`, the sentences take nothing from the rules that the code is proved against.
use Rattle.std.specs.Prelude.{◌≡◌, true, false, cond, ◌⊎◌, ℕ, ◌+◌, ◌*◌, ◌≤◌, ◌<◌, eqb}
use Rattle.sets.specs.Set.{member}
use Rattle.campaigns.specs.declared.Campaign.{Campaign}
use Rattle.campaigns.specs.declared.Head.{Head}
use Rattle.campaigns.specs.declared.Phase.{Phase}
use Rattle.campaigns.specs.declared.Phase.TheVariants.{Filling, Running, Closed}
use Rattle.campaigns.specs.declared.Plan.{Plan}
use Rattle.campaigns.specs.declared.View.{View}
use Rattle.day.specs.declared.Answer.{Answer}
use Rattle.day.specs.declared.Answer.TheVariants.{Done, Played, Nobody, Tallied, Closing}
use Rattle.day.specs.declared.Day.{Day}
use Rattle.day.specs.Day.{head_of, campaign}
use Rattle.day.specs.Calls.{number, Call, call}
use Rattle.day.specs.Calls.Call.{open_plan, add_campaign, start_day, show_view, ask_tally, close_day, mark_campaign}
use Rattle.demands.specs.Door.{takings, full, W, total_claim, new_campaign}

-- the view names campaign i, which is not paused
abbrev pub Named : Day → View → ℕ → Type 0
Named s w i = (member w.set i ≡ true) × (member s.paused i ≡ false)

-- it can pay: its budget pays for one play more
abbrev pub Pays : Campaign → Type 0
Pays c = c.price * (c.plays + 1) ≤ c.budget

-- its score: price × W(age)
abbrev pub score : Day → ℕ → ℕ
score s i = (campaign s i).price * W s (campaign s i).age

-- rule 1: of the named campaigns that can pay, m has the greatest score, of equal scores the lower number; p is the
-- price of this one play
pub record PlaysBest (s : Day) (w : View) (m p : ℕ) : Type 0 where
  pub below : m < s.count
  pub named : Named s w m
  pub pays : Pays (campaign s m)
  pub price_is : p ≡ (campaign s m).price
  pub greatest : (j : ℕ) → j < 64 → Named s w j → Pays (campaign s j) → score s j ≤ score s m
  pub lowest : (j : ℕ) → j < m → Named s w j → Pays (campaign s j) → score s j < score s m

-- none of the named campaigns can pay
abbrev pub NonePays : Day → View → Type 0
NonePays s w = (j : ℕ) → j < 64 → Named s w j → Pays (campaign s j) → ⊥

-- the answer by rule 1: nobody if none can pay, else the best of them
abbrev pub Rule1 : Day → View → Answer → Type 0
Rule1 s w a =
    ((a ≡ Nobody) × NonePays s w) ⊎ ((m : ℕ) × (p : ℕ) × (a ≡ Played m p) × PlaysBest s w m p)

-- the campaign with other counts
abbrev pub counting : Campaign → (plays turns age named : ℕ) → Campaign
counting c p t a n = record { price = c.price; budget = c.budget; plays = p; turns = t; age = a; named = n }

-- rules 2 to 4: what becomes of campaign i, which was c, where the answer to the view is a
pub record Rules2To4 (s : Day) (w : View) (a : Answer) (i : ℕ) (c after : Campaign) : Type 0 where
  pub unnamed : (Named s w i → ⊥) → after ≡ c
  -- rule 2
  pub player : (p : ℕ) → a ≡ Played i p → after ≡ counting c (c.plays + 1) (c.turns + 1) 0 (c.named + 1)
  -- rule 4 alone: it could not pay before the view
  pub spent : Named s w i → (Pays c → ⊥) → after ≡ counting c c.plays c.turns c.age (c.named + 1)
  -- rule 3: passed over; and where that makes its age k
  pub older : Named s w i → Pays c → ((p : ℕ) → a ≡ Played i p → ⊥) → (c.age + 1 ≡ s.plan.depth → ⊥)
      → after ≡ counting c c.plays c.turns (c.age + 1) (c.named + 1)
  pub turned : Named s w i → Pays c → ((p : ℕ) → a ≡ Played i p → ⊥) → c.age + 1 ≡ s.plan.depth
      → after ≡ counting c c.plays (c.turns + 1) 0 (c.named + 1)

-- a head by its parts
abbrev pub headed : Phase → Plan → (count accepted paused : ℕ) → Head
headed p pl n a m = record { phase = p; plan = pl; count = n; accepted = a; paused = m }

-- the campaigns of t are those of s
abbrev pub CampaignsStay : (s t : Day) → Type 0
CampaignsStay s t = (i : ℕ) → i < 64 → campaign t i ≡ campaign s i

-- what each call answers, a, and what it makes of the state s: the state t
abbrev pub Does : Call → (s : Day) → (a : Answer) → (t : Day) → Type 0
Does (open_plan pl) s a t =
    (a ≡ Done) × (head_of t ≡ headed Filling pl 0 0 0) × ((i : ℕ) → i < 64 → campaign t i ≡ new_campaign 0 0)
Does (add_campaign terms) s a t =
    (a ≡ Done)
    × (head_of t ≡ headed s.phase s.plan (s.count + 1) s.accepted s.paused)
    × (campaign t s.count ≡ new_campaign terms.price terms.budget)
    × ((i : ℕ) → i < 64 → (i ≡ s.count → ⊥) → campaign t i ≡ campaign s i)
Does start_day s a t =
    (a ≡ Done)
    × (head_of t ≡ headed Running s.plan s.count s.accepted s.paused) × CampaignsStay s t
Does (show_view w) s a t =
    Rule1 s w a
    × (head_of t ≡ headed s.phase s.plan s.count (s.accepted + 1) s.paused)
    × ((i : ℕ) → i < 64 → Rules2To4 s w a i (campaign s i) (campaign t i))
Does (ask_tally i) s a t =
    let c = campaign s i in (a ≡ Tallied c.plays c.turns c.age c.named) × (t ≡ s)
Does close_day s a t =
    (a ≡ Closing (takings s) (total_claim s) (full s))
    × (head_of t ≡ headed (Closed (takings s)) s.plan s.count s.accepted s.paused) × CampaignsStay s t
Does (mark_campaign b i) s a t =
    (a ≡ Done)
    × (head_of t ≡ headed s.phase s.plan s.count s.accepted t.paused)
    × ((j : ℕ) → j < 64 → member t.paused j ≡ cond (eqb j i) b (member s.paused j))
    × CampaignsStay s t

-- of every call that is accepted
abbrev pub AlwaysDoes : Type 0
AlwaysDoes = (s : Day) (c : Call) → number (call s c).answer ≡ 0 → Does c s (call s c).answer (call s c).day
