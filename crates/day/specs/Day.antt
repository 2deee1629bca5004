-- The state: how its arrays hold the campaigns, and the states that the operations hand back.
use Rattle.std.specs.Prelude.{Bool, List, ◌++◌, ℕ, Option}
use Rattle.finite.specs.Finite.{table}
use Rattle.campaigns.specs.declared.Campaign.{Campaign}
use Rattle.campaigns.specs.declared.Head.{Head}
use Rattle.day.specs.declared.Day.{Day}
use Rattle.campaigns.specs.declared.Phase.{Phase}
use Rattle.campaigns.specs.declared.Phase.TheVariants.{Closed}
use Rattle.campaigns.specs.declared.Plan.{Plan}
use Rattle.campaigns.specs.declared.Terms.{Terms}
use Rattle.campaigns.specs.Limits.{max_campaigns}
use Rattle.campaigns.specs.Campaign.{fresh, campaign_at}
use Rattle.campaigns.specs.View.{budgets, takings, claims}
use Rattle.audit.specs.declared.Audit.{Audit}
use Rattle.audit.specs.Sound.{sound_record, audit_of}

-- campaign i of the record
abbrev pub campaign : Day → ℕ → Campaign
campaign s i = campaign_at s.terms s.counts i

-- a state but for its campaigns
abbrev pub head_of : Day → Head
head_of s = record {
  phase = s.phase;
  plan = s.plan;
  count = s.count;
  accepted = s.accepted;
  paused = s.paused;
}

-- the state of a head and two arrays
abbrev pub state_of : Head → (terms counts : List ℕ) → Day
state_of h t n = record {
  phase = h.phase;
  plan = h.plan;
  count = h.count;
  accepted = h.accepted;
  paused = h.paused;
  terms = t;
  counts = n;
}

-- the state of a head that holds campaign f i at entry i
abbrev pub state_with : Head → (ℕ → Campaign) → Day
state_with h f =
    state_of h (table max_campaigns (λ i. (f i).price) ++ table max_campaigns (λ i. (f i).budget))
    (table max_campaigns (λ i. (f i).plays) ++ (table max_campaigns (λ i. (f i).turns) ++
    (table max_campaigns (λ i. (f i).age) ++ table max_campaigns (λ i. (f i).named))))

-- the state s in another phase
abbrev pub in_phase : Day → Phase → Day
in_phase s p = record {
  phase = p;
  plan = s.plan;
  count = s.count;
  accepted = s.accepted;
  paused = s.paused;
  terms = s.terms;
  counts = s.counts;
}

-- an entry past the last is all zero
abbrev pub no_terms : Terms
no_terms = record { price = 0; budget = 0 }

-- a plan with no campaigns, zero counts and no mark
abbrev pub empty_plan : Phase → Plan → Day
empty_plan p pl = state_with (record { phase = p; plan = pl; count = 0; accepted = 0; paused = 0 })
    (λ i. fresh no_terms)

-- the blank state: Closed, depth 1, width 1, no campaigns, zero accepted views and zero takings
abbrev pub blank_plan : Plan
blank_plan = record { depth = 1; width = 1 }

unfoldable pub blank : Day
blank = empty_plan (Closed 0) blank_plan

unfoldable pub total_takings : Day → ℕ
total_takings s = takings s.plan s.count (campaign s)

unfoldable pub total_claim : Day → ℕ
total_claim s = claims s.plan s.count (campaign s)

unfoldable pub total_budgets : Day → ℕ
total_budgets s = budgets s.count (campaign s)

-- sound
unfoldable pub sound : Day → Bool
sound s = sound_record (head_of s) (campaign s)

-- the figures of the state, if it is sound
unfoldable pub audited : Day → Option Audit
audited s = audit_of (head_of s) (campaign s)
