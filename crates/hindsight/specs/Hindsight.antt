-- Demand 3 against what the day could have earned: the day's own accepted views, as the history has them, handed to the
-- search or the check.
use Rattle.std.specs.Prelude.{◌≡◌, true, cond, List, ℕ, ◌+◌, ◌-◌, ◌*◌, ◌≤◌, length, Result, Ok}
use Rattle.powers.specs.Power.{share}
use Rattle.campaigns.specs.View.{full}
use Rattle.day.specs.declared.Day.{Day}
use Rattle.day.specs.Calls.{Call}
use Rattle.demands.specs.Transcript.{transcript, final}
use Rattle.allotments.specs.Allotment.{at}
use Rattle.floor.specs.History.{Starts, History, day_takings, history, own_views}
use Rattle.floor.specs.Floor.{price_of, falls_short, unstruck, Allotted, takings_of, Covered}
use Rattle.refusal.specs.declared.Refusal.{Refusal}
use Rattle.allotments.specs.Limits.{max_handed_in}
use Rattle.optimum.specs.Optimum.{failed, most_of, Searched, checked}

-- what an allotment gives to campaigns that fall short
abbrev pub given_short : History → (ℕ → ℕ) → ℕ
given_short h to = takings_of h (λ i. cond (falls_short h i) (price_of h i) 0) to

-- the day h, whose state is s, and one of demand 3's allotments, with the greatest takings
pub record TakesMost (h : History) (s : Day) (to : ℕ → ℕ) : Type 0 where
  pub allotted : Allotted h to
  pub takes_most : takings_of h (price_of h) to ≡ most_of s (own_views h)

-- the floor holds of the greatest figure less what the allotment gives to campaigns that fall short, also as a sum;
-- that and what it gives to the others are the greatest takings
pub record AgainstGreatest (h : History) (s : Day) (to : ℕ → ℕ) : Type 0 where
  pub parts : given_short h to + takings_of h (unstruck h) to ≡ most_of s (own_views h)
  pub less_short : Covered h (most_of s (own_views h) - given_short h to)
  pub as_sum : share h.plan.depth h.plan.width * most_of s (own_views h) ≤
      full h.plan (day_takings h) + share h.plan.depth h.plan.width * given_short h to

-- for every list of calls that demand 3 admits and any number of views: the floor holds against every allotment with
-- the greatest takings
abbrev pub FloorAgainstGreatest : Type 0
FloorAgainstGreatest = (s : Day) (cs : List Call) → Starts s cs → (to : ℕ → ℕ)
    → TakesMost (history (transcript s cs)) (final s cs) to
    → AgainstGreatest (history (transcript s cs)) (final s cs) to

-- there is one, and no allotment takes more
pub record GreatestFigure (h : History) (s : Day) : Type 0 where
  pub to : ℕ → ℕ
  pub is : TakesMost h s to
  pub no_more : (other : ℕ → ℕ) → Allotted h other → takings_of h (price_of h) other ≤ most_of s (own_views h)

abbrev pub AlwaysGreatest : Type 0
AlwaysGreatest = (s : Day) (cs : List Call) → Starts s cs → GreatestFigure (history (transcript s cs)) (final s cs)

-- what the day took is at most that: its own answers are one of those allotments (`floor/specs/Own`)
abbrev pub TakingsAtMost : Type 0
TakingsAtMost = (s : Day) (cs : List Call) → Starts s cs
    → day_takings (history (transcript s cs)) ≤ most_of (final s cs) (own_views (history (transcript s cs)))

-- whatever the check accepts for the day's own views is such an allotment
abbrev pub FloorAgainstAccepted : Type 0
FloorAgainstAccepted = (s : Day) (cs : List Call) → Starts s cs → (allotment surplus worth : List ℕ)
    → checked (final s cs) (own_views (history (transcript s cs))) allotment surplus worth ≡ Ok true
    → TakesMost (history (transcript s cs)) (final s cs) (at allotment)
    × AgainstGreatest (history (transcript s cs)) (final s cs) (at allotment)

-- neither 1 nor 13 is given for them
abbrev pub OwnViewsTaken : Type 0
OwnViewsTaken = (s : Day) (cs : List Call) → Starts s cs → (allotment surplus worth : List ℕ)
    → (failed (final s cs) (own_views (history (transcript s cs))) allotment surplus worth ≡ 1 → ⊥)
    × (failed (final s cs) (own_views (history (transcript s cs))) allotment surplus worth ≡ 13 → ⊥)

-- at most 256 views, and an entry for each in two of the lent lists and for each campaign in the third
pub record Room (h : History) (s : Day) (allotment surplus worth : List ℕ) : Type 0 where
  pub few : length h.views ≤ max_handed_in
  pub for_allotment : length h.views ≤ length allotment
  pub for_campaigns : s.count ≤ length surplus
  pub for_views : length h.views ≤ length worth

-- with it none of the questions fails
pub record SearchCovered (h : History) (s : Day) (allotment allotment' surplus surplus' worth worth' : List ℕ)
    (r : Result ℕ Refusal) : Type 0 where
  pub none_fails : failed s (own_views h) allotment surplus worth ≡ 0
  pub answer : r ≡ Ok (most_of s (own_views h))
  pub accepted : checked s (own_views h) allotment' surplus' worth' ≡ Ok true
  pub taken : TakesMost h s (at allotment')
  pub against : AgainstGreatest h s (at allotment')

-- so that the search of the day's own views answers the greatest takings, and the floor holds against what it leaves
abbrev pub FloorAgainstSearched : Type 0
FloorAgainstSearched = (s : Day) (cs : List Call) → Starts s cs
    → (allotment allotment' surplus surplus' worth worth' : List ℕ) (r : Result ℕ Refusal)
    → Room (history (transcript s cs)) (final s cs) allotment surplus worth
    → Searched (final s cs) (own_views (history (transcript s cs))) allotment allotment' surplus surplus' worth worth' r
    → SearchCovered (history (transcript s cs)) (final s cs) allotment allotment' surplus surplus' worth worth' r
