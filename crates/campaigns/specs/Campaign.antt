-- One campaign: its whole plays, score and claim, what a view does to it, and what soundness asks of it. Depth is k,
-- width d.
use Rattle.std.specs.Prelude.{Bool, true, false, ◌&&◌, List, ℕ, ◌+◌, ◌-◌, ◌*◌, ◌/◌, ◌^◌, leb, ltb, eqb, get_or}
use Rattle.powers.specs.Limits.{max_depth, max_width, max_power}
use Rattle.powers.specs.Power.{weight, share}
use Rattle.campaigns.specs.declared.Campaign.{Campaign}
use Rattle.campaigns.specs.declared.Phase.{Phase}
use Rattle.campaigns.specs.declared.Phase.TheVariants.{Filling, Running, Closed}
use Rattle.campaigns.specs.declared.Plan.{Plan}
use Rattle.campaigns.specs.declared.Terms.{Terms}
use Rattle.campaigns.specs.Limits.{max_campaigns, max_price, max_budget}
use Rattle.campaigns.specs.Choice.{Role}
use Rattle.campaigns.specs.Choice.Role.{absent, spent, chosen, passed}

-- whole plays: budget / price rounded down
abbrev pub whole_plays : (price budget : ℕ) → ℕ
whole_plays price budget = budget / price

unfoldable pub whole : Campaign → ℕ
whole c = whole_plays c.price c.budget

-- can pay: plays < whole plays
abbrev pub can_pay : Campaign → Bool
can_pay c = ltb c.plays (whole c)

-- score: price × W(age)
abbrev pub score : (k d : ℕ) → Campaign → ℕ
score k d c = c.price * weight k d c.age

-- its part of the takings
abbrev pub spending : Campaign → ℕ
spending c = c.price * c.plays

-- claim: price × (turns × (d^k − (d−1)^k) + W(age) − W(0))
unfoldable pub claim : (k d : ℕ) → Campaign → ℕ
claim k d c = c.price * (c.turns * share k d + weight k d c.age - weight k d 0)

-- the campaign with other counts, named once more (rule 4)
abbrev pub named_again : Campaign → (plays turns age : ℕ) → Campaign
named_again c p t a = record {
  price = c.price;
  budget = c.budget;
  plays = p;
  turns = t;
  age = a;
  named = c.named + 1;
}

-- rule 3: one of age more; if that makes k, one turn more and age 0
abbrev pub aged : Bool → Campaign → Campaign
aged true c = named_again c c.plays (c.turns + 1) 0
aged false c = named_again c c.plays c.turns (c.age + 1)

-- what a view does to a campaign in each role; rule 2 is the player's
abbrev pub after : (k : ℕ) → Role → Campaign → Campaign
after k absent c = c
after k spent c = named_again c c.plays c.turns c.age
after k chosen c = named_again c (c.plays + 1) (c.turns + 1) 0
after k passed c = aged (eqb (c.age + 1) k) c

-- a campaign as it is added: zero counts
abbrev pub fresh : Terms → Campaign
fresh t = record { price = t.price; budget = t.budget; plays = 0; turns = 0; age = 0; named = 0 }

-- questions 3, 4 and 5
abbrev pub depth_fits : Plan → Bool
depth_fits pl = leb 1 pl.depth && leb pl.depth max_depth

abbrev pub width_fits : Plan → Bool
width_fits pl = leb 1 pl.width && leb pl.width max_width

abbrev pub power_fits : Plan → Bool
power_fits pl = leb (pl.width ^ pl.depth) max_power

-- questions 8 and 9
abbrev pub price_fits : ℕ → Bool
price_fits price = leb 1 price && leb price max_price

abbrev pub budget_fits : (price budget : ℕ) → Bool
budget_fits price budget = leb price budget && leb budget max_budget

unfoldable pub sound_plan : Plan → Bool
sound_plan pl = depth_fits pl && width_fits pl && power_fits pl

unfoldable pub priced : Campaign → Bool
priced c = price_fits c.price && budget_fits c.price c.budget

-- age < depth, plays ≤ whole plays, plays ≤ turns ≤ named ≤ accepted views
unfoldable pub counted : Plan → (accepted : ℕ) → Campaign → Bool
counted pl n c = ltb c.age pl.depth && leb c.plays (whole c) && leb c.plays c.turns &&
    leb c.turns c.named && leb c.named n

-- zero counts
unfoldable pub uncounted : Campaign → Bool
uncounted c = eqb c.plays 0 && eqb c.turns 0 && eqb c.age 0 && eqb c.named 0

-- all zero
unfoldable pub empty : Campaign → Bool
empty c = eqb c.price 0 && eqb c.budget 0 && uncounted c

-- in Filling all counts are zero
abbrev pub untouched : Phase → Campaign → Bool
untouched Filling c = uncounted c
untouched Running c = true
untouched (Closed t) c = true

unfoldable pub sound_campaign : Phase → Plan → (accepted : ℕ) → Campaign → Bool
sound_campaign p pl n c = priced c && counted pl n c && untouched p c

-- the state holds campaigns by columns in two arrays: where campaign i stands in column c, of which the first is 0
abbrev pub column : (c i : ℕ) → ℕ
column c i = i + c * max_campaigns

-- prices and budgets; plays, turns, ages and named
abbrev pub campaign_at : (terms counts : List ℕ) → ℕ → Campaign
campaign_at t n i = record {
  price = get_or t i 0;
  budget = get_or t (column 1 i) 0;
  plays = get_or n i 0;
  turns = get_or n (column 1 i) 0;
  age = get_or n (column 2 i) 0;
  named = get_or n (column 3 i) 0;
}
