-- Names for the contracts of the inner functions: the widths of the arrays, a play of a campaign that was taken to be
-- passed over, and the weights of a plan.
use Rattle.std.specs.Prelude.{◌≡◌, true, cond, List, ℕ, ◌+◌, ◌-◌, ◌*◌, ◌^◌, ◌≤◌, ◌<◌, eqb, get_or, length}
use Rattle.powers.specs.Power.{weight}
use Rattle.campaigns.specs.declared.Campaign.{Campaign}
use Rattle.campaigns.specs.declared.Plan.{Plan}
use Rattle.campaigns.specs.Limits.{max_campaigns}
use Rattle.campaigns.specs.Campaign.{sound_plan}

-- the numbers of a campaign are no wider than the arrays
pub record FitsArrays (c : Campaign) : Type 0 where
  pub price_u32 : c.price < 4_294_967_296
  pub budget_u32 : c.budget < 4_294_967_296
  pub plays_u16 : c.plays < 65_536
  pub turns_u16 : c.turns < 65_536
  pub age_u16 : c.age < 65_536
  pub named_u16 : c.named < 65_536

-- what the numbers of a column of 32 bits sum to at most
abbrev pub max_column : ℕ
max_column = max_campaigns * 4_294_967_296

-- lent arrays have the entries that their types say
pub record Sized (terms counts : List ℕ) : Type 0 where
  pub terms_length : length terms ≡ 128
  pub counts_length : length counts ≡ 256

-- the play of a campaign whose counts are those of one passed over: one turn more, unless an age that reached the depth
-- has brought it (`Laws.played_passed`: the same as rule 2)
abbrev pub played : Campaign → Campaign
played c =
    record {
      price = c.price;
      budget = c.budget;
      plays = c.plays + 1;
      turns = cond (eqb c.age 0) c.turns (c.turns + 1);
      age = 0;
      named = c.named;
    }

-- 33 numbers, (d − 1)^(k − a) at each age a up to the depth
pub record Falling (pl : Plan) (l : List ℕ) : Type 0 where
  pub plan_fits : sound_plan pl ≡ true
  pub full_length : length l ≡ 33
  pub falls : (a : ℕ) → a ≤ pl.depth → get_or l a 0 ≡ (pl.width - 1) ^ (pl.depth - a)

-- the weights of a plan that passes its questions
pub record Weights (pl : Plan) (l : List ℕ) : Type 0 where
  pub plan_sound : sound_plan pl ≡ true
  pub weigh_is : (a : ℕ) → a ≤ pl.depth → get_or l a 0 ≡ weight pl.depth pl.width a
