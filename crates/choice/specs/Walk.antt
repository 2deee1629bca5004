-- The choice as a walk (document 02, request 9): it steps through the named campaigns alone, from the least to the
-- next, and gives the choice and the counts that rules 1 to 4 give over all campaigns.
use Rattle.std.specs.Prelude.{◌≡◌, true, false, cond, List, [], ◌∷◌, ℕ, ◌≤◌, ◌<◌, eqb, Option}
use Rattle.sets.specs.Set.{within}
use Rattle.sets.specs.Walk.{members}
use Rattle.campaigns.specs.declared.Campaign.{Campaign}
use Rattle.campaigns.specs.declared.Plan.{Plan}
use Rattle.campaigns.specs.declared.View.{View}
use Rattle.campaigns.specs.Limits.{max_campaigns}
use Rattle.campaigns.specs.Choice.{role_of}
use Rattle.campaigns.specs.Choice.Role.{chosen}
use Rattle.campaigns.specs.View.{pays, becomes, viewed}
use Rattle.choice.specs.declared.Candidate.{Candidate}
use Rattle.choice.specs.Candidates.{no_candidate, is_candidate, compared, candidate_of}

-- how far a walk is: the best candidate so far, and the campaigns
pub record Walked : Type 0 where
  pub best : Option Candidate
  pub campaigns : ℕ → Campaign

-- what a view that names campaign i and does not play it makes of it
abbrev pub passed_over : Plan → View → ℕ → Campaign → Campaign
passed_over pl w i c = becomes pl w i (role_of true (pays pl w i c) false) c

-- one step, to campaign i: it is compared with the best so far, and counted as passed over
abbrev pub step : Plan → View → Walked → ℕ → Walked
step pl w x i = record {
  best = compared pl w x.best i (x.campaigns i);
  campaigns = λ j. cond (eqb j i) (passed_over pl w i (x.campaigns i)) (x.campaigns j);
}

-- one step to each number of a list, in its order
unfoldable pub along : Plan → View → List ℕ → Walked → Walked
along pl w [] x = x
along pl w (i ∷ is) x = along pl w is (step pl w x i)

-- the walk of a view: along the members of its set
abbrev pub walked : Plan → View → (ℕ → Campaign) → Walked
walked pl w f = along pl w (members w.set) (record { best = no_candidate; campaigns = f })

-- the campaigns once the best one has played, in place of being passed over
abbrev pub with_play : Plan → View → (ℕ → Campaign) → ℕ → Campaign
with_play pl w f i =
    cond (is_candidate (walked pl w f).best i) (becomes pl w i chosen (f i))
    ((walked pl w f).campaigns i)

-- The walk gives the same choice and the same counts as before: rule 1 among all n campaigns of the plan, and rules 2
-- to 4 for each.
pub record SameChoice (n : ℕ) (pl : Plan) (w : View) (f : ℕ → Campaign) : Type 0 where
  pub same_player : (walked pl w f).best ≡ candidate_of pl w f n
  pub same_counts : (i : ℕ) → i < max_campaigns → with_play pl w f i ≡ viewed n pl w f i

abbrev pub SameChoices : Type 0
SameChoices = (n : ℕ) (pl : Plan) (w : View) (f : ℕ → Campaign) → n ≤ max_campaigns
    → within n w.set ≡ true → SameChoice n pl w f
