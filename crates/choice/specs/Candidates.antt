-- The choice while it is made: the best candidate so far, and the campaigns after a view that a candidate plays. All of
-- it speaks of a campaign through `campaigns/specs/View`, so that a further kind of plan changes that file.
use Rattle.std.specs.Prelude.{Bool, true, false, cond, ℕ, eqb, Option, Some, None}
use Rattle.campaigns.specs.declared.Campaign.{Campaign}
use Rattle.campaigns.specs.declared.Plan.{Plan}
use Rattle.campaigns.specs.declared.View.{View}
use Rattle.campaigns.specs.Choice.{Choice, outdone, role_of}
use Rattle.campaigns.specs.Choice.Choice.{nobody, plays}
use Rattle.campaigns.specs.View.{names, pays, offer, figure, becomes, chosen_of}
use Rattle.choice.specs.declared.Candidate.{Candidate}

-- a choice so far as a candidate
abbrev pub no_candidate : Option Candidate
no_candidate = None

abbrev pub as_candidate : (figure offer : ℕ → ℕ) → Choice → Option Candidate
as_candidate x o nobody = no_candidate
as_candidate x o (plays m) = Some (record { campaign = m; paid = o m; score = x m })

-- a candidate of this figure displaces b: b is nobody or of a lesser figure
abbrev pub displaced : Option Candidate → (figure : ℕ) → Bool
displaced None x = true
displaced (Some b) x = outdone b.score x

-- candidate b is campaign i
abbrev pub is_candidate : Option Candidate → (i : ℕ) → Bool
is_candidate None i = false
is_candidate (Some b) i = eqb i b.campaign

-- the better of candidate b and campaign c, of number i: b unless c can pay and b is nobody or of a lesser figure
unfoldable pub compared : Plan → View → Option Candidate → ℕ → Campaign → Option Candidate
compared pl w b i c =
    cond (pays pl w i c) (cond (displaced b (figure pl w i c))
    (Some (record { campaign = i; paid = offer pl w i c; score = figure pl w i c })) b) b

-- the choice among the first n campaigns as a candidate
unfoldable pub candidate_of : Plan → View → (ℕ → Campaign) → ℕ → Option Candidate
candidate_of pl w f n = as_candidate (λ i. figure pl w i (f i)) (λ i. offer pl w i (f i)) (chosen_of n pl w f)

-- the campaigns after a view that candidate b plays
abbrev pub after_view : Plan → View → Option Candidate → (ℕ → Campaign) → ℕ → Campaign
after_view pl w b f i =
    becomes pl w i (role_of (names w i) (pays pl w i (f i)) (is_candidate b i)) (f i)
