-- Demands 1 and 2 of one call on a state, whoever made the state: what a refusal is, what an accepted call answers, and
-- that a view is rule 1's choice. That no call stops or reads and writes elsewhere is what the prover says of every
-- function.
use Rattle.std.specs.Prelude.{◌≡◌, true, List, [], ◌∷◌, ℕ, ◌<◌}
use Rattle.sets.specs.Set.{within}
use Rattle.campaigns.specs.declared.Phase.TheVariants.{Running}
use Rattle.campaigns.specs.declared.View.{View}
use Rattle.campaigns.specs.Limits.{max_campaigns, max_views}
use Rattle.campaigns.specs.Choice.{Choice}
use Rattle.campaigns.specs.Choice.Choice.{nobody, plays}
use Rattle.campaigns.specs.View.{able, figure, full}
use Rattle.day.specs.declared.Day.{Day}
use Rattle.day.specs.declared.Answer.TheVariants.{Nobody}
use Rattle.day.specs.Day.{head_of, campaign, total_takings, total_claim, sound}
use Rattle.questions.specs.Questions.{first_failed}
use Rattle.day.specs.Calls.{number, values, Call, questions, found, player, offers, head_shown, call}
use Rattle.day.specs.Calls.Call.{open_plan, add_campaign, start_day, show_view, ask_tally, close_day, mark_campaign}
use Rattle.demands.specs.Choice.{Right}

-- the values of the answer to an accepted call: the player and the price of this one play; the four counts; takings,
-- claim and full
abbrev pub view_values : (ℕ → ℕ) → Choice → List ℕ
view_values x nobody = []
view_values x (plays m) = m ∷ x m ∷ []

abbrev pub accepted_values : Day → Call → List ℕ
accepted_values s (open_plan pl) = []
accepted_values s (add_campaign t) = []
accepted_values s start_day = []
accepted_values s (show_view w) = view_values (offers s w) (player s w)
accepted_values s (ask_tally i) =
    (campaign s i).plays ∷ (campaign s i).turns ∷ (campaign s i).age ∷ (campaign s i).named ∷ []
accepted_values s close_day = total_takings s ∷ total_claim s ∷ full s.plan (total_takings s) ∷ []
accepted_values s (mark_campaign b i) = []

pub record Answers (s : Day) (c : Call) : Type 0 where
  -- the number of the first question that fails, or 0
  pub number_is : number (call s c).answer ≡ first_failed (questions s c)
  -- a refusal answers its number alone and leaves the state
  pub refusal : (number (call s c).answer ≡ 0 → ⊥) → ((call s c).day ≡ s)
      × (values (call s c).answer ≡ first_failed (questions s c) ∷ [])
  pub values_are : number (call s c).answer ≡ 0 → values (call s c).answer ≡ accepted_values s c
  pub keeps_sound : sound s ≡ true → sound (call s c).day ≡ true

-- of every call on every state, whoever made it
abbrev pub AlwaysAnswers : Type 0
AlwaysAnswers = (s : Day) (c : Call) → Answers s c

-- rule 1 asks for this player of a view: among the named campaigns that are not paused and can pay
abbrev pub PlaysRight : Day → View → Choice → Type 0
PlaysRight s w ch = let v = found s w in
    Right s.count (able s.plan v (campaign s)) (λ i. figure s.plan v i (campaign s i)) ch

-- the player of every view is rule 1's, and nobody else would do
abbrev pub AlwaysRight : Type 0
AlwaysRight = (s : Day) (w : View) → PlaysRight s w (player s w)

abbrev pub OnlyRight : Type 0
OnlyRight = (s : Day) (w : View) (ch : Choice) → PlaysRight s w ch → ch ≡ player s w

-- A view that finds nobody, since it names no campaign (document 02, request 2) or none but paused ones (request 3): it
-- is answered nobody and counted, and all else stays.
pub record CountsAlone (s : Day) (w : View) : Type 0 where
  pub answer_is : (call s (show_view w)).answer ≡ Nobody
  pub head_is : head_of (call s (show_view w)).day ≡ head_shown s
  pub campaigns_stay : (i : ℕ) → i < max_campaigns → campaign (call s (show_view w)).day i ≡ campaign s i

abbrev pub NobodyFound : Type 0
NobodyFound =
    (s : Day) (w : View) → sound s ≡ true → s.phase ≡ Running → s.accepted < max_views
    → within s.count w.set ≡ true → (found s w).set ≡ 0 → CountsAlone s w

-- so of every view that names none
abbrev pub NobodyNamed : Type 0
NobodyNamed =
    (s : Day) → sound s ≡ true → s.phase ≡ Running → s.accepted < max_views → CountsAlone s (record { set = 0 })
