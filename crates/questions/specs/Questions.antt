-- Questions at the door: the first "no", and the questions that need no more of a state than its head.
use Rattle.std.specs.Prelude.{◌≡◌, Bool, cond, List, [], ◌∷◌, ℕ, ◌+◌, leb, ltb, eqb, Result, Ok, Err}
use Rattle.refusal.specs.declared.Refusal.{Refusal}
use Rattle.refusal.specs.Refusal.{refusal}
use Rattle.sets.specs.Set.{size, within}
use Rattle.campaigns.specs.declared.Head.{Head}
use Rattle.campaigns.specs.declared.Plan.{Plan}
use Rattle.campaigns.specs.declared.Terms.{Terms}
use Rattle.campaigns.specs.declared.View.{View}
use Rattle.campaigns.specs.Limits.{max_campaigns, max_budget, max_views}
use Rattle.campaigns.specs.Campaign.{depth_fits, width_fits, power_fits, price_fits, budget_fits}
use Rattle.campaigns.specs.Phase.{is_filling, is_running}
use Rattle.campaigns.specs.View.{unmarked}

-- a question at the door, and whether the answer to it is yes
pub record Question : Type 0 where
  pub asked : ℕ
  pub yes : Bool

abbrev pub question : ℕ → Bool → Question
question n b = record { asked = n; yes = b }

-- the number of the first "no", or 0
unfoldable pub first_failed : List Question → ℕ
first_failed [] = 0
first_failed (q ∷ qs) = cond q.yes (first_failed qs) q.asked

-- that number as what an operation hands back: a refusal, or no value where the call is accepted
abbrev pub verdict : ℕ → Result Unit Refusal
verdict n = cond (eqb n 0) (Ok tt) (Err (refusal n))

-- The same in propositions: n is the number that is given where question q asks for P and the rest is asked behind it;
-- where none is left to ask, the call is accepted.
abbrev pub asks : (q : ℕ) → (P : Type 0) → (rest : ℕ → Type 0) → (n : ℕ) → Type 0
asks q P rest n = (P → rest n) × ((P → ⊥) → n ≡ q)

abbrev pub accepts : (n : ℕ) → Type 0
accepts n = n ≡ 0

-- questions 3 to 5
abbrev pub plan_questions : Plan → List Question
plan_questions pl = question 3 (depth_fits pl) ∷ question 4 (width_fits pl) ∷ question 5 (power_fits pl) ∷ []

-- questions 6 to 10, where the budgets so far sum to b
abbrev pub add_questions : Head → Terms → (b : ℕ) → List Question
add_questions h t b =
    question 6 (is_filling h.phase) ∷ question 7 (ltb h.count max_campaigns) ∷
    question 8 (price_fits t.price) ∷ question 9 (budget_fits t.price t.budget) ∷
    question 10 (leb (b + t.budget) max_budget) ∷ []

-- question 14: are at most d campaigns named
unfoldable pub width_holds : Head → View → Bool
width_holds h w = leb (size w.set) h.plan.width

-- questions 11 to 14; the last is asked of the unpaused names alone
abbrev pub view_questions : Head → View → List Question
view_questions h w =
    question 11 (is_running h.phase) ∷ question 12 (ltb h.accepted max_views) ∷
    question 13 (within h.count w.set) ∷ question 14 (width_holds h (unmarked h.paused w)) ∷ []

-- of a pausing or a resuming of campaign i: 11, then 15
abbrev pub mark_questions : Head → (i : ℕ) → List Question
mark_questions h i = question 11 (is_running h.phase) ∷ question 15 (ltb i h.count) ∷ []
