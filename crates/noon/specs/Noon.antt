-- The figures that an owner can compare at noon, or at any other moment of a day (document 02, request 1).
use Rattle.std.specs.Prelude.{◌≡◌, true, cond, List, [], ◌∷◌, ◌↔◌, ℕ, zero, suc, ◌-◌, ◌^◌, ◌*◌, ◌/◌, ◌≤◌, min, eqb}
use Rattle.std.specs.Prelude.{Result, Ok, Err}
use Rattle.finite.specs.Finite.{sum}
use Rattle.powers.specs.Power.{share}
use Rattle.campaigns.specs.declared.Campaign.{Campaign}
use Rattle.campaigns.specs.Campaign.{whole}
use Rattle.campaigns.specs.View.{full}
use Rattle.day.specs.declared.Day.{Day}
use Rattle.day.specs.Day.{campaign, total_takings, total_claim, sound}
use Rattle.questions.specs.Questions.{Question, question, first_failed, asks, accepts}
use Rattle.refusal.specs.declared.Refusal.{Refusal}
use Rattle.refusal.specs.Refusal.{refusal}
use Rattle.noon.specs.declared.Figures.{Figures}

-- what is due: the smaller of whole plays and named / depth rounded down
abbrev pub due_plays : (depth wholes named : ℕ) → ℕ
due_plays k w n = min w (n / k)

-- that is the most plays that the whole plays allow and for each of which the campaign was named depth times
abbrev pub DueIsMost : Type 0
DueIsMost = (k w n m : ℕ) → 1 ≤ k → (m ≤ due_plays k w n) ↔ ((m ≤ w) × (m * k ≤ n))

-- what is due to a campaign at depth k, by its record
unfoldable pub due : (k : ℕ) → Campaign → ℕ
due k c = due_plays k (whole c) c.named

-- the sum, over campaigns, of price × what is due
unfoldable pub total_due : Day → ℕ
total_due s = sum s.count (λ i. (campaign s i).price * due s.plan.depth (campaign s i))

-- the floor's figure: (d^k − (d−1)^k) times that sum
abbrev pub floor_figure : Day → ℕ
floor_figure s = share s.plan.depth s.plan.width * total_due s

-- the same in plain powers and divisions
abbrev pub FloorFigureIs : Type 0
FloorFigureIs =
    (s : Day) → let k = s.plan.depth in let d = s.plan.width in
    floor_figure s ≡ (d ^ k - (d - 1) ^ k)
    * sum s.count (λ i. let c = campaign s i in c.price * min (c.budget / c.price) (c.named / k))

-- the number of an answer, 0 where it is accepted, and its values
abbrev pub number : Result Figures Refusal → ℕ
number (Err r) = r.question
number (Ok f) = 0

abbrev pub values : Result Figures Refusal → List ℕ
values (Err r) = r.question ∷ []
values (Ok f) = f.full ∷ f.claim ∷ f.floor ∷ []

-- is the state sound; no more is asked
abbrev pub noon_questions : Day → List Question
noon_questions s = question 1 (sound s) ∷ []

-- the question that failed, or x where none did
abbrev pub refused_or : ℕ → Result Figures Refusal → Result Figures Refusal
refused_or zero x = x
refused_or (suc q) x = Err (refusal (suc q))

-- full, the total claim and the floor's figure
abbrev pub figures : (x c f : ℕ) → Figures
figures x c f = record { full = x; claim = c; floor = f }

abbrev pub figures_of : Day → Figures
figures_of s = figures (full s.plan (total_takings s)) (total_claim s) (floor_figure s)

unfoldable pub at_noon : Day → Result Figures Refusal
at_noon s = refused_or (first_failed (noon_questions s)) (Ok (figures_of s))

pub record Tells (s : Day) : Type 0 where
  pub number_is : number (at_noon s) ≡ first_failed (noon_questions s)
  -- that of the question in words
  pub asked : asks 1 (sound s ≡ true) accepts (number (at_noon s))
  pub values_are : values (at_noon s)
      ≡ let q = number (at_noon s) in
      cond (eqb q 0) (full s.plan (total_takings s) ∷ total_claim s ∷ floor_figure s ∷ []) (q ∷ [])

abbrev pub AlwaysTells : Type 0
AlwaysTells = (s : Day) → Tells s
