-- What the day could have earned: the questions of the search and of the check, and what each gives. Beyond question 1
-- only the plan of the state counts: prices, budgets and the number of campaigns. A view is its set of unpaused names.
use Rattle.std.specs.Prelude.{◌≡◌, Bool, true, false, cond, ◌&&◌, List, [], ◌∷◌, ◌↔◌, ℕ, zero, suc, ◌/◌, ◌≤◌, ◌<◌}
use Rattle.std.specs.Prelude.{leb, eqb, length, take}
use Rattle.std.specs.Prelude.{Result, Ok, Err}
use Rattle.finite.specs.Finite.{sum, one_if, every}
use Rattle.sets.specs.Set.{member, within}
use Rattle.campaigns.specs.Campaign.{whole}
use Rattle.day.specs.declared.Day.{Day}
use Rattle.day.specs.Day.{campaign, sound}
use Rattle.questions.specs.Questions.{Question, question, first_failed, asks, accepts}
use Rattle.refusal.specs.declared.Refusal.{Refusal}
use Rattle.refusal.specs.Refusal.{refusal}
use Rattle.allotments.specs.Limits.{max_handed_in}
use Rattle.allotments.specs.Allotment.{at, Allotment, brings, takings, Greatest, Certified, certified}
use Rattle.allotments.specs.Most.{most}
use Rattle.matching.specs.Method.{ByFallingPrice}

-- the plan of a state: its prices and whole plays
abbrev pub plan_price : Day → ℕ → ℕ
plan_price s i = (campaign s i).price

abbrev pub plan_whole : Day → ℕ → ℕ
plan_whole s i = whole (campaign s i)

-- so it is of every state, whatever its phase and counts: whole plays are budget / price rounded down
abbrev pub PlanIs : Type 0
PlanIs =
    (s : Day) (i : ℕ)
    → (plan_price s i ≡ (campaign s i).price) × (plan_whole s i ≡ (campaign s i).budget / (campaign s i).price)

-- the questions, where entries are lent for an allotment, for campaign figures and for view figures
abbrev pub questions : Day → (views : List ℕ) → (for_allotment for_campaigns for_views : ℕ) → List Question
questions s views a c v =
    question 1 (sound s) ∷ question 19 (leb (length views) max_handed_in) ∷
    question 13 (every (length views) (λ j. within s.count (at views j))) ∷
    question 18 (leb (length views) a && leb s.count c && leb (length views) v) ∷ []

-- the number of the first that fails, or 0
unfoldable pub failed : Day → (views allotment surplus worth : List ℕ) → ℕ
failed s views allotment surplus worth =
    first_failed (questions s views (length allotment) (length surplus) (length worth))

-- the same in request 4's words, whatever the phase: 1, then 19, then 13, then the rest
abbrev pub search_door : Day → (views : List ℕ) → (rest : ℕ → Type 0) → (n : ℕ) → Type 0
search_door s views rest =
    asks 1 (sound s ≡ true)
    (asks 19 (length views ≤ 256)
    (asks 13 ((j : ℕ) → j < length views → (i : ℕ) → i < 64 → member (at views j) i ≡ true → i < s.count) rest))

-- which is 18
abbrev pub SearchAsks : Type 0
SearchAsks = (s : Day) (views allotment surplus worth : List ℕ)
    → search_door s views
    (asks 18 (((length views ≤ length allotment) × (s.count ≤ length surplus)) × (length views ≤ length worth))
    accepts) (failed s views allotment surplus worth)

-- an allotment with figures that fit it: `surplus` has the campaign figures and `worth` the view figures
abbrev pub Fits : Day → (views allotment surplus worth : List ℕ) → Type 0
Fits s views allotment surplus worth = Certified s.count (plan_price s) (plan_whole s) (length views) (at views)
    (at allotment) (at surplus) (at worth)

unfoldable pub fits : Day → (views allotment surplus worth : List ℕ) → Bool
fits s views allotment surplus worth = certified s.count (plan_price s) (plan_whole s) (length views) (at views)
    (at allotment) (at surplus) (at worth)

-- the greatest takings, as a number, and those of an allotment of m views
abbrev pub most_of : Day → (views : List ℕ) → ℕ
most_of s views = most s.count (plan_price s) (plan_whole s) (length views) (at views)

abbrev pub allotment_takings : Day → (m : ℕ) (allotment : List ℕ) → ℕ
allotment_takings s m allotment = takings s.count (plan_price s) m (at allotment)

-- an answer with takings: its number, that of the question that failed or 0, and its values
abbrev pub number : Result ℕ Refusal → ℕ
number (Err r) = r.question
number (Ok t) = 0

abbrev pub values : Result ℕ Refusal → List ℕ
values (Err r) = r.question ∷ []
values (Ok t) = t ∷ []

-- the answer, from the number of the question that failed
abbrev pub answer_of : (question takings : ℕ) → Result ℕ Refusal
answer_of zero t = Ok t
answer_of (suc q) t = Err (refusal (suc q))

-- that of the search
abbrev pub search_answer : Day → (views allotment surplus worth : List ℕ) → Result ℕ Refusal
search_answer s views allotment surplus worth = answer_of (failed s views allotment surplus worth) (most_of s views)

-- what the search leaves in a lent list: as many entries, as they were where a question failed, else from n on
pub record LeftAsItWas (question n : ℕ) (before after : List ℕ) : Type 0 where
  pub same_length : length after ≡ length before
  pub refused : (question ≡ 0 → ⊥) → after ≡ before
  pub beyond : (j : ℕ) → n ≤ j → at after j ≡ at before j

-- The search. Its answer is determined. Which of several greatest allotments it leaves is free, and so are the figures
-- that fit it: they fit, whatever comes out. The allotment is made by serving campaigns in falling price, until none is
-- left unserved.
pub record Searched (s : Day) (views allotment allotment' surplus surplus' worth worth' : List ℕ) (r : Result ℕ Refusal)
    : Type 0 where
  pub answer : r ≡ search_answer s views allotment surplus worth
  pub fit : failed s views allotment surplus worth ≡ 0 → fits s views allotment' surplus' worth' ≡ true
  pub method : failed s views allotment surplus worth ≡ 0
      → ByFallingPrice s.count (plan_price s) (plan_whole s) views allotment' 0
  pub in_allotment : LeftAsItWas (failed s views allotment surplus worth) (length views) allotment allotment'
  pub in_surplus : LeftAsItWas (failed s views allotment surplus worth) s.count surplus surplus'
  pub in_worth : LeftAsItWas (failed s views allotment surplus worth) (length views) worth worth'

-- the takings of an allotment, one entry for each view, whichever they are: questions 1 and 19 alone are asked
abbrev pub takings_questions : Day → (allotment : List ℕ) → List Question
takings_questions s allotment = question 1 (sound s) ∷ question 19 (leb (length allotment) max_handed_in) ∷ []

unfoldable pub takings_answer : Day → (allotment : List ℕ) → Result ℕ Refusal
takings_answer s allotment =
    answer_of (first_failed (takings_questions s allotment)) (allotment_takings s (length allotment) allotment)

-- in request 4's words: 1, then 19; else each entry that names a campaign brings its price, also beyond its whole plays
pub record TellsTakings (s : Day) (allotment : List ℕ) (r : Result ℕ Refusal) : Type 0 where
  pub asked : asks 1 (sound s ≡ true) (asks 19 (length allotment ≤ 256) accepts) (number r)
  pub answered : number r ≡ 0
      → r ≡ Ok (sum (length allotment) (λ j. brings s.count (plan_price s) (at allotment j)))

abbrev pub AlwaysTellsTakings : Type 0
AlwaysTellsTakings = (s : Day) (allotment : List ℕ) → TellsTakings s allotment (takings_answer s allotment)

-- the check's answer: its number, as above, and its values, 1 where it accepts
abbrev pub verdict_number : Result Bool Refusal → ℕ
verdict_number (Err e) = e.question
verdict_number (Ok accepted) = 0

abbrev pub verdict_values : Result Bool Refusal → List ℕ
verdict_values (Err e) = e.question ∷ []
verdict_values (Ok true) = 1 ∷ []
verdict_values (Ok false) = 0 ∷ []

abbrev pub verdict_of : (question : ℕ) → Bool → Result Bool Refusal
verdict_of zero b = Ok b
verdict_of (suc q) b = Err (refusal (suc q))

abbrev pub checked : Day → (views allotment surplus worth : List ℕ) → Result Bool Refusal
checked s views allotment surplus worth =
    verdict_of (failed s views allotment surplus worth) (fits s views allotment surplus worth)

-- the check accepts exactly the allotments with figures that fit them
abbrev pub AcceptsExactly : Type 0
AcceptsExactly = (s : Day) (views allotment surplus worth : List ℕ)
    → (checked s views allotment surplus worth ≡ Ok true)
    ↔ ((failed s views allotment surplus worth ≡ 0) × Fits s views allotment surplus worth)

-- what it accepts is an allotment that none exceeds, and its takings are the most
pub record BestAllotment (s : Day) (views allotment : List ℕ) : Type 0 where
  pub allotted : Allotment s.count (plan_whole s) (length views) (at views) (at allotment)
  pub greatest : Greatest s.count (plan_price s) (plan_whole s) (length views) (at views) (at allotment)
  pub takes_most : allotment_takings s (length views) allotment ≡ most_of s views

abbrev pub AcceptedIsBest : Type 0
AcceptedIsBest = (s : Day) (views allotment surplus worth : List ℕ)
    → checked s views allotment surplus worth ≡ Ok true → BestAllotment s views allotment

-- and it accepts what the search leaves
abbrev pub SearchAccepted : Type 0
SearchAccepted = (s : Day) (views allotment allotment' surplus surplus' worth worth' : List ℕ) (r : Result ℕ Refusal)
    → Searched s views allotment allotment' surplus surplus' worth worth' r
    → failed s views allotment surplus worth ≡ 0 → checked s views allotment' surplus' worth' ≡ Ok true

-- whose takings are its answer
abbrev pub SearchTaken : Type 0
SearchTaken = (s : Day) (views allotment allotment' surplus surplus' worth worth' : List ℕ) (r : Result ℕ Refusal)
    → Searched s views allotment allotment' surplus surplus' worth worth' r
    → failed s views allotment surplus worth ≡ 0 → takings_answer s (take (length views) allotment') ≡ r

-- and which is made by serving campaigns in falling price
abbrev pub SearchByMethod : Type 0
SearchByMethod = (s : Day) (views allotment allotment' surplus surplus' worth worth' : List ℕ) (r : Result ℕ Refusal)
    → Searched s views allotment allotment' surplus surplus' worth worth' r
    → failed s views allotment surplus worth ≡ 0
    → ByFallingPrice s.count (plan_price s) (plan_whole s) views allotment' 0

-- the number and the values of the two answers
pub record Tells (s : Day) (views allotment surplus worth : List ℕ) : Type 0 where
  pub search_number : number (search_answer s views allotment surplus worth) ≡ failed s views allotment surplus worth
  pub search_values : values (search_answer s views allotment surplus worth)
      ≡ let q = failed s views allotment surplus worth in cond (eqb q 0) (most_of s views ∷ []) (q ∷ [])
  pub check_number : verdict_number (checked s views allotment surplus worth) ≡ failed s views allotment surplus worth
  pub check_values : verdict_values (checked s views allotment surplus worth)
      ≡ let q = failed s views allotment surplus worth in
      cond (eqb q 0) (one_if (fits s views allotment surplus worth) ∷ []) (q ∷ [])

abbrev pub AlwaysTells : Type 0
AlwaysTells = (s : Day) (views allotment surplus worth : List ℕ) → Tells s views allotment surplus worth
