-- Request 4's questions and check by cases: campaign 0 of price 5 and two plays, campaign 1 of price 3 and one play.
use Rattle.std.specs.Prelude.{◌≡◌, Bool, true, false, List, [], ◌∷◌, map, ℕ, get_or, replicate, Result, Ok, Err}
use Rattle.refusal.specs.declared.Refusal.{Refusal}
use Rattle.refusal.specs.Refusal.{refusal}
use Rattle.campaigns.specs.declared.Phase.{Phase}
use Rattle.campaigns.specs.declared.Phase.TheVariants.{Filling, Running, Closed}
use Rattle.campaigns.specs.Campaign.{fresh}
use Rattle.day.specs.declared.Day.{Day}
use Rattle.day.specs.Day.{state_with, no_terms}
use Rattle.allotments.specs.Allotment.{nobody}
use Rattle.optimum.specs.Optimum.{number, search_answer, takings_answer, verdict_number, checked}

-- the two campaigns, in a phase, with zero counts but the accepted views: 0 is sound, 4,097 is not
abbrev pub two_campaigns : Phase → (accepted : ℕ) → Day
two_campaigns p a = state_with
    (record { phase = p; plan = record { depth = 2; width = 2 }; count = 2; accepted = a; paused = 0 })
    (λ i. fresh (get_or (record { price = 5; budget = 10 } ∷ record { price = 3; budget = 3 } ∷ []) i no_terms))

-- the question that fails first, or 0, where so many entries, each 0, are lent for an allotment, for campaign figures
-- and for view figures
pub record Asking : Type 0 where
  pub accepted : ℕ
  pub views : List ℕ
  pub for_allotment : ℕ
  pub for_campaigns : ℕ
  pub for_views : ℕ
  pub question : ℕ

abbrev pub case : (accepted : ℕ) (views : List ℕ) (for_allotment for_campaigns for_views question : ℕ) → Asking
case n views a c v q = record {
  accepted = n;
  views = views;
  for_allotment = a;
  for_campaigns = c;
  for_views = v;
  question = q;
}

-- the numbers of the answers of the check and of the search
abbrev pub check_number : Phase → Asking → ℕ
check_number p x = verdict_number (checked (two_campaigns p x.accepted) x.views (replicate x.for_allotment 0)
    (replicate x.for_campaigns 0) (replicate x.for_views 0))

abbrev pub search_number : Phase → Asking → ℕ
search_number p x = number (search_answer (two_campaigns p x.accepted) x.views (replicate x.for_allotment 0)
    (replicate x.for_campaigns 0) (replicate x.for_views 0))

-- view 3 names both campaigns, view 4 one outside the plan
abbrev pub askings : List Asking
askings =
    -- none fails, also with entries beyond, and with no view
    case 0 (3 ∷ []) 1 2 1 0 ∷ case 0 (3 ∷ []) 5 64 9 0 ∷ case 0 [] 0 2 0 0 ∷
    -- each alone: 1, 13, and 18 of each of the three lists
    case 4_097 (3 ∷ []) 1 2 1 1 ∷ case 0 (3 ∷ 4 ∷ []) 2 2 2 13 ∷
    case 0 (3 ∷ []) 0 2 1 18 ∷ case 0 (3 ∷ []) 1 1 1 18 ∷ case 0 (3 ∷ []) 1 2 0 18 ∷
    -- their order: 1 before 13 before 18
    case 4_097 (4 ∷ []) 0 0 0 1 ∷ case 0 (4 ∷ []) 0 0 0 13 ∷ case 0 (3 ∷ []) 0 0 0 18 ∷ []

-- 256 views are taken, one more gives 19, whatever count the state holds; it is asked after 1 and before 13 and 18
abbrev pub askings_of_many : List Asking
askings_of_many =
    case 0 (replicate 256 3) 256 2 256 0 ∷ case 0 (replicate 257 3) 257 2 257 19 ∷
    case 4_096 (replicate 257 4) 0 0 0 19 ∷ case 4_097 (replicate 257 4) 0 0 0 1 ∷ []

-- a triple and what the check answers
pub record Checking : Type 0 where
  pub allotment : List ℕ
  pub surplus : List ℕ
  pub worth : List ℕ
  pub answer : Result Bool Refusal

abbrev pub checking : (allotment surplus worth : List ℕ) → Result Bool Refusal → Checking
checking allotment surplus worth v = record { allotment = allotment; surplus = surplus; worth = worth; answer = v }

abbrev pub checked_in : Phase → (views : List ℕ) → Checking → Result Bool Refusal
checked_in p views x = checked (two_campaigns p 0) views x.allotment x.surplus x.worth

-- four views: two name both campaigns, two name 0 alone
abbrev pub four_views : List ℕ
four_views = 3 ∷ 3 ∷ 1 ∷ 1 ∷ []

abbrev pub checkings : List Checking
checkings =
    -- 10 + 3 for the campaigns' plays, which is what the allotment takes; and another allotment that they fit
    checking (0 ∷ 1 ∷ 0 ∷ nobody ∷ []) (5 ∷ 3 ∷ []) (0 ∷ 0 ∷ 0 ∷ 0 ∷ []) (Ok true) ∷
    checking (1 ∷ nobody ∷ 0 ∷ 0 ∷ []) (5 ∷ 3 ∷ []) (0 ∷ 0 ∷ 0 ∷ 0 ∷ []) (Ok true) ∷
    -- view 0 names campaign 1, of price 3, whose figures are 0 and 0
    checking (0 ∷ 1 ∷ 0 ∷ nobody ∷ []) (5 ∷ 0 ∷ []) (0 ∷ 3 ∷ 0 ∷ 0 ∷ []) (Ok false) ∷
    -- the figures sum to 14
    checking (0 ∷ 1 ∷ 0 ∷ nobody ∷ []) (5 ∷ 3 ∷ []) (1 ∷ 0 ∷ 0 ∷ 0 ∷ []) (Ok false) ∷
    -- campaign 0 gets three views, and its whole plays are two
    checking (0 ∷ 0 ∷ 0 ∷ nobody ∷ []) (5 ∷ 3 ∷ []) (2 ∷ 0 ∷ 0 ∷ 0 ∷ []) (Ok false) ∷
    -- the last view does not name campaign 1
    checking (0 ∷ 0 ∷ nobody ∷ 1 ∷ []) (5 ∷ 3 ∷ []) (0 ∷ 0 ∷ 0 ∷ 0 ∷ []) (Ok false) ∷
    -- 128 is no campaign, and nobody is 64 alone
    checking (0 ∷ 1 ∷ 0 ∷ 128 ∷ []) (5 ∷ 3 ∷ []) (0 ∷ 0 ∷ 0 ∷ 0 ∷ []) (Ok false) ∷
    -- a question is asked first
    checking (0 ∷ 1 ∷ 0 ∷ []) (5 ∷ 3 ∷ []) (0 ∷ 0 ∷ 0 ∷ 0 ∷ []) (Err (refusal 18)) ∷ []

-- one view, which names 0 alone
abbrev pub checkings_of_one : List Checking
checkings_of_one =
    -- 5 for the view, which is what the allotment takes
    checking (0 ∷ []) (0 ∷ 0 ∷ []) (5 ∷ []) (Ok true) ∷
    -- 10 for both plays of campaign 0, though only one view is there to play
    checking (0 ∷ []) (5 ∷ 0 ∷ []) (0 ∷ []) (Ok false) ∷ []

-- f gives a in every phase
abbrev pub phases : List Phase
phases = Filling ∷ Running ∷ Closed 0 ∷ []

abbrev pub InEachPhase : {A : Type 0} → (Phase → A) → A → Type 0
InEachPhase f a = map f phases ≡ map (λ p. a) phases

-- the search of the four views takes 13, and the takings of an allotment are its prices
pub record Examples : Type 0 where
  pub check_numbers : InEachPhase (λ p. map (check_number p) askings) (map (λ x. x.question) askings)
  pub search_numbers : InEachPhase (λ p. map (search_number p) askings) (map (λ x. x.question) askings)
  pub all_checked : InEachPhase (λ p. map (checked_in p four_views) checkings) (map (λ x. x.answer) checkings)
  pub one_checked : InEachPhase
      (λ p. map (checked_in p (1 ∷ [])) checkings_of_one)
      (map (λ x. x.answer) checkings_of_one)
  pub searched : InEachPhase
      (λ p. search_answer (two_campaigns p 0) four_views (replicate 4 0) (replicate 2 0) (replicate 4 0))
      (Ok 13)
  pub taken : InEachPhase (λ p. takings_answer (two_campaigns p 0) (0 ∷ nobody ∷ 1 ∷ 0 ∷ [])) (Ok 13)
  -- no allotment: three entries for campaign 0, which has two plays, and one that names no campaign
  pub taken_beyond : InEachPhase (λ p. takings_answer (two_campaigns p 0) (0 ∷ 0 ∷ 0 ∷ 7 ∷ [])) (Ok 15)
  pub taken_not_sound : InEachPhase (λ p. takings_answer (two_campaigns p 4_097) (0 ∷ [])) (Err (refusal 1))
  pub many : map (check_number Running) askings_of_many ≡ map (λ x. x.question) askings_of_many
  pub takings_of_many : takings_answer (two_campaigns Running 0) (replicate 257 0) ≡ Err (refusal 19)
