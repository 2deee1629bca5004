-- What printing a state's page answers, and what it leaves in the lent buffer.
use Rattle.std.specs.Prelude.{ℕ, ◌≤◌, ◌<◌, ◌≡◌, true, false, cond, List, [], ◌∷◌, ◌++◌, leb, eqb, length, take, drop}
use Rattle.std.specs.Prelude.{Result, Ok, Err}
use Rattle.day.specs.declared.Day.{Day}
use Rattle.questions.specs.Questions.{Question, question, first_failed}
use Rattle.day.specs.Day.{sound}
use Rattle.refusal.specs.declared.Refusal.{Refusal}
use Rattle.refusal.specs.Refusal.{refusal}
use Rattle.page.specs.Page.{page}
use Rattle.page.specs.Figures.{figures}

-- the page of a state
abbrev pub page_of : Day → List ℕ
page_of s = page (figures s)

-- Is the state sound? Is the lent buffer d at least as long as the page?
abbrev pub page_questions : Day → (d : List ℕ) → List Question
page_questions s d = question 1 (sound s) ∷ question 18 (leb (length (page_of s)) (length d)) ∷ []

-- the number of the first that fails, or 0
unfoldable pub page_question : Day → (d : List ℕ) → ℕ
page_question s d = first_failed (page_questions s d)

unfoldable pub printing : Day → (d : List ℕ) → Result ℕ Refusal
printing s d = cond (eqb (page_question s d) 0) (Ok (length (page_of s))) (Err (refusal (page_question s d)))

-- the buffer afterwards: the page at its front and the later bytes as they were, or all as it was
unfoldable pub printed : Day → (d : List ℕ) → List ℕ
printed s d = cond (eqb (page_question s d) 0) (page_of s ++ drop (length (page_of s)) d) d

-- the number of an answer: that of the question that failed, or 0 where the page was printed
abbrev pub number : Result ℕ Refusal → ℕ
number (Ok n) = 0
number (Err r) = r.question

-- its values
abbrev pub values : Result ℕ Refusal → List ℕ
values (Ok n) = n ∷ []
values (Err r) = r.question ∷ []

-- what they say of printing the page of s into d; and what is answered and left in d, case by case
pub record Tells (s : Day) (d : List ℕ) : Type 0 where
  pub number_is : number (printing s d) ≡ page_question s d
  pub values_are : values (printing s d)
      ≡ cond (eqb (page_question s d) 0) (length (page_of s) ∷ []) (page_question s d ∷ [])
  -- "Is the state sound? No: 1." A refusal leaves the buffer as it was.
  pub unsound : sound s ≡ false → (printing s d ≡ Err (refusal 1)) × (printed s d ≡ d)
  -- "The lent buffer follows question 18."
  pub no_room : sound s ≡ true → length d < length (page_of s) → (printing s d ≡ Err (refusal 18)) × (printed s d ≡ d)
  -- the page fills the front of the buffer and its length is returned; later bytes keep their values
  pub fills : sound s ≡ true → length (page_of s) ≤ length d
      → let n = length (page_of s) in
      (printing s d ≡ Ok n) × (take n (printed s d) ≡ page_of s) × (drop n (printed s d) ≡ drop n d)
