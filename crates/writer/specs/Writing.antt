-- What writing a record answers, and what it leaves in the lent buffer.
use Rattle.std.specs.Prelude.{ℕ, ◌≤◌, ◌<◌, ◌≡◌, true, false, cond, List, [], ◌∷◌, ◌++◌, leb, eqb, length, take, drop}
use Rattle.std.specs.Prelude.{Result, Ok, Err}
use Rattle.lines.specs.Form.{text, in_range}
use Rattle.lines.specs.declared.Record.{Record}
use Rattle.refusal.specs.declared.Refusal.{Refusal}
use Rattle.refusal.specs.Refusal.{refusal}

-- a record's line, with its byte 10
unfoldable pub line : Record → List ℕ
line r = text r ++ (10 ∷ [])

-- the first question that fails, or 0: is every number in its range, and is the buffer d as long as the line
unfoldable pub write_question : Record → List ℕ → ℕ
write_question r d = cond (in_range r) (cond (leb (length (line r)) (length d)) 0 18) 17

unfoldable pub writing : Record → List ℕ → Result ℕ Refusal
writing r d = cond (eqb (write_question r d) 0) (Ok (length (line r))) (Err (refusal (write_question r d)))

-- the buffer afterwards: the line at its front and the later bytes as they were, or all as it was
unfoldable pub written : Record → List ℕ → List ℕ
written r d = cond (eqb (write_question r d) 0) (line r ++ drop (length (line r)) d) d

-- the number of an answer: that of the question that failed, or 0 where the line was written
abbrev pub number : Result ℕ Refusal → ℕ
number (Ok n) = 0
number (Err e) = e.question

-- its values
abbrev pub values : Result ℕ Refusal → List ℕ
values (Ok n) = n ∷ []
values (Err e) = e.question ∷ []

-- what they say of writing r into d; and what is answered and left in d, case by case
pub record Tells (r : Record) (d : List ℕ) : Type 0 where
  pub number_is : number (writing r d) ≡ write_question r d
  pub values_are : values (writing r d)
      ≡ cond (eqb (write_question r d) 0) (length (line r) ∷ []) (write_question r d ∷ [])
  -- "Is every number of the record in its range below? No: 17." A refusal leaves the buffer as it was.
  pub out_of_range : in_range r ≡ false → (writing r d ≡ Err (refusal 17)) × (written r d ≡ d)
  -- "Is the lent buffer at least as long as the line with its byte 10? No: 18."
  pub no_room : in_range r ≡ true → length d < length (text r ++ (10 ∷ []))
      → (writing r d ≡ Err (refusal 18)) × (written r d ≡ d)
  -- "A written line fills the front of the buffer and its length is returned; later bytes keep their values."
  pub fills : in_range r ≡ true
      → let l = text r ++ (10 ∷ []) in length l ≤ length d
      → (writing r d ≡ Ok (length l)) × (take (length l) (written r d) ≡ l)
      × (drop (length l) (written r d) ≡ drop (length l) d)

abbrev pub AlwaysTells : Type 0
AlwaysTells = (r : Record) (d : List ℕ) → Tells r d
