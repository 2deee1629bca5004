-- Demand 2's lines: "Every record whose numbers lie in document 01's ranges has exactly one line of text, and that line
-- reads back as that record; other text is refused."
use Rattle.std.specs.Prelude.{ℕ, ◌≤◌, ◌<◌, ◌≡◌, true, List, [], ◌∷◌, get_or, length, Result, Ok, Err}
use Rattle.lines.specs.Limits.{max_line, max_answer}
use Rattle.lines.specs.Form.{is_output, numbers, text, in_range}
use Rattle.lines.specs.Reading.{reading}
use Rattle.lines.specs.declared.Record.{Record}
use Rattle.refusal.specs.declared.Refusal.{Refusal}

-- the number of a reading: that of the question that failed, or 0 where a record was read
abbrev pub number : Result Record Refusal → ℕ
number (Ok r) = 0
number (Err e) = e.question

-- its values, in the order in which the line gives them
abbrev pub values : Result Record Refusal → List ℕ
values (Ok r) = numbers r
values (Err e) = e.question ∷ []

-- l is the text of r, whose numbers are in their ranges
abbrev pub Is : List ℕ → Record → Type 0
Is l r = (in_range r ≡ true) × (l ≡ text r)

-- what the number and the values of its reading say of a line
pub data Says (l : List ℕ) : ℕ → List ℕ → Type 0 where
  a_text : (r : Record) → Is l r → Says l 0 (numbers r)
  too_long : max_line < length l → Says l 16 (16 ∷ [])
  no_text : length l ≤ max_line → ((r : Record) → Is l r → ⊥) → Says l 17 (17 ∷ [])

pub record OneText : Type 0 where
  pub most : (r : Record) → length (text r) ≤ max_line
  pub most_answer : (r : Record) → is_output r ≡ true → length (text r) ≤ max_answer
  -- no byte of a text is 10, the byte that ends a line
  pub plain : (r : Record) (i : ℕ) → get_or (text r) i 0 ≡ 10 → ⊥
  pub reads : (r : Record) → in_range r ≡ true → reading (text r) ≡ Ok r
  pub is_read : (l : List ℕ) (r : Record) → reading l ≡ Ok r → Is l r
  pub text_once : (r s : Record) → in_range r ≡ true → in_range s ≡ true → text r ≡ text s → r ≡ s
  pub record_once : (l m : List ℕ) (r : Record) → reading l ≡ Ok r → reading m ≡ Ok r → l ≡ m
  pub says : (l : List ℕ) → Says l (number (reading l)) (values (reading l))
