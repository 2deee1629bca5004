-- What is written as words reads back, and no two answers are told alike.
use Rattle.std.specs.Prelude.{◌≡◌, true, List, [], ◌∷◌, ◌++◌, ℕ}
use Rattle.campaigns.specs.declared.Head.{Head}
use Rattle.day.specs.declared.Answer.{Answer}
use Rattle.day.specs.Calls.{number}
use Rattle.lines.specs.declared.Record.{Record}
use Rattle.lines.specs.Form.{numbers}
use Rattle.encoding.specs.Encoding.{is_head, head_in, head_words, answer_after, form_of, is_form, record_of}
use Rattle.encoding.specs.Encoding.{record_words}

-- seven words
abbrev pub seven : (a b c d e f g : ℕ) → List ℕ
seven a b c d e f g = a ∷ b ∷ c ∷ d ∷ e ∷ f ∷ g ∷ []

pub record Faithful : Type 0 where
  -- a head's words are a head's and give it back; seven words that are a head are the words of the head that they give
  pub head_is : (h : Head) → is_head (head_words h) ≡ true
  pub head_back : (h : Head) → head_in (head_words h) ≡ h
  pub words_back : (a b c d e f g : ℕ) → is_head (seven a b c d e f g) ≡ true
      → head_words (head_in (seven a b c d e f g)) ≡ seven a b c d e f g
  -- two answers with one status and the same effect on the words are one answer
  pub answer_once : (a b : Answer) → number a ≡ number b → ((w : List ℕ) → answer_after a w ≡ answer_after b w) → a ≡ b
  -- a record's words are a record's and give it back, whatever stands behind its numbers
  pub form_is : (r : Record) → is_form (record_words r) ≡ true
  pub record_back : (r : Record) → record_of (record_words r) ≡ r
  pub rest_ignored : (r : Record) (rest : List ℕ) → record_of (form_of r ∷ (numbers r ++ rest)) ≡ r
