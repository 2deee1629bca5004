-- `reads` turns what the code found of a form, field by field, into what holding the line to the form's template gives:
-- a template is its first word, its first slot and the rest, and a line held to it is held to these in turn.
use mathlib.Core.Path.{◌≡◌, refl, sym, ap, ap₂, ◌∙◌}
use mathlib.Core.Bool.{Bool, true, false, cond, ◌||◌}
use mathlib.Core.List.{List, [], ◌∷◌}
use Prim.Native.Nat.{ℕ}
use Rattle.std.specs.Prelude.{Result, Err}
use Rattle.refusal.specs.declared.Refusal.{Refusal}
use Rattle.refusal.specs.Refusal.{refusal}
use Rattle.lines.specs.declared.Record.{Record}
use Rattle.lines.specs.Form.{is_slot, template}
use Rattle.lines.specs.Reading.{Rest, none, some, Seen, value, behind, slot_at, strip, step, rest_of, slot_then}
use Rattle.lines.specs.Reading.{numbers_of, made, ended_or, held_or}
use Rattle.lines.specs.Cited.{stripped}
use Rattle.lines.proofs.Digits.{apart}

-- Whether a template has a slot; the word before its first, that slot, and what follows it.

abbrev pub has_slot : List ℕ → Bool
has_slot [] = false
has_slot (b ∷ t) = is_slot b || has_slot t

abbrev pub first_word : List ℕ → List ℕ
first_word [] = []
first_word (b ∷ t) = cond (is_slot b) [] (b ∷ first_word t)

abbrev pub first_slot : List ℕ → ℕ
first_slot [] = 0
first_slot (b ∷ t) = cond (is_slot b) b (first_slot t)

abbrev pub behind_slot : List ℕ → List ℕ
behind_slot [] = []
behind_slot (b ∷ t) = cond (is_slot b) t (behind_slot t)

-- a template without a slot is a word
rest_word : (t : List ℕ) (r : Rest) → has_slot t ≡ false → rest_of t r ≡ stripped t r
unfolding rest_of step stripped
rest_word [] r h = refl
rest_word (b ∷ t) r h = go (is_slot b) h (rest_word t (strip b r))
  where
    go : (x : Bool) → (x || has_slot t) ≡ false → (has_slot t ≡ false → rest_of t (strip b r) ≡ stripped t (strip b r))
        → rest_of t (cond x (behind (slot_at b r)) (strip b r)) ≡ stripped t (strip b r)
    go true h ih = apart (sym h)
    go false h ih = ih h

numbers_word : (t : List ℕ) (r : Rest) → has_slot t ≡ false → numbers_of t r ≡ []
unfolding numbers_of step
numbers_word [] r h = refl
numbers_word (b ∷ t) r h = go (is_slot b) h (numbers_word t (strip b r))
  where
    go : (x : Bool) → (x || has_slot t) ≡ false → (has_slot t ≡ false → numbers_of t (strip b r) ≡ [])
        → slot_then x (value (slot_at b r)) (numbers_of t (cond x (behind (slot_at b r)) (strip b r))) ≡ []
    go true h ih = apart (sym h)
    go false h ih = ih h

-- where nothing was found, nothing is left
rest_none : (t : List ℕ) → rest_of t none ≡ none
unfolding rest_of step slot_at strip
rest_none [] = refl
rest_none (b ∷ t) = go (is_slot b) (rest_none t)
  where
    go : (x : Bool) → rest_of t none ≡ none → rest_of t (cond x none none) ≡ none
    go true ih = ih
    go false ih = ih

-- the first slot of a template, where r is held to it
abbrev seen_first : List ℕ → Rest → Rest
seen_first t r = behind (slot_at (first_slot t) (stripped (first_word t) r))

rest_field : (t : List ℕ) (r : Rest) → has_slot t ≡ true → rest_of t r ≡ rest_of (behind_slot t) (seen_first t r)
unfolding rest_of step stripped
rest_field [] r h = apart h
rest_field (b ∷ t) r h = go (is_slot b) h (rest_field t (strip b r))
  where
    go : (x : Bool) → (x || has_slot t) ≡ true
        → (has_slot t ≡ true → rest_of t (strip b r) ≡ rest_of (behind_slot t) (seen_first t (strip b r)))
        → rest_of t (cond x (behind (slot_at b r)) (strip b r))
        ≡ rest_of (cond x t (behind_slot t))
        (behind (slot_at (cond x b (first_slot t)) (stripped (cond x [] (b ∷ first_word t)) r)))
    go true h ih = refl
    go false h ih = ih h

numbers_field : (t : List ℕ) (r : Rest) → has_slot t ≡ true
    → numbers_of t r
    ≡ value (slot_at (first_slot t) (stripped (first_word t) r)) ∷ numbers_of (behind_slot t) (seen_first t r)
unfolding numbers_of step stripped
numbers_field [] r h = apart h
numbers_field (b ∷ t) r h = go (is_slot b) h (numbers_field t (strip b r))
  where
    go : (x : Bool) → (x || has_slot t) ≡ true
        → (has_slot t ≡ true → numbers_of t (strip b r)
        ≡ value (slot_at (first_slot t) (stripped (first_word t) (strip b r)))
        ∷ numbers_of (behind_slot t) (seen_first t (strip b r)))
        → slot_then x (value (slot_at b r)) (numbers_of t (cond x (behind (slot_at b r)) (strip b r)))
        ≡ value (slot_at (cond x b (first_slot t)) (stripped (cond x [] (b ∷ first_word t)) r))
        ∷ numbers_of (cond x t (behind_slot t))
        (behind (slot_at (cond x b (first_slot t)) (stripped (cond x [] (b ∷ first_word t)) r)))
    go true h ih = refl
    go false h ih = ih h

-- What is left of a line, r, was read by the template t: a field for each slot, and then the last word; or no further
-- than where nothing was found. The numbers are ns, and what is left then is a.
pub data Scanned : List ℕ → Rest → List ℕ → Rest → Type 0 where
  last_word : {t : List ℕ} {r : Rest} → has_slot t ≡ false → Scanned t r [] (stripped t r)
  field : {t : List ℕ} {r a : Rest} {ns : List ℕ} {x : Seen} → has_slot t ≡ true
      → x ≡ slot_at (first_slot t) (stripped (first_word t) r)
      → Scanned (behind_slot t) (behind x) ns a → Scanned t r (value x ∷ ns) a
  missing : {t : List ℕ} → Scanned t none (numbers_of t none) none

scanned_is : {t : List ℕ} {r a : Rest} {ns : List ℕ} → Scanned t r ns a → (rest_of t r ≡ a) × (numbers_of t r ≡ ns)
scanned_is (last_word {t} {r} h) = (rest_word t r h, numbers_word t r h)
scanned_is (field {t} {r} {a} {ns} {x} h s k) =
    let i = scanned_is k in (
      rest_field t r h ∙ ap (λ (y : Seen). rest_of (behind_slot t) (behind y)) (sym s) ∙ i.0,
      numbers_field t r h
          ∙ ap (λ (y : Seen). value y ∷ numbers_of (behind_slot t) (behind y)) (sym s)
          ∙ ap (λ (m : List ℕ). value x ∷ m) i.1,
    )
scanned_is (missing {t}) = (rest_none t, refl)

-- what was read by the form's template and ended in v is what holding the line to the form gives
pub reads : (f : Record) {l : List ℕ} {ns : List ℕ} {a : Rest} {v : Result Record Refusal}
    → Scanned (template f) (some l) ns a → v ≡ ended_or (Err (refusal 17)) a (made f ns)
    → v ≡ held_or (Err (refusal 17)) f l
unfolding held_or
reads f s e =
    let i = scanned_is s in
    e ∙ ap₂ (λ (x : Rest) (m : List ℕ). ended_or (Err (refusal 17)) x (made f m)) (sym i.0) (sym i.1)
