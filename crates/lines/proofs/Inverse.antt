-- Reading is the inverse of `text`: the laws of Choice, with the length of the line asked first. `one_text` is what
-- demand 2 says of lines.
use mathlib.Core.Path.{◌≡◌, refl, sym, ap, ◌∙◌, subst}
use mathlib.Core.Bool.{Bool, true, false, cond}
use mathlib.Core.List.{List, [], ◌∷◌}
use mathlib.Core.Logic.{◌⊎◌, inl, inr}
use Prim.Native.Nat.{ℕ, ◌≤◌, ◌<◌}
use lib.Dec.{ltb}
use lib.ListN.{length}
use borrow.Author.Tests.{ltb-true, ltb-false, le-ltb}
use Rattle.std.specs.Prelude.{Result, Ok, Err}
use Rattle.refusal.specs.declared.Refusal.{Refusal}
use Rattle.refusal.specs.Refusal.{refusal}
use Rattle.lines.specs.declared.Record.{Record}
use Rattle.lines.specs.Limits.{max_line}
use Rattle.lines.specs.Form.{text, in_range}
use Rattle.lines.specs.Reading.{forms, first_of, reading}
use Rattle.lines.specs.OneText.{number, values, Is, Says, OneText}
use Rattle.lines.specs.OneText.Says.{a_text, too_long, no_text}
use Rattle.lines.proofs.Digits.{clash}
use Rattle.lines.proofs.Choice.{text_most, answer_most, text_plain, held_is, held_text, held_number}

pub reading_short : (l : List ℕ) → length l ≤ max_line → reading l ≡ first_of forms l
unfolding reading
reading_short l h = rw (le-ltb max_line (length l) h)

-- a record in its ranges reads back from its text
pub text_reads : (r : Record) → in_range r ≡ true → reading (text r) ≡ Ok r
text_reads r h = reading_short (text r) (text_most r) ∙ held_text r h

-- what reads as a record is that record's text, and its numbers are in their ranges
pub read_text : (l : List ℕ) (r : Record) → reading l ≡ Ok r → Is l r
unfolding reading
read_text l r e = go (ltb max_line (length l)) e
  where
    go : (t : Bool) → cond t (Err (refusal 16)) (first_of forms l) ≡ Ok r → Is l r
    go true q = clash (cc)
    go false q = held_is l r q

-- no two records share a text
pub text_once : (r s : Record) → in_range r ≡ true → in_range s ≡ true → text r ≡ text s → r ≡ s
text_once r s h k e = let p : Ok r ≡ Ok s = sym (text_reads r h) ∙ ap reading e ∙ text_reads s k in cc

-- no two texts read as one record
pub record_once : (l m : List ℕ) (r : Record) → reading l ≡ Ok r → reading m ≡ Ok r → l ≡ m
record_once l m r p q = (read_text l r p).1 ∙ sym (read_text m r q).1

-- a line is refused with 16 if it is too long, else with 17 and only where it is no record's text
abbrev pub Refuses : List ℕ → ℕ → Type 0
Refuses l n = ((n ≡ 16) × (max_line < length l)) ⊎ ((n ≡ 17) × (length l ≤ max_line) × ((r : Record) → Is l r → ⊥))

pub refused : (l : List ℕ) (n : ℕ) → reading l ≡ Err (refusal n) → Refuses l n
unfolding reading
refused l n e = go (ltb max_line (length l)) refl e
  where
    go : (t : Bool) → ltb max_line (length l) ≡ t
        → cond t (Err (refusal 16)) (first_of forms l) ≡ Err (refusal n) → Refuses l n
    go true f q = inl (sym (ap number q), ltb-true max_line (length l) f)
    go false f q = inr (held_number l n q, ltb-false max_line (length l) f, λ r p. other r p)
      where
        other : (r : Record) → Is l r → ⊥
        other r p =
            let z : Err (refusal n) ≡ Ok r = sym q ∙ ap (first_of forms) p.1 ∙ held_text r p.0 in
            clash (cc)

says : (l : List ℕ) → Says l (number (reading l)) (values (reading l))
says l = go (reading l) refl
  where
    by : (n : ℕ) → Refuses l n → Says l n (n ∷ [])
    by n (inl p) = subst (λ (x : ℕ). Says l x (x ∷ [])) (sym p.0) (too_long p.1)
    by n (inr p) = subst (λ (x : ℕ). Says l x (x ∷ [])) (sym p.0) (no_text p.1 p.2)

    go : (a : Result Record Refusal) → reading l ≡ a → Says l (number a) (values a)
    go (Ok r) e = a_text r (read_text l r e)
    go (Err e) p = by e.question (refused l e.question p)

pub one_text : OneText
one_text =
    record {
      most = text_most;
      most_answer = answer_most;
      plain = text_plain;
      reads = text_reads;
      is_read = read_text;
      text_once = text_once;
      record_once = record_once;
      says = says;
    }
