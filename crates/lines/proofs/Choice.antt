-- The first bytes of a line leave one form, and reading is trying that one: the text of a record has the bytes that
-- leave its form, so a form whose template the line fills is the one that is left.
use mathlib.Core.Path.{◌≡◌, refl, sym, ap, ◌∙◌, subst}
use mathlib.Core.Bool.{Bool, true, false, cond}
use mathlib.Core.List.{List, [], ◌∷◌, append-nil}
use Prim.Native.Nat.{ℕ, zero, suc, ◌≤◌, ◌<◌}
use native.Mathlib.Omega.{arith}
use native.Mathlib.Nat.{le_trans}
use lib.Dec.{eqb, lit<, lit≤}
use lib.ListN.{length, get_or}
use Rattle.std.specs.Prelude.{Ok, Err}
use Rattle.refusal.specs.Refusal.{refusal}
use Rattle.lines.specs.declared.Record.{Record}
use Rattle.lines.specs.declared.Record.TheVariants.{Plan, Campaign, Start, View, Close, Done, Play, Nobody}
use Rattle.lines.specs.declared.Record.TheVariants.{Refused, Closed, Tally, Pause, Resume}
use Rattle.lines.specs.Limits.{max_line, max_answer}
use Rattle.lines.specs.Form.{is_output, template, numbers, piece, numbers_after, filled, in_slots, text, in_range}
use Rattle.lines.specs.OneText.{number, Is}
use Rattle.lines.specs.Reading.{Rest, none, some, is_digit, rest_of, numbers_of, made, is_end, ended_or, held_or}
use Rattle.lines.specs.Reading.{forms, first_of}
use Rattle.lines.proofs.Digits.{clash, apart}
use Rattle.lines.proofs.Templates.{fair, taken, most, sound, complete, filled_most}
use Rattle.lines.proofs.Plain.{plain, plain_at, filled_plain}

-- the form that the bytes b, c, d and e leave, where they stand at 1, 3, 4 and 6:
--   118 v, 112 p (110 n, 115 s), 99 c (41 a bracket, 100 d), 115 s, 111 o, 110 n, 114 r (115 s), and else t
abbrev pub leaves : ℕ → ℕ → ℕ → ℕ → Record
leaves b c d e =
    cond (eqb b 118) (View 0)
    (cond (eqb b 112) (cond (eqb d 110) (Plan 0 0) (cond (eqb d 115) (Pause 0) (Play 0 0)))
    (cond (eqb b 99) (cond (eqb e 41) Close (cond (eqb e 100) (Closed 0 0 0) (Campaign 0 0)))
    (cond (eqb b 115) Start
    (cond (eqb b 111) Done
    (cond (eqb b 110) Nobody
    (cond (eqb b 114) (cond (eqb c 115) (Resume 0) (Refused 0))
    (Tally 0 0 0 0 0)))))))

unfoldable pub chosen : List ℕ → Record
chosen l = leaves (get_or l 1 0) (get_or l 3 0) (get_or l 4 0) (get_or l 6 0)

-- What a form of the list is, and what a record is to its form: a new form is a row in each of the two tables.

-- a record of the form f has its template, its numbers are those that were read, and without them it is f
abbrev Form : Record → Type 0
Form f =
    ((ns : List ℕ) → template (made f ns) ≡ template f)
    × ((r : Rest) → numbers (made f (numbers_of (template f) r)) ≡ numbers_of (template f) r)
    × ((ns : List ℕ) → made (made f ns) [] ≡ f)

data AllForms : List Record → Type 0 where
  done : AllForms []
  form : {f : Record} {fs : List Record} → Form f → AllForms fs → AllForms (f ∷ fs)

all_forms : AllForms forms
unfolding forms template numbers made numbers_of
all_forms =
    (form (λ _. refl, λ _. refl, λ _. refl)
    (form (λ _. refl, λ _. refl, λ _. refl)
    (form (λ _. refl, λ _. refl, λ _. refl)
    (form (λ _. refl, λ _. refl, λ _. refl)
    (form (λ _. refl, λ _. refl, λ _. refl)
    (form (λ _. refl, λ _. refl, λ _. refl)
    (form (λ _. refl, λ _. refl, λ _. refl)
    (form (λ _. refl, λ _. refl, λ _. refl)
    (form (λ _. refl, λ _. refl, λ _. refl)
    (form (λ _. refl, λ _. refl, λ _. refl)
    (form (λ _. refl, λ _. refl, λ _. refl)
    (form (λ _. refl, λ _. refl, λ _. refl)
    (form (λ _. refl, λ _. refl, λ _. refl) done)))))))))))))

-- Each slot of r's template can be told from what follows, no text of it is longer than a line, and r is made from its
-- form and its numbers; the bytes of its text choose its form; no byte of its template is 10.
abbrev Known : Record → Type 0
Known r =
    (fair (template r) ≡ true) × (most (template r) ≤ max_line) × (template (made r []) ≡ template r)
    × (made (made r []) (taken (template r) (numbers r)) ≡ r) × (chosen (text r) ≡ made r [])
    × (plain (template r) ≡ true)

known : (r : Record) → Known r
unfolding template numbers made text filled piece numbers_after is_digit chosen
known (Plan _ _) = (refl, lit≤ tt, refl, refl, refl, refl)
known (Campaign _ _) = (refl, lit≤ tt, refl, refl, refl, refl)
known Start = (refl, lit≤ tt, refl, refl, refl, refl)
known (View _) = (refl, lit≤ tt, refl, refl, refl, refl)
known Close = (refl, lit≤ tt, refl, refl, refl, refl)
known Done = (refl, lit≤ tt, refl, refl, refl, refl)
known (Play _ _) = (refl, lit≤ tt, refl, refl, refl, refl)
known Nobody = (refl, lit≤ tt, refl, refl, refl, refl)
known (Refused _) = (refl, lit≤ tt, refl, refl, refl, refl)
known (Closed _ _ _) = (refl, lit≤ tt, refl, refl, refl, refl)
known (Tally _ _ _ _ _) = (refl, lit≤ tt, refl, refl, refl, refl)
known (Pause _) = (refl, lit≤ tt, refl, refl, refl, refl)
known (Resume _) = (refl, lit≤ tt, refl, refl, refl, refl)

-- the text of a record is no longer than a line that is read
pub text_most : (r : Record) → length (text r) ≤ max_line
unfolding text
text_most r = le_trans (filled_most (template r) (numbers r)) (known r).1

-- and that of an output form no longer than an answer
answer_template : (r : Record) → is_output r ≡ true → most (template r) ≤ max_answer
unfolding template
answer_template (Plan _ _) h = apart h
answer_template (Campaign _ _) h = apart h
answer_template Start h = apart h
answer_template (View _) h = apart h
answer_template Close h = apart h
answer_template Done h = lit≤ tt
answer_template (Play _ _) h = lit≤ tt
answer_template Nobody h = lit≤ tt
answer_template (Refused _) h = lit≤ tt
answer_template (Closed _ _ _) h = lit≤ tt
answer_template (Tally _ _ _ _ _) h = lit≤ tt
answer_template (Pause _) h = apart h
answer_template (Resume _) h = apart h

pub answer_most : (r : Record) → is_output r ≡ true → length (text r) ≤ max_answer
unfolding text
answer_most r h = le_trans (filled_most (template r) (numbers r)) (answer_template r h)

-- the text of a record has no byte 10
pub text_plain : (r : Record) (i : ℕ) → get_or (text r) i 0 ≡ 10 → ⊥
unfolding text
text_plain r i e = plain_at (text r) i (filled_plain (template r) (numbers r) (known r).5) e

-- One form.

-- whether the line fills the template of the form f, and what it then reads as
abbrev fills : Record → List ℕ → Bool
fills f l = is_end (rest_of (template f) (some l))

abbrev read : Record → List ℕ → Record
read f l = made f (numbers_of (template f) (some l))

end_of : (r : Rest) → is_end r ≡ true → r ≡ some []
end_of none h = apart h
end_of (some []) h = refl
end_of (some (b ∷ l)) h = apart h

-- a line that fills a template is the text of what it reads as
read_is : (f : Record) (l : List ℕ) → Form f → fills f l ≡ true → Is l (read f l)
unfolding text in_range
read_is f l p h =
    let s = sound (template f) l [] (end_of (rest_of (template f) (some l)) h) in
    let t : (ns : List ℕ) → filled (template f) ns ≡ filled (template (read f l)) ns =
    λ ns. ap (λ (x : List ℕ). filled x ns) (sym (p.0 (numbers_of (template f) (some l)))) in (
      ap (λ (x : List ℕ). in_slots x (numbers (read f l))) (p.0 (numbers_of (template f) (some l)))
          ∙ ap (in_slots (template f)) (p.1 (some l)) ∙ s.range,
      s.text ∙ append-nil (filled (template f) (numbers_of (template f) (some l)))
          ∙ ap (filled (template f)) (sym (p.1 (some l))) ∙ t (numbers (read f l)),
    )

-- the text of a record fills the template of its form, and reads as the record
text_read : (r : Record) → in_range r ≡ true → (fills (made r []) (text r) ≡ true) × (read (made r []) (text r) ≡ r)
unfolding text in_range
text_read r h =
    let k = known r in
    let c = complete (template r) (numbers r) k.0 h in (
      ap (λ (t : List ℕ). is_end (rest_of t (some (text r)))) k.2 ∙ ap is_end c.all,
      ap (λ (t : List ℕ). made (made r []) (numbers_of t (some (text r)))) k.2 ∙ ap (made (made r [])) c.numbers
          ∙ k.3,
    )

-- a form whose template the line fills is the chosen one
fills_chosen : (f : Record) (l : List ℕ) → Form f → fills f l ≡ true → f ≡ chosen l
fills_chosen f l p h =
    sym (p.2 (numbers_of (template f) (some l))) ∙ sym (known (read f l)).4 ∙ ap chosen (sym (read_is f l p h).1)

-- All forms.

data In (p : Record) : List Record → Type 0 where
  here : {f : Record} {fs : List Record} → p ≡ f → In p (f ∷ fs)
  there : {f : Record} {fs : List Record} → In p fs → In p (f ∷ fs)

module _ (l : List ℕ) where
  none_fills : {fs : List Record} → AllForms fs → fills (chosen l) l ≡ false → first_of fs l ≡ Err (refusal 17)
  unfolding first_of held_or ended_or
  none_fills done h = refl
  none_fills (form {f} {fs} p a) h = go (fills f l) refl (none_fills a h)
    where
      go : (t : Bool) → fills f l ≡ t → first_of fs l ≡ Err (refusal 17)
          → cond t (Ok (read f l)) (first_of fs l) ≡ Err (refusal 17)
      go true e ih = apart (sym h ∙ ap (λ (x : Record). fills x l) (sym (fills_chosen f l p e)) ∙ e)
      go false e ih = ih

  one_fills : {fs : List Record} → AllForms fs → In (chosen l) fs → fills (chosen l) l ≡ true
      → first_of fs l ≡ Ok (read (chosen l) l)
  unfolding first_of held_or ended_or
  one_fills done i h = elim i [ ]
  one_fills (form {f} {fs} p a) i h = go (fills f l) refl i (λ j. one_fills a j h)
    where
      go : (t : Bool) → fills f l ≡ t → In (chosen l) (f ∷ fs)
          → (In (chosen l) fs → first_of fs l ≡ Ok (read (chosen l) l))
          → cond t (Ok (read f l)) (first_of fs l) ≡ Ok (read (chosen l) l)
      go true e i ih = ap (λ (x : Record). Ok (read x l)) (fills_chosen f l p e)
      go false e (here q) ih = apart (sym e ∙ ap (λ (x : Record). fills x l) (sym q) ∙ h)
      go false e (there j) ih = ih j

either : {fs : List Record} {x y : Record} (t : Bool) → In x fs → In y fs → In (cond t x y) fs
either true p q = p
either false p q = q

nth : (fs : List Record) (n : ℕ) → n < length fs → In (get_or fs n Start) fs
nth [] n h = absurd (omega arith)
nth (f ∷ fs) zero h = here refl
nth (f ∷ fs) (suc n) h = there (nth fs n (omega arith))

chosen_in : (l : List ℕ) → In (chosen l) forms
unfolding chosen forms
chosen_in l =
    either (eqb (get_or l 1 0) 118) (nth forms 3 (lit< tt))
    (either (eqb (get_or l 1 0) 112)
    (either (eqb (get_or l 4 0) 110) (nth forms 0 (lit< tt))
    (either (eqb (get_or l 4 0) 115) (nth forms 11 (lit< tt)) (nth forms 6 (lit< tt))))
    (either (eqb (get_or l 1 0) 99)
    (either (eqb (get_or l 6 0) 41) (nth forms 4 (lit< tt))
    (either (eqb (get_or l 6 0) 100) (nth forms 9 (lit< tt)) (nth forms 1 (lit< tt))))
    (either (eqb (get_or l 1 0) 115) (nth forms 2 (lit< tt))
    (either (eqb (get_or l 1 0) 111) (nth forms 5 (lit< tt))
    (either (eqb (get_or l 1 0) 110) (nth forms 7 (lit< tt))
    (either (eqb (get_or l 1 0) 114)
    (either (eqb (get_or l 3 0) 115) (nth forms 12 (lit< tt)) (nth forms 8 (lit< tt)))
    (nth forms 10 (lit< tt))))))))

form_of : {p : Record} {fs : List Record} → AllForms fs → In p fs → Form p
form_of {p = p} done x3 = elim x3 [ ]
form_of (form f a) (here q) = subst Form (sym q) f
form_of (form f a) (there j) = form_of a j

-- reading is holding the line to the chosen form
pub first_chosen : (l : List ℕ) → first_of forms l ≡ held_or (Err (refusal 17)) (chosen l) l
unfolding held_or ended_or
first_chosen l = go (fills (chosen l) l) refl
  where
    go : (t : Bool) → fills (chosen l) l ≡ t
        → first_of forms l ≡ cond (fills (chosen l) l) (Ok (read (chosen l) l)) (Err (refusal 17))
    go true e = one_fills l all_forms (chosen_in l) e ∙ rw e
    go false e = none_fills l all_forms e ∙ rw e

-- what the chosen form reads
pub held_is : (l : List ℕ) (r : Record) → first_of forms l ≡ Ok r → Is l r
unfolding held_or ended_or
held_is l r h = go (fills (chosen l) l) refl (sym (first_chosen l) ∙ h)
  where
    go : (t : Bool) → fills (chosen l) l ≡ t
        → cond (fills (chosen l) l) (Ok (read (chosen l) l)) (Err (refusal 17)) ≡ Ok r
        → Is l r
    go true e q =
        let z : Ok (read (chosen l) l) ≡ Ok r =
        ap (λ (t : Bool). cond t (Ok (read (chosen l) l)) (Err (refusal 17))) (sym e) ∙ q in
        let y : read (chosen l) l ≡ r = cc in
        subst (Is l) y (read_is (chosen l) l (form_of all_forms (chosen_in l)) e)
    go false e q =
        let z : Err (refusal 17) ≡ Ok r =
        ap (λ (t : Bool). cond t (Ok (read (chosen l) l)) (Err (refusal 17))) (sym e) ∙ q in
        clash (cc)

pub held_text : (r : Record) → in_range r ≡ true → first_of forms (text r) ≡ Ok r
unfolding held_or ended_or
held_text r h =
    let t = text_read r h in
    first_chosen (text r) ∙ ap (λ (f : Record). held_or (Err (refusal 17)) f (text r)) (known r).4
    ∙ ap (λ (x : Bool). cond x (Ok (read (made r []) (text r))) (Err (refusal 17))) t.0 ∙ ap Ok t.1

-- a line that no form reads is refused with 17
pub held_number : (l : List ℕ) (n : ℕ) → first_of forms l ≡ Err (refusal n) → n ≡ 17
unfolding held_or ended_or
held_number l n h = go (fills (chosen l) l) (sym (first_chosen l) ∙ h)
  where
    go : (t : Bool) → cond t (Ok (read (chosen l) l)) (Err (refusal 17)) ≡ Err (refusal n) → n ≡ 17
    go true q = clash (cc)
    go false q = sym (ap number q)
