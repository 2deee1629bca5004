-- What request 5 leaves as it was, and a line that it lets in. A text does not depend on the letter of a slot, and
-- document 01's ranges lie within those of today, so that `text_reads` and `read_text` say it all; forms are compared
-- one by one, by computing.
use mathlib.Core.Path.{◌≡◌, refl, sym, ap, ◌∙◌}
use mathlib.Core.Bool.{true, false, ◌&&◌}
use mathlib.Core.List.{List}
use Prim.Native.Nat.{ℕ}
use native.Mathlib.Omega.{arith}
use lib.Dec.{leb}
use borrow.Author.Tests.{leb-true, le-leb}
use Rattle.finite.proofs.Tests.{never, both_left, both_right}
use Rattle.std.specs.Prelude.{Ok}
use Rattle.lines.specs.Limits.{max_input}
use Rattle.lines.specs.Form.{template, numbers, is_output, in_slot, piece, slot_text, numbers_after, filled}
use Rattle.lines.specs.Form.{in_slots, text, in_range}
use Rattle.lines.specs.Reading.{reading, first_of, forms, held_or, ended_or, made, numbers_of, rest_of, step}
use Rattle.lines.specs.Reading.{strip, slot_at, numeral_at, digits, is_digit}
use Rattle.lines.specs.Before.{old_template, in_old_slot, in_old_slots, in_old_range, old_text, Was, AsBefore}
use Rattle.lines.specs.Before.{has_form, longer_budget, LongerBudget}
use Rattle.lines.specs.declared.Record.{Record}
use Rattle.lines.specs.declared.Record.TheVariants.{Plan, Campaign, Start, View, Close, Done, Play, Nobody}
use Rattle.lines.specs.declared.Record.TheVariants.{Refused, Closed, Tally, Pause, Resume}
use Rattle.lines.proofs.Digits.{apart}
use Rattle.lines.proofs.Inverse.{text_reads, read_text}

-- two numerals of an input line
wider : (a b : ℕ) → (leb a 4294967295 && (leb b 4294967295 && true)) ≡ true
    → (leb a max_input && (leb b max_input && true)) ≡ true
wider a b e =
    let p = leb-true a 4294967295 (both_left (leb a 4294967295) (leb b 4294967295 && true) e) in
    let q =
    leb-true b 4294967295
    (both_left (leb b 4294967295) true (both_right (leb a 4294967295) (leb b 4294967295 && true) e)) in
    rw (le-leb a max_input (omega (arith, p)), le-leb b max_input (omega (arith, q)))

-- a form that was there has the same text, one of the outputs the same ranges, and none has a narrower one
abbrev Kept : Record → Type 0
Kept r =
    (has_form r ≡ true → text r ≡ old_text r) × (is_output r ≡ true → in_range r ≡ in_old_range r)
    × (in_old_range r ≡ true → in_range r ≡ true)

kept : (r : Record) → Kept r
unfolding text old_text template old_template numbers filled piece slot_text numbers_after in_range in_old_range
    in_slots in_old_slots in_slot in_old_slot
kept (Plan a b) = (λ _. refl, apart, wider a b)
kept (Campaign a b) = (λ _. refl, apart, wider a b)
kept Start = (λ _. refl, λ _. refl, λ e. e)
kept (View _) = (λ _. refl, λ _. refl, λ e. e)
kept Close = (λ _. refl, λ _. refl, λ e. e)
kept Done = (λ _. refl, λ _. refl, λ e. e)
kept (Play _ _) = (λ _. refl, λ _. refl, λ e. e)
kept Nobody = (λ _. refl, λ _. refl, λ e. e)
kept (Refused _) = (λ _. refl, λ _. refl, λ e. e)
kept (Closed _ _ _) = (λ _. refl, λ _. refl, λ e. e)
kept (Tally _ _ _ _ _) = (λ _. refl, λ _. refl, λ e. e)
kept (Pause _) = (apart, apart, apart)
kept (Resume _) = (apart, apart, apart)

had : (r : Record) → in_old_range r ≡ true → has_form r ≡ true
unfolding in_old_range
had r = both_left (has_form r) (in_old_slots (old_template r) (numbers r))

same_record : (l : List ℕ) (r : Record) → Was l r → reading l ≡ Ok r
same_record l r w = ap reading (w.1 ∙ sym ((kept r).0 (had r w.0))) ∙ text_reads r ((kept r).2 w.0)

only_longer : (l : List ℕ) (r : Record) → reading l ≡ Ok r → in_old_range r ≡ true → Was l r
only_longer l r e i = (i, (read_text l r e).1 ∙ (kept r).0 (had r i))

same_outputs : (l : List ℕ) (r : Record) → is_output r ≡ true → reading l ≡ Ok r → Was l r
same_outputs l r o e = only_longer l r e (sym ((kept r).1 o) ∙ (read_text l r e).0)

pub as_before : AsBefore
as_before = record {
  same_record = same_record;
  same_outputs = same_outputs;
  same_text = λ r. (kept r).0;
  same_range = λ r. (kept r).1;
  only_longer = only_longer;
}

-- The line.

read_now : reading longer_budget ≡ Ok (Campaign 5 4294967296)
unfolding template in_slot reading first_of forms held_or ended_or made numbers_of rest_of step strip slot_at
    numeral_at digits is_digit
read_now = refl

out_of_range : in_old_range (Campaign 5 4294967296) ≡ false
unfolding in_old_range in_old_slots in_old_slot old_template numbers numbers_after
out_of_range = refl

pub longer_budget_read : LongerBudget
longer_budget_read = record {
  refused_before = λ r w.
      let e : Ok r ≡ Ok (Campaign 5 4294967296) = sym (same_record longer_budget r w) ∙ read_now in
      let same : r ≡ Campaign 5 4294967296 = cc in
      never false refl (sym out_of_range ∙ sym (ap in_old_range same) ∙ w.0);
  read_now = read_now;
}
