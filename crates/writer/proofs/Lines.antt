-- A line is its form's template, filled, with a byte 10 behind it: what the puts of a form make (`puts_line`), and how
-- long it is, its own bytes and those of its slots (`line_slots`). Both hold for every form: a new one needs no law.
use mathlib.Core.Path.{◌≡◌, refl, sym, ap, ◌∙◌, subst}
use mathlib.Core.Bool.{Bool, true, false, cond, not, ◌&&◌}
use mathlib.Core.List.{List, [], ◌∷◌, ◌++◌, append_assoc}
use Prim.Native.Nat.{ℕ, ◌+◌}
use native.Mathlib.Omega.{arith}
use lib.ListN.{length, length-append, get_or}
use Rattle.std.specs.Prelude.{Some, is_none}
use Rattle.lines.specs.Form.{is_slot, in_slot, slot_text, template, numbers, piece, numbers_after, filled, text}
use Rattle.lines.specs.Form.{in_slots, in_range}
use Rattle.lines.specs.declared.Record.{Record}
use Rattle.buffer.specs.Buffer.{Put}
use Rattle.writer.specs.Writing.{line}
use Rattle.writer.specs.Cited.{plus, own_size, slots_size, line_size, first_outside, sized, LineSized}

filled_end : (t ns : List ℕ) → filled (t ++ (10 ∷ [])) ns ≡ filled t ns ++ (10 ∷ [])
unfolding filled piece
filled_end [] ns = refl
filled_end (b ∷ t) ns =
    ap (λ (x : List ℕ). piece b ns ++ x) (filled_end t (numbers_after b ns))
    ∙ sym (append_assoc (piece b ns) (filled t (numbers_after b ns)) (10 ∷ []))

-- a line is its form's template with a byte 10 behind it, filled
pub line_filled : (r : Record) → line r ≡ filled (template r ++ (10 ∷ [])) (numbers r)
unfolding line text
line_filled r = sym (filled_end (template r) (numbers r))

-- Counted slot by slot.

slots_counted : (t ns : List ℕ) (m : ℕ) → length (filled t ns) + m ≡ slots_size t ns (own_size t + m)
unfolding filled piece
slots_counted [] ns m = refl
slots_counted (b ∷ t) ns m =
    ap (λ (x : ℕ). x + m) (length-append (piece b ns) (filled t (numbers_after b ns)))
    ∙ go (is_slot b) (slots_counted t (numbers_after b ns))
  where
    go : (s : Bool)
        → ((k : ℕ) → length (filled t (numbers_after b ns)) + k ≡ slots_size t (numbers_after b ns) (own_size t + k))
        → length (cond s (slot_text b (get_or ns 0 0)) (b ∷ [])) + length (filled t (numbers_after b ns)) + m
        ≡ plus s (length (cond s (slot_text b (get_or ns 0 0)) (b ∷ [])))
        (slots_size t (numbers_after b ns) (plus (not s) 1 (own_size t) + m))
    go true ih = omega (arith, ih m)
    go false ih =
        let e : 1 + own_size t + m ≡ own_size t + (1 + m) = omega arith in
        omega (arith, ih (1 + m), ap (slots_size t (numbers_after b ns)) e)

pub line_slots : (r : Record) → length (line r) ≡ line_size r
unfolding line text
line_slots r = length-append (text r) (10 ∷ []) ∙ slots_counted (template r) (numbers r) 1

-- A record's numbers are in their ranges where none is outside.

none_outside : (t ns : List ℕ) → is_none (first_outside t ns) ≡ in_slots t ns
unfolding in_slots
none_outside [] ns = refl
none_outside (b ∷ t) ns = go (cond (is_slot b) (in_slot b (get_or ns 0 0)) true) (none_outside t (numbers_after b ns))
  where
    go : (s : Bool) → is_none (first_outside t (numbers_after b ns)) ≡ in_slots t (numbers_after b ns)
        → is_none (cond s (first_outside t (numbers_after b ns)) (Some (get_or ns 0 0)))
        ≡ (s && in_slots t (numbers_after b ns))
    go true ih = ih
    go false ih = refl

pub line_sized : (r : Record) → LineSized r (sized r)
unfolding in_range
line_sized r = record { ok = none_outside (template r) (numbers r); len = refl }

-- a form that was put whole
pub puts_line : (r : Record) {d e : List ℕ} {at to : ℕ} → Put d e at to (filled (template r ++ (10 ∷ [])) (numbers r))
    → Put d e at to (line r)
puts_line r {d} {e} {at} {to} p = subst (Put d e at to) (sym (line_filled r)) p

-- the same of a record r that is s
pub whole : {r s : Record} {d e : List ℕ} {at to : ℕ} → r ≡ s
    → Put d e at to (filled (template s ++ (10 ∷ [])) (numbers s)) → Put d e at to (line r)
whole {r} {s} {d} {e} {at} {to} q p = subst (λ (x : Record). Put d e at to (line x)) (sym q) (puts_line s p)
