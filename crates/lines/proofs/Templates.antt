-- A template that is filled with numbers in their ranges is read as those numbers, and what is read fills it. Both go
-- along the template; a slot ends where no byte that could belong to it follows, `fair`.
use mathlib.Core.Path.{◌≡◌, refl, sym, ap, ap₂, ◌∙◌}
use mathlib.Core.Bool.{Bool, true, false, cond, not, ◌&&◌}
use mathlib.Core.List.{List, [], ◌∷◌, ◌++◌, append_assoc}
use Prim.Native.Nat.{ℕ, suc, ◌+◌, ◌≤◌}
use native.Mathlib.Omega.{arith}
use lib.Dec.{eqb}
use lib.ListN.{length, get_or, drop, length-append}
use borrow.Author.Tests.{le-leb, eqb-true, not-true}
use Rattle.finite.proofs.Tests.{both_left, both_right}
use Rattle.lines.specs.Limits.{set_bits, max_u64, max_digits, max_names}
use Rattle.lines.specs.Numeral.{numeral}
use Rattle.lines.specs.Form.{names_slot, is_slot, in_slot, names_text, slot_text, piece, numbers_after, filled}
use Rattle.lines.specs.Form.{in_slots}
use Rattle.lines.specs.Reading.{Rest, none, some, Seen, seen, unseen, numeral_at, ranged, set_at, slot_at}
use Rattle.lines.specs.Reading.{strip, step, rest_of, slot_then, numbers_of}
use Rattle.lines.proofs.Digits.{clash, slot_small, ranged_yes, ranged_sound}
use Rattle.lines.proofs.Words.{strip_hit}
use Rattle.lines.proofs.Numerals.{stops, numeral_most, numeral_sound, numeral_back}
use Rattle.lines.proofs.NameSets.{ends, set_sound, set_back, names_most}

-- One slot.

-- what may stand behind a slot: no digit, and behind names no space
abbrev pub follows : ℕ → List ℕ → Bool
follows slot l = stops l && cond (eqb slot names_slot) (ends l) true

pub slot_back : (slot n : ℕ) (m : List ℕ) → in_slot slot n ≡ true → follows slot m ≡ true
    → slot_at slot (some (slot_text slot n ++ m)) ≡ seen n m
unfolding slot_at slot_text
slot_back slot n m h f = go (eqb slot names_slot) (both_right (stops m) (cond (eqb slot names_slot) (ends m) true) f)
  where
    go : (t : Bool) → cond t (ends m) true ≡ true
        → cond t (set_at (suc set_bits) 0 (cond t (names_text set_bits n) (numeral n) ++ m))
        (ranged slot (numeral_at (cond t (names_text set_bits n) (numeral n) ++ m))) ≡ seen n m
    go true e = set_back n m (slot_small slot n h) (both_left (stops m) (cond (eqb slot names_slot) (ends m) true) f) e
    go false e =
        let s = both_left (stops m) (cond (eqb slot names_slot) (ends m) true) f in
        ap (ranged slot) (numeral_back n m (slot_small slot n h) s) ∙ ranged_yes slot n m h

pub slot_sound : (slot n : ℕ) (l m : List ℕ) → slot_at slot (some l) ≡ seen n m
    → (l ≡ slot_text slot n ++ m) × (in_slot slot n ≡ true)
unfolding slot_at slot_text in_slot
slot_sound slot n l m e = go (eqb slot names_slot) refl e
  where
    go : (t : Bool) → eqb slot names_slot ≡ t
        → cond t (set_at (suc set_bits) 0 l) (ranged slot (numeral_at l)) ≡ seen n m
        → (l ≡ cond t (names_text set_bits n) (numeral n) ++ m) × (in_slot slot n ≡ true)
    go true f q =
        let s = set_sound l n m q in
        (s.0, ap (λ (k : ℕ). in_slot k n) (eqb-true slot names_slot f) ∙ le-leb n max_u64 (omega (arith, s.1)))
    go false f q =
        let s = ranged_sound slot n m (numeral_at l) q in
        (numeral_sound l n m (slot_small slot n s.1) s.0, s.1)

-- One byte of a template.

rest_none : (t : List ℕ) → rest_of t none ≡ none
unfolding rest_of step slot_at strip
rest_none [] = refl
rest_none (b ∷ t) = ap (rest_of t) (go (is_slot b)) ∙ rest_none t
  where
    go : (x : Bool) → cond x none none ≡ none
    go true = refl
    go false = refl

module _ (b : ℕ) (t : List ℕ) where
  module _ (e : is_slot b ≡ true) where
    filled_slot : (ns : List ℕ) → filled (b ∷ t) ns ≡ slot_text b (get_or ns 0 0) ++ filled t (drop 1 ns)
    unfolding filled piece numbers_after
    filled_slot ns = rw e

    in_slots_slot : (ns : List ℕ) → in_slots (b ∷ t) ns ≡ (in_slot b (get_or ns 0 0) && in_slots t (drop 1 ns))
    unfolding in_slots numbers_after
    in_slots_slot ns = rw e

    rest_slot : (l m : List ℕ) (n : ℕ) → slot_at b (some l) ≡ seen n m → rest_of (b ∷ t) (some l) ≡ rest_of t (some m)
    unfolding rest_of step
    rest_slot l m n q = rw (e, q)

    rest_unseen : (l : List ℕ) → slot_at b (some l) ≡ unseen → rest_of (b ∷ t) (some l) ≡ none
    unfolding rest_of step
    rest_unseen l q = rw (e, q) (rest_none t)

    numbers_slot : (l m : List ℕ) (n : ℕ) → slot_at b (some l) ≡ seen n m
        → numbers_of (b ∷ t) (some l) ≡ n ∷ numbers_of t (some m)
    unfolding numbers_of step
    numbers_slot l m n q = rw (e, q)

  module _ (e : is_slot b ≡ false) where
    filled_byte : (ns : List ℕ) → filled (b ∷ t) ns ≡ b ∷ filled t ns
    unfolding filled piece numbers_after
    filled_byte ns = rw e

    in_slots_byte : (ns : List ℕ) → in_slots (b ∷ t) ns ≡ in_slots t ns
    unfolding in_slots numbers_after
    in_slots_byte ns = rw e

    rest_byte : (l m : List ℕ) → strip b (some l) ≡ some m → rest_of (b ∷ t) (some l) ≡ rest_of t (some m)
    unfolding rest_of step
    rest_byte l m q = rw (e, q)

    rest_missing : (l : List ℕ) → strip b (some l) ≡ none → rest_of (b ∷ t) (some l) ≡ none
    unfolding rest_of step
    rest_missing l q = rw (e, q) (rest_none t)

    numbers_byte : (l m : List ℕ) → strip b (some l) ≡ some m → numbers_of (b ∷ t) (some l) ≡ numbers_of t (some m)
    unfolding numbers_of step
    numbers_byte l m q = rw (e, q)

-- What is read fills the template.

never : {A : Type 0} (l : List ℕ) → none ≡ some l → A
never l e = clash (cc)

strip_sound : (b : ℕ) (l m : List ℕ) → strip b (some l) ≡ some m → l ≡ b ∷ m
unfolding strip
strip_sound b [] m e = never m e
strip_sound b (c ∷ l) m e = go (eqb c b) refl e
  where
    go : (t : Bool) → eqb c b ≡ t → cond t (some l) none ≡ some m → c ∷ l ≡ b ∷ m
    go true q h = let z : c ≡ b = eqb-true c b q in let y : l ≡ m = cc in cc
    go false q h = never m h

pub record Fills (t l m : List ℕ) : Type 0 where
  pub text : l ≡ filled t (numbers_of t (some l)) ++ m
  pub range : in_slots t (numbers_of t (some l)) ≡ true

pub sound : (t l m : List ℕ) → rest_of t (some l) ≡ some m → Fills t l m
unfolding rest_of numbers_of filled in_slots
sound [] l m e = record { text = let z : l ≡ m = cc in z; range = refl }
sound (b ∷ t) l m e = go (is_slot b) refl (λ l'. sound t l' m)
  where
    go : (x : Bool) → is_slot b ≡ x → ((l' : List ℕ) → rest_of t (some l') ≡ some m → Fills t l' m) → Fills (b ∷ t) l m
    go true x ih = by (slot_at b (some l)) refl
      where
        by : (s : Seen) → slot_at b (some l) ≡ s → Fills (b ∷ t) l m
        by unseen q = never m (sym (rest_unseen b t x l q) ∙ e)
        by (seen n l') q =
            let f = ih l' (sym (rest_slot b t x l l' n q) ∙ e) in
            let s = slot_sound b n l l' q in
            let ns = numbers_of t (some l') in
            let k = numbers_slot b t x l l' n q in
            record {
              text =
                  s.0 ∙ ap (λ (y : List ℕ). slot_text b n ++ y) f.text
                  ∙ sym (append_assoc (slot_text b n) (filled t ns) m)
                  ∙ ap (λ (y : List ℕ). y ++ m) (sym (filled_slot b t x (n ∷ ns)))
                  ∙ ap (λ (y : List ℕ). filled (b ∷ t) y ++ m) (sym k);
              range =
                  ap (in_slots (b ∷ t)) k ∙ in_slots_slot b t x (n ∷ ns)
                  ∙ ap₂ (λ (y z : Bool). y && z) s.1 f.range;
            }
    go false x ih = by (strip b (some l)) refl
      where
        by : (r : Rest) → strip b (some l) ≡ r → Fills (b ∷ t) l m
        by none q = never m (sym (rest_missing b t x l q) ∙ e)
        by (some l') q =
            let f = ih l' (sym (rest_byte b t x l l' q) ∙ e) in
            let ns = numbers_of t (some l') in
            let k = numbers_byte b t x l l' q in
            record {
              text =
                  strip_sound b l l' q ∙ ap (λ (y : List ℕ). b ∷ y) f.text
                  ∙ ap (λ (y : List ℕ). y ++ m) (sym (filled_byte b t x ns))
                  ∙ ap (λ (y : List ℕ). filled (b ∷ t) y ++ m) (sym k);
              range = ap (in_slots (b ∷ t)) k ∙ in_slots_byte b t x ns ∙ f.range;
            }

-- What fills the template is read.

-- behind a slot stands the end, or a byte that may follow it
abbrev pub next : ℕ → List ℕ → Bool
next slot [] = true
next slot (b ∷ t) = not (is_slot b) && follows slot (b ∷ [])

-- every slot can be told from what stands behind it
abbrev pub fair : List ℕ → Bool
fair [] = true
fair (b ∷ t) = cond (is_slot b) (next b t) true && fair t

-- the numbers that a template takes of a list
abbrev pub taken : List ℕ → List ℕ → List ℕ
taken [] ns = []
taken (b ∷ t) ns = slot_then (is_slot b) (get_or ns 0 0) (taken t (numbers_after b ns))

next_filled : (slot : ℕ) (t ns : List ℕ) → next slot t ≡ true → follows slot (filled t ns) ≡ true
unfolding filled
next_filled slot [] ns h = go (eqb slot names_slot)
  where
    go : (x : Bool) → cond x true true ≡ true
    go true = refl
    go false = refl
next_filled slot (b ∷ t) ns h =
    let plain = not-true (is_slot b) (both_left (not (is_slot b)) (follows slot (b ∷ [])) h) in
    ap (follows slot) (filled_byte b t plain ns) ∙ both_right (not (is_slot b)) (follows slot (b ∷ [])) h

pub record Back (t l ns : List ℕ) : Type 0 where
  pub all : rest_of t (some l) ≡ some []
  pub numbers : numbers_of t (some l) ≡ taken t ns

pub complete : (t ns : List ℕ) → fair t ≡ true → in_slots t ns ≡ true → Back t (filled t ns) ns
unfolding rest_of numbers_of filled numbers_after
complete [] ns g f = record { all = refl; numbers = refl }
complete (b ∷ t) ns g f =
    go (is_slot b) refl (λ ms. complete t ms (both_right (cond (is_slot b) (next b t) true) (fair t) g))
  where
    go : (x : Bool) → is_slot b ≡ x → ((ms : List ℕ) → in_slots t ms ≡ true → Back t (filled t ms) ms)
        → Back (b ∷ t) (filled (b ∷ t) ns) ns
    go true x ih =
        let n = get_or ns 0 0 in
        let m = filled t (drop 1 ns) in
        let r : (in_slot b n && in_slots t (drop 1 ns)) ≡ true = sym (in_slots_slot b t x ns) ∙ f in
        let h = ih (drop 1 ns) (both_right (in_slot b n) (in_slots t (drop 1 ns)) r) in
        let o : next b t ≡ true =
        ap (λ (y : Bool). cond y (next b t) true) (sym x) ∙ both_left (cond (is_slot b) (next b t) true) (fair t) g in
        let q : slot_at b (some (filled (b ∷ t) ns)) ≡ seen n m =
        ap (λ (y : List ℕ). slot_at b (some y)) (filled_slot b t x ns)
        ∙ slot_back b n m (both_left (in_slot b n) (in_slots t (drop 1 ns)) r) (next_filled b t (drop 1 ns) o) in
        record {
          all = rest_slot b t x (filled (b ∷ t) ns) m n q ∙ h.all;
          numbers =
              numbers_slot b t x (filled (b ∷ t) ns) m n q ∙ ap (λ (y : List ℕ). n ∷ y) h.numbers
              ∙ sym (ap₂ (λ (y : Bool) (z : List ℕ). slot_then y n (taken t z)) x
              (ap (λ (y : Bool). cond y (drop 1 ns) ns) x));
        }
    go false x ih =
        let m = filled t ns in
        let h = ih ns (sym (in_slots_byte b t x ns) ∙ f) in
        let q : strip b (some (filled (b ∷ t) ns)) ≡ some m =
        ap (λ (y : List ℕ). strip b (some y)) (filled_byte b t x ns) ∙ strip_hit b b m refl in
        record {
          all = rest_byte b t x (filled (b ∷ t) ns) m q ∙ h.all;
          numbers =
              numbers_byte b t x (filled (b ∷ t) ns) m q ∙ h.numbers
              ∙ sym (ap₂ (λ (y : Bool) (z : List ℕ). slot_then y (get_or ns 0 0) (taken t z)) x
              (ap (λ (y : Bool). cond y (drop 1 ns) ns) x));
        }

-- How long a filled template is.

-- no text of the template is longer than this
abbrev pub most : List ℕ → ℕ
most [] = 0
most (b ∷ t) = cond (is_slot b) (cond (eqb b names_slot) max_names max_digits) 1 + most t

pub filled_most : (t ns : List ℕ) → length (filled t ns) ≤ most t
unfolding filled piece slot_text
filled_most [] ns = omega arith
filled_most (b ∷ t) ns = rw length-append (go (is_slot b) (eqb b names_slot) (filled_most t (numbers_after b ns)))
  where
    go : (x y : Bool) → length (filled t (numbers_after b ns)) ≤ most t
        → length (cond x (cond y (names_text set_bits (get_or ns 0 0)) (numeral (get_or ns 0 0))) (b ∷ []))
        + length (filled t (numbers_after b ns)) ≤ cond x (cond y max_names max_digits) 1 + most t
    go true true ih = omega (arith, names_most set_bits (get_or ns 0 0) (omega arith))
    go true false ih = omega (arith, numeral_most (get_or ns 0 0))
    go false y ih = omega arith
