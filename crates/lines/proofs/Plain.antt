-- The text of a record has no byte 10: none of its pieces has, and a template has none of its own.
use mathlib.Core.Path.{◌≡◌, refl}
use mathlib.Core.Bool.{Bool, true, false, cond, not, ◌&&◌}
use mathlib.Core.List.{List, [], ◌∷◌, ◌++◌}
use Prim.Native.Nat.{ℕ, zero, suc, ◌+◌, ◌/◌, ◌%◌}
use native.Mathlib.Omega.{arith}
use lib.Dec.{ltb, eqb}
use lib.ListN.{get_or}
use borrow.Author.Tests.{eqb-false, ne_eqb, not-true}
use Rattle.finite.proofs.Tests.{both_left, both_right, both_join}
use Rattle.sets.specs.Set.{member}
use Rattle.lines.specs.Limits.{max_digits, set_bits}
use Rattle.lines.specs.Numeral.{numeral_in, numeral}
use Rattle.lines.specs.Form.{names_slot, is_slot, names_text, slot_text, piece, numbers_after, filled}

-- no byte of the list is 10
abbrev pub plain : List ℕ → Bool
plain [] = true
plain (b ∷ l) = not (eqb b 10) && plain l

pub plain_at : (l : List ℕ) (i : ℕ) → plain l ≡ true → get_or l i 0 ≡ 10 → ⊥
plain_at [] i h e = omega arith
plain_at (b ∷ l) zero h e = eqb-false b 10 (not-true (eqb b 10) (both_left (not (eqb b 10)) (plain l) h)) e
plain_at (b ∷ l) (suc i) h e = plain_at l i (both_right (not (eqb b 10)) (plain l) h) e

pub append_plain : (l m : List ℕ) → plain l ≡ true → plain m ≡ true → plain (l ++ m) ≡ true
append_plain [] m h k = k
append_plain (b ∷ l) m h k =
    both_join (not (eqb b 10)) (plain (l ++ m)) (both_left (not (eqb b 10)) (plain l) h)
    (append_plain l m (both_right (not (eqb b 10)) (plain l) h) k)

pub digit_plain : (d : ℕ) → plain ((48 + d) ∷ []) ≡ true
digit_plain d = simp (ne_eqb (48 + d) 10 (λ z. omega arith))

digits_plain : (k n : ℕ) → plain (numeral_in k n) ≡ true
unfolding numeral_in
digits_plain zero n = refl
digits_plain (suc k) n =
    go (ltb n 10)
    (append_plain (numeral_in k (n / 10)) ((48 + n % 10) ∷ []) (digits_plain k (n / 10)) (digit_plain (n % 10)))
  where
    go : (t : Bool) → plain (numeral_in k (n / 10) ++ ((48 + n % 10) ∷ [])) ≡ true
        → plain (cond t ((48 + n) ∷ []) (numeral_in k (n / 10) ++ ((48 + n % 10) ∷ []))) ≡ true
    go true h = digit_plain n
    go false h = h

pub numeral_plain : (n : ℕ) → plain (numeral n) ≡ true
unfolding numeral
numeral_plain n = digits_plain max_digits n

names_plain : (n set : ℕ) → plain (names_text n set) ≡ true
unfolding names_text
names_plain zero set = refl
names_plain (suc i) set =
    append_plain (names_text i set) (cond (member set i) (32 ∷ numeral i) []) (names_plain i set) (go (member set i))
  where
    go : (t : Bool) → plain (cond t (32 ∷ numeral i) []) ≡ true
    go true = numeral_plain i
    go false = refl

slot_plain : (slot n : ℕ) → plain (slot_text slot n) ≡ true
unfolding slot_text
slot_plain slot n = go (eqb slot names_slot)
  where
    go : (t : Bool) → plain (cond t (names_text set_bits n) (numeral n)) ≡ true
    go true = names_plain set_bits n
    go false = numeral_plain n

-- slots bring no byte 10 into a template
pub filled_plain : (t ns : List ℕ) → plain t ≡ true → plain (filled t ns) ≡ true
unfolding filled piece
filled_plain [] ns h = refl
filled_plain (b ∷ t) ns h =
    append_plain (piece b ns) (filled t (numbers_after b ns)) (go (is_slot b))
    (filled_plain t (numbers_after b ns) (both_right (not (eqb b 10)) (plain t) h))
  where
    go : (x : Bool) → plain (cond x (slot_text b (get_or ns 0 0)) (b ∷ [])) ≡ true
    go true = slot_plain b (get_or ns 0 0)
    go false = both_join (not (eqb b 10)) true (both_left (not (eqb b 10)) (plain t) h) refl
