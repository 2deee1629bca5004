-- A word at the front of what is left of a line: whether it stands there, and whether nothing stands behind it.
use mathlib.Core.Path.{◌≡◌, refl, ap, ◌∙◌}
use mathlib.Core.Bool.{Bool, true, false, cond, ◌&&◌}
use mathlib.Core.List.{List, [], ◌∷◌}
use Prim.Native.Nat.{ℕ, zero, suc, ◌<◌}
use native.Mathlib.Omega.{arith}
use lib.Dec.{eqb}
use lib.ListN.{length, drop, get_or}
use lib.Seq.{drop-length}
use lib.Pointwise.{pointwise}
use borrow.Author.Tests.{eq-eqb, ne_eqb}
use Rattle.std.specs.Bool.{◌==◌}
use Rattle.lines.specs.Reading.{none, some, strip, is_end}
use Rattle.lines.specs.Cited.{stripped}

pub strip_hit : (b c : ℕ) (l : List ℕ) → c ≡ b → strip b (some (c ∷ l)) ≡ some l
unfolding strip
strip_hit b c l e = simp (eq-eqb c b e)

pub stripped_none : (w : List ℕ) → stripped w none ≡ none
unfolding stripped strip
stripped_none [] = refl
stripped_none (b ∷ w) = stripped_none w

-- The word byte by byte: where both are the same at i, the byte behind is next; where they differ, or the line is too
-- short, the word is missing; where all are the same, what is left is behind it.
pub same_byte : (i : ℕ) (w l : List ℕ) → i < length w → i < length l → get_or l i 0 ≡ get_or w i 0
    → stripped (drop i w) (some (drop i l)) ≡ stripped (drop (suc i) w) (some (drop (suc i) l))
unfolding stripped strip
same_byte i [] l h k e = absurd (omega arith)
same_byte i (b ∷ w) [] h k e = absurd (omega arith)
same_byte zero (b ∷ w) (c ∷ l) h k e = ap (λ (t : Bool). stripped w (cond t (some l) none)) (eq-eqb c b e)
same_byte (suc i) (b ∷ w) (c ∷ l) h k e = same_byte i w l (omega arith) (omega arith) e

pub other_byte : (i : ℕ) (w l : List ℕ) → i < length w → i < length l → (get_or l i 0 ≡ get_or w i 0 → ⊥)
    → stripped (drop i w) (some (drop i l)) ≡ none
unfolding stripped strip
other_byte i [] l h k e = absurd (omega arith)
other_byte i (b ∷ w) [] h k e = absurd (omega arith)
other_byte zero (b ∷ w) (c ∷ l) h k e =
    ap (λ (t : Bool). stripped w (cond t (some l) none)) (ne_eqb c b e) ∙ stripped_none w
other_byte (suc i) (b ∷ w) (c ∷ l) h k e = other_byte i w l (omega arith) (omega arith) e

pub line_short : (w l : List ℕ) → length l < length w → stripped w (some l) ≡ none
unfolding stripped strip
line_short [] l h = absurd (omega arith)
line_short (b ∷ w) [] h = stripped_none w
line_short (b ∷ w) (c ∷ l) h = go (eqb c b) (line_short w l (omega arith))
  where
    go : (t : Bool) → stripped w (some l) ≡ none → stripped w (cond t (some l) none) ≡ none
    go true ih = ih
    go false ih = stripped_none w

pub all_same : (w l : List ℕ) → stripped (drop (length w) w) (some l) ≡ some l
unfolding stripped
all_same w l = ap (λ (v : List ℕ). stripped v (some l)) (drop-length w)

-- whether the line ends here
pub nothing_left : (l : List ℕ) → is_end (some l) ≡ (length l == 0)
nothing_left [] = refl
nothing_left (b ∷ l) = simp (ne_eqb (length (b ∷ l)) 0 (λ p. omega arith))

-- so the word is all that is left just where the two are the same
pub word_ends : (w l : List ℕ) → is_end (stripped w (some l)) ≡ pointwise eqb l w
unfolding stripped strip
word_ends [] [] = refl
word_ends [] (c ∷ l) = refl
word_ends (b ∷ w) [] = ap is_end (stripped_none w)
word_ends (b ∷ w) (c ∷ l) = go (eqb c b) (word_ends w l)
  where
    go : (t : Bool) → is_end (stripped w (some l)) ≡ pointwise eqb l w
        → is_end (stripped w (cond t (some l) none)) ≡ (t && pointwise eqb l w)
    go true ih = ih
    go false ih = ap is_end (stripped_none w)
