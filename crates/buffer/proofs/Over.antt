-- Laws of `over`: bytes laid over a buffer one behind the other, one before the other, and byte by byte.
-- Each goes by the buffer's bytes up to the place, and then by the bytes that are laid over it.
use mathlib.Core.Path.{◌≡◌, refl, sym, ap, ◌∙◌}
use mathlib.Core.List.{List, [], ◌∷◌, ◌++◌}
use Prim.Native.Nat.{ℕ, zero, suc, ◌+◌, ◌-◌, ◌≤◌, ◌<◌}
use native.Mathlib.Omega.{arith}
use native.Mathlib.Numerals.{add-one}
use lib.ListN.{length, drop, take, get_or, set, length-drop}
use lib.Seq.{take-suc, take_all, length-take-le}
use Rattle.buffer.specs.Buffer.{over}

pub over_none : (d : List ℕ) (at : ℕ) → over d at [] ≡ d
unfolding over
over_none [] at = refl
over_none (x ∷ d) zero = refl
over_none (x ∷ d) (suc at) = ap (λ (l : List ℕ). x ∷ l) (over_none d at)

pub over_length : (d : List ℕ) (at : ℕ) (w : List ℕ) → length (over d at w) ≡ length d
unfolding over
over_length [] at w = refl
over_length (x ∷ d) zero [] = refl
over_length (x ∷ d) zero (b ∷ w) = ap suc (over_length d zero w)
over_length (x ∷ d) (suc at) w = ap suc (over_length d at w)

-- w behind u
pub over_then : (d : List ℕ) (at : ℕ) (u w : List ℕ) → over (over d at u) (at + length u) w ≡ over d at (u ++ w)
unfolding over
over_then [] at u w = refl
over_then (x ∷ d) zero [] w = refl
over_then (x ∷ d) zero (b ∷ u) w =
    let e : 0 + suc (length u) ≡ suc (0 + length u) = omega arith in
    ap (λ (k : ℕ). over (b ∷ over d 0 u) k w) e ∙ ap (λ (l : List ℕ). b ∷ l) (over_then d zero u w)
over_then (x ∷ d) (suc at) u w =
    let e : suc at + length u ≡ suc (at + length u) = omega arith in
    ap (λ (k : ℕ). over (x ∷ over d at u) k w) e ∙ ap (λ (l : List ℕ). x ∷ l) (over_then d at u w)

-- u before w
pub over_under : (d : List ℕ) (at : ℕ) (u w : List ℕ) → over (over d (at + length u) w) at u ≡ over d at (u ++ w)
unfolding over
over_under [] at u w = refl
over_under (x ∷ d) zero [] w = over_none (over (x ∷ d) 0 w) 0
over_under (x ∷ d) zero (b ∷ u) w =
    let e : 0 + suc (length u) ≡ suc (0 + length u) = omega arith in
    ap (λ (k : ℕ). over (over (x ∷ d) k w) 0 (b ∷ u)) e ∙ ap (λ (l : List ℕ). b ∷ l) (over_under d zero u w)
over_under (x ∷ d) (suc at) u w =
    let e : suc at + length u ≡ suc (at + length u) = omega arith in
    ap (λ (k : ℕ). over (over (x ∷ d) k w) (suc at) u) e ∙ ap (λ (l : List ℕ). x ∷ l) (over_under d at u w)

-- One byte.

pub over_set : (d : List ℕ) (at b : ℕ) → set d at b ≡ over d at (b ∷ [])
unfolding over
over_set [] at b = refl
over_set (x ∷ d) zero b = ap (λ (l : List ℕ). b ∷ l) (sym (over_none d 0))
over_set (x ∷ d) (suc at) b = ap (λ (l : List ℕ). x ∷ l) (over_set d at b)

-- one byte before a word
pub over_before : (d : List ℕ) (at b : ℕ) (w : List ℕ) → at < length d
    → set (over d (suc at) w) at b ≡ over d at (b ∷ w)
unfolding over
over_before [] at b w h = refl
over_before (x ∷ d) zero b w h = refl
over_before (x ∷ d) (suc at) b w h = ap (λ (l : List ℕ). x ∷ l) (over_before d at b w (omega arith))

-- one byte behind a word
pub over_snoc : (d : List ℕ) (at : ℕ) (w : List ℕ) (b : ℕ)
    → set (over d at w) (at + length w) b ≡ over d at (w ++ (b ∷ []))
over_snoc d at w b = over_set (over d at w) (at + length w) b ∙ over_then d at w (b ∷ [])

-- the next byte of a word
pub over_next : (d : List ℕ) (at : ℕ) (w : List ℕ) (i : ℕ) → i < length w
    → set (over d at (take i w)) (at + i) (get_or w i 0) ≡ over d at (take (i + 1) w)
over_next d at w i h =
    let n : length (take i w) ≡ i = length-take-le i w (omega arith) in
    ap (λ (k : ℕ). set (over d at (take i w)) (at + k) (get_or w i 0)) (sym n)
    ∙ over_snoc d at (take i w) (get_or w i 0)
    ∙ ap (over d at) (sym (ap (λ (k : ℕ). take k w) (add-one i) ∙ take-suc w i 0 h))

-- Parts of a buffer.

-- laid over as many bytes in the middle
pub over_middle : (a b c t : List ℕ) → length b ≡ length t → over (a ++ (b ++ c)) (length a) t ≡ a ++ (t ++ c)
unfolding over
over_middle [] [] c [] h = over_none c 0
over_middle [] [] c (x ∷ t) h = absurd (omega arith)
over_middle [] (y ∷ b) c [] h = absurd (omega arith)
over_middle [] (y ∷ b) c (x ∷ t) h = ap (λ (l : List ℕ). x ∷ l) (over_middle [] b c t (omega arith))
over_middle (y ∷ a) b c t h = ap (λ (l : List ℕ). y ∷ l) (over_middle a b c t h)

-- laid over the front
pub over_front : (d w : List ℕ) → length w ≤ length d → over d 0 w ≡ w ++ drop (length w) d
unfolding over
over_front d [] h = over_none d 0
over_front [] (b ∷ w) h = absurd (omega arith)
over_front (x ∷ d) (b ∷ w) h = ap (λ (l : List ℕ). b ∷ l) (over_front d w (omega arith))

-- laid over the part from the place at on
pub over_part : (d : List ℕ) (at : ℕ) (w : List ℕ) → at ≤ length d → take at d ++ over (drop at d) 0 w ≡ over d at w
unfolding over
over_part d zero w h = refl
over_part [] (suc at) w h = absurd (omega arith)
over_part (x ∷ d) (suc at) w h = ap (λ (l : List ℕ). x ∷ l) (over_part d at w (omega arith))

-- that part, by its length
pub part_is : (d : List ℕ) (at : ℕ) → take (length d - at) (drop at d) ≡ drop at d
part_is d at = take_all (length d - at) (drop at d) (omega (arith, length-drop at d))
