-- How the contracts speak of a lent buffer and of the bytes that are put into it.
use Rattle.std.specs.Prelude.{ℕ, zero, suc, ◌+◌, ◌≤◌, ◌≡◌, List, [], ◌∷◌, length}

-- d with the bytes w over its own from the place at on, as far as d goes
unfoldable pub over : List ℕ → ℕ → List ℕ → List ℕ
over [] at w = []
over (x ∷ d) zero [] = x ∷ d
over (x ∷ d) zero (b ∷ w) = b ∷ over d zero w
over (x ∷ d) (suc at) w = x ∷ over d at w

-- d became e: w stands at the place at, the next place is to, and all else is as it was
pub record Put (d e : List ℕ) (at to : ℕ) (w : List ℕ) : Type 0 where
  pub next : to ≡ at + length w
  pub here : e ≡ over d at w
  pub same : length e ≡ length d

-- d has room for k bytes before the place to
abbrev pub RoomFor : List ℕ → ℕ → ℕ → Type 0
RoomFor d to k = (k ≤ to) × (to ≤ length d)
