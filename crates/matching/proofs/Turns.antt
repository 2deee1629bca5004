-- One turn of the walk of a set: its least member is at hand, and the rest of it is left.
use mathlib.Core.Path.{◌≡◌, ap, sym, ◌∙◌}
use Prim.Native.Nat.{ℕ, ◌<◌}
use Rattle.sets.specs.Set.{next, beyond}
use Rattle.allotments.proofs.Walks.{Walking, hand_small}

pub rest_of : (left : ℕ) {c rest : ℕ} → c ≡ next left 0 → rest ≡ beyond left (next left 0) → rest ≡ beyond left c
rest_of left c_is e = e ∙ ap (beyond left) (sym c_is)

module _ {set left : ℕ} {P : ℕ → Type 0} (w : Walking set left P) (some : left ≡ 0 → ⊥) {c : ℕ}
    (c_is : c ≡ next left 0) where
  pub at_hand : c < 64
  at_hand = hand_small left w.small some c c_is
