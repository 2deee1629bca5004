-- What stands in a slot that is none of names: a number in its range.
use mathlib.Core.Path.{◌≡◌, sym}
use mathlib.Core.List.{List}
use Prim.Native.Nat.{ℕ}
use borrow.Author.Tests.{ne_eqb}
use Rattle.lines.specs.Form.{names_slot}
use Rattle.lines.specs.Reading.{some, numeral_at, ranged, slot_at}

pub slot_number : (slot : ℕ) (l : List ℕ) → (slot ≡ names_slot → ⊥)
    → ranged slot (numeral_at l) ≡ slot_at slot (some l)
unfolding slot_at
slot_number slot l h = sym (simp (ne_eqb slot names_slot h))
