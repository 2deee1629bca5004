-- The two tests are the definition's, with the greatest number as `slot_max` gives it.
use mathlib.Core.Path.{ap}
use mathlib.Core.Bool.{not, ◌&&◌, ◌||◌}
use Prim.Native.Nat.{ℕ}
use lib.Dec.{leb, eqb}
use Rattle.lines.specs.Form.{refusal_slot, in_slot}
use Rattle.lines.proofs.slots.in_slot.Goals as goal

pub returns : goal.returns
unfolding in_slot
returns c = let a = c.args in
    let n = a.number in
    ap (λ (m : ℕ). (not (eqb a.slot refusal_slot) || leb 1 n) && leb n m) c.slot_max.ensures
