-- The line of two figures, from its last byte to its first: no numeral has more than twenty digits, so that there is
-- room for each put, and joined they are the whole line.
use mathlib.Core.Path.{subst}
use mathlib.Core.List.{List, ◌++◌}
use Prim.Native.Nat.{ℕ, ◌+◌, ◌≤◌}
use native.Mathlib.Omega.{arith}
use lib.ListN.{length}
use Rattle.buffer.specs.Buffer.{Put, RoomFor}
use Rattle.buffer.proofs.Puts.{put_before}
use Rattle.lines.specs.Form.{bytes, slot_text}
use Rattle.lines.specs.Numeral.{numeral}
use Rattle.lines.proofs.Numerals.{numeral_most}
use Rattle.earnings.specs.declared.ratio.Ratio.{Ratio}
use Rattle.earnings.specs.Earnings.{report_room, figures_text}
use Rattle.earnings.proofs.put_figures.Goals as goal

-- the line with a ratio
abbrev with_ratio : (t g : ℕ) → Ratio → List ℕ
with_ratio t g r =
    bytes "(takings " ++ (numeral t ++ (bytes ") (greatest " ++ (numeral g ++ (bytes ") (ratio " ++
    (numeral r.numerator ++ (bytes "/" ++ (numeral r.denominator ++ bytes ")\n")))))))

-- the room before what was put, k bytes at most
room_left : {d e w : List ℕ} {at to : ℕ} (k n : ℕ) → Put d e at to w → length w ≤ k → RoomFor d to (k + n)
    → RoomFor e at n
room_left k n p l r = (omega (arith, p.next), omega (arith, p.next, p.same))

-- Of 128 bytes the puts take, from the last to the first, at most 2, 21, 29, 32 and 29: the room for each field.
pub put_field-to-requires : goal.put_field-to-requires
unfolding slot_text
put_field-to-requires c =
    let end : RoomFor c.put-to.new.out c.put-to.result 126 =
    room_left 2 126 c.put-to.ensures (omega arith) (omega arith, c.requires) in
    (omega (arith, numeral_most c.lowest-ratio.result.denominator, end.0), end.1)

pub put_field-to-requires-2 : goal.put_field-to-requires-2
unfolding slot_text
put_field-to-requires-2 c =
    let end : RoomFor c.put-to.new.out c.put-to.result 126 =
    room_left 2 126 c.put-to.ensures (omega arith) (omega arith, c.requires) in
    let under : RoomFor c.put_field-to.new.out c.put_field-to.result 105 =
    room_left 21 105 c.put_field-to.ensures (omega (arith, numeral_most c.lowest-ratio.result.denominator)) end in
    (omega (arith, numeral_most c.lowest-ratio.result.numerator, under.0), under.1)

pub put_field-to-requires-3 : goal.put_field-to-requires-3
unfolding slot_text
put_field-to-requires-3 c =
    let end : RoomFor c.put-to.new.out c.put-to.result 126 =
    room_left 2 126 c.put-to.ensures (omega arith) (omega arith, c.requires) in
    let under : RoomFor c.put_field-to.new.out c.put_field-to.result 105 =
    room_left 21 105 c.put_field-to.ensures (omega (arith, numeral_most c.lowest-ratio.result.denominator)) end in
    let over : RoomFor c.put_field-to-2.new.out c.put_field-to-2.result 76 =
    room_left 29 76 c.put_field-to-2.ensures (omega (arith, numeral_most c.lowest-ratio.result.numerator)) under in
    (omega (arith, numeral_most c.args.figures.greatest, over.0), over.1)

pub put_field-requires : goal.put_field-requires
unfolding slot_text
put_field-requires c =
    let end : RoomFor c.put-to.new.out c.put-to.result 126 =
    room_left 2 126 c.put-to.ensures (omega arith) (omega arith, c.requires) in
    let under : RoomFor c.put_field-to.new.out c.put_field-to.result 105 =
    room_left 21 105 c.put_field-to.ensures (omega (arith, numeral_most c.lowest-ratio.result.denominator)) end in
    let over : RoomFor c.put_field-to-2.new.out c.put_field-to-2.result 76 =
    room_left 29 76 c.put_field-to-2.ensures (omega (arith, numeral_most c.lowest-ratio.result.numerator)) under in
    let few : length (numeral c.args.figures.greatest) ≤ 20 = numeral_most c.args.figures.greatest in
    let most = room_left 32 44 c.put_field-to-3.ensures (omega arith) over in
    (omega (arith, numeral_most c.args.figures.takings, most.0), most.1)

pub returns : goal.returns
unfolding slot_text figures_text
returns c =
    let a = c.args in
    let from_under = put_before c.put-to.ensures c.put_field-to.ensures in
    let from_over = put_before from_under c.put_field-to-2.ensures in
    let from_most = put_before from_over c.put_field-to-3.ensures in
    let from_First = put_before from_most c.put_field.ensures in
    subst (λ (r : Ratio). Put a.out.now c.put_field.new.out c.put_field.result report_room
    (with_ratio a.figures.takings a.figures.greatest r)) c.lowest-ratio.ensures from_First
