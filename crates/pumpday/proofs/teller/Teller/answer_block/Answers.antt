-- The block, part by part. The loop's invariant: the bytes before the place were taken and their answers told
-- (`Told`). With room for the longest answer a part takes a byte at least, so that fewer and fewer bytes are left.
use Rattle.std.proofs.Common.{◌∙◌, ◌≤◌, refl, arith, length}
use Rattle.reply.specs.Session.{reply_room}
use Rattle.pumpday.proofs.Pumps.{part_first, part_less, part_more}
use Rattle.pumpday.proofs.teller.Teller.answer_block.Goals as goal

pub loop-from-init : goal.loop-from-init
loop-from-init c = let p = c.answer_part-from in (p.auto.out, p.ensures.inside, part_first p.ensures refl)

pub loop-from-smaller : goal.loop-from-smaller
loop-from-smaller c =
    let o = c.loop-from in
    let p = c.answer_part-from-in-loop-from in
    let room : reply_room ≤ length o.out = omega (arith, o.invariant.0, c.requires) in
    omega (arith, part_less p.ensures (omega arith) room, c.loop-from-test.true)

pub loop-from-preserved : goal.loop-from-preserved
loop-from-preserved c =
    let o = c.loop-from in
    let p = c.answer_part-from-in-loop-from in
    (p.auto.out ∙ o.invariant.0, p.ensures.inside, part_more p.ensures o.invariant.2)
