-- With room for the longest answer a part takes a byte at least, so that fewer and fewer bytes are left.
use Rattle.std.proofs.Common.{arith, refl, ◌+◌, ◌≡◌, length, take, drop, rules, subst, ◌∙◌}
use Rattle.reply.specs.Session.{consumed_count}
use Rattle.stream.specs.Stream.{session_of}
use Rattle.stream.proofs.Chunking.{session_next}
use Rattle.stream.proofs.Parts.{stream_none, stream_more, part_fed, part_upto, part_inside, part_further, taken_further}
use Rattle.pumppage.specs.Cited.{Took}
use Rattle.pumppage.proofs.ReaderListener.take.Goals as goal

pub loop-from-init : goal.loop-from-init
loop-from-init c = (omega arith, stream_none c.args.self.now.stream, refl)

pub overflow_add-from : goal.overflow_add-from
overflow_add-from c =
    let o = c.loop-from in
    omega (
      arith,
      part_inside o.self.stream c.args.block.now o.self.out c.feed-fed.new.out o.from c.feed-fed.result o.invariant.0
          c.feed-fed.ensures,
    )

pub loop-from-smaller : goal.loop-from-smaller
loop-from-smaller c =
    let o = c.loop-from in
    let room : length o.self.out ≡ 65_536 = o.invariant.2 ∙ search rules in
    let upto = part_upto o.self.stream c.args.block.now o.self.out c.feed-fed.new.out o.from c.feed-fed.result o.invariant.0
    c.feed-fed.ensures in
    omega (
      arith,
      part_further o.self.stream c.args.block.now o.self.out o.from (o.from + c.feed-fed.result.consumed) upto
          c.loop-from-test.true (omega (arith, room)),
      c.loop-from-test.true,
    )

pub loop-from-preserved : goal.loop-from-preserved
loop-from-preserved c =
    let o = c.loop-from in
    let k = o.self.stream in
    let l = c.args.block.now in
    let r = c.feed-fed.result in
    let upto = part_upto k l o.self.out c.feed-fed.new.out o.from r o.invariant.0 c.feed-fed.ensures in
    let next = session_next (part_fed k l o.self.out c.feed-fed.new.out o.from r o.invariant.0 c.feed-fed.ensures) in
    let more = taken_further k l o.self.out o.from (o.from + r.consumed) upto in (
      part_inside k l o.self.out c.feed-fed.new.out o.from r o.invariant.0 c.feed-fed.ensures,
      subst (λ m. Took c.args.self.now.stream m r.stream) more (stream_more (session_of c.args.self.now.stream) (take o.from l)
          (take (consumed_count (length o.self.out) (session_of k) (drop o.from l)) (drop o.from l)) (session_of k) o.invariant.1
          (session_of r.stream) next),
      c.feed-fed.auto.out ∙ o.invariant.2,
    )
