-- The numeral that ends at a place, from its last digit to its first, two a turn. The loop's invariant: the digits from
-- the place i on stand, those of `rest` are to come and have the room before i.
use mathlib.Core.Path.{◌≡◌, refl}
use Prim.Native.Nat.{◌+◌, ◌/◌, ◌%◌}
use native.Mathlib.Omega.{arith}
use lib.ListN.{length-set}
use Rattle.lines.specs.Numeral.{numeral}
use Rattle.buffer.proofs.Puts.{backward_start, backward_room}
use Rattle.print.proofs.Lengths.{numeral_some}
use Rattle.print.proofs.Digits.{numeral_two, next_digit, first_digit, next_pair}
use Rattle.print.proofs.put_number.Goals as goal

pub loop-rest-init : goal.loop-rest-init
loop-rest-init c = record {
  stands = backward_start (numeral c.args.n) c.args.out.now c.args.to;
  room = c.requires.0;
  within = omega arith;
  small = omega arith;
  same = refl;
}

pub loop-rest-preserved : goal.loop-rest-preserved
loop-rest-preserved c =
    let o = c.loop-rest in
    let k = numeral_two o.rest (omega arith) o.invariant.small in
    let low : c.digit.result ≡ 48 + o.rest % 10 = omega arith in
    let high : c.digit-in-loop-rest.result ≡ 48 + o.rest / 10 % 10 = omega arith in
    let s = next_pair c.args.n o.rest o.invariant.stands _ _ low high
    (omega (arith, o.invariant.room)) (omega arith) (omega arith) o.invariant.small in
    record {
      stands = s;
      room = (backward_room s c.requires).0;
      within = omega arith;
      small = omega arith;
      same = simp length-set o.invariant.same;
    }

-- the last digit that is put is the numeral's first
pub returns-then-rest-lt10 : goal.returns-then-rest-lt10
returns-then-rest-lt10 c =
    let o = c.loop-rest in
    first_digit c.args.n o.rest o.invariant.stands _ c.digit-2.ensures
    (omega (arith, o.invariant.room, numeral_some o.rest)) (omega arith) c.if-rest-lt10.true

pub returns : goal.returns
returns c =
    let o = c.loop-rest in
    let k = numeral_two o.rest c.if-rest-lt10.false o.invariant.small in
    let s = next_digit c.args.n o.rest o.invariant.stands _ c.digit-2.ensures (omega (arith, o.invariant.room))
    (omega arith) c.if-rest-lt10.false o.invariant.small in
    first_digit c.args.n (o.rest / 10) s _ c.digit-3.ensures (omega (arith, o.invariant.room)) (omega arith)
    (omega arith)

pub bounds-out-i-in-loop-rest : goal.bounds-out-i-in-loop-rest
bounds-out-i-in-loop-rest c =
    let o = c.loop-rest in
    simp length-set (omega (arith, o.invariant.room, numeral_two o.rest (omega arith) o.invariant.small))

pub bounds-out-i-3 : goal.bounds-out-i-3
bounds-out-i-3 c =
    let o = c.loop-rest in
    simp length-set (omega (arith, o.invariant.room, numeral_two o.rest c.if-rest-lt10.false o.invariant.small))
