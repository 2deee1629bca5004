-- A further digit that leaves the range ends the loop: more digits make no smaller number.
use Rattle.std.proofs.Common.{◌≡◌, ℕ, ◌+◌, ◌-◌, ◌*◌, arith, sym, ap, ◌∙◌, get_or, length, take, drop}
use borrow.Author.Tests.{leb-true, leb-false}
use Rattle.lines.specs.Reading.{value, digits, ranged}
use Rattle.lines.proofs.Digits.{digits_next, digits_stop, digits_least, slot_yes, ranged_yes, ranged_above}
use Rattle.lines.proofs.scan.more_digits.Goals as goal
use Rattle.lines.proofs.scan.more_digits.Goals.{in_default, in_default-2, in_default-3}

pub returns-then-not-has_room : goal.returns-then-not-has_room
returns-then-not-has_room c =
    let o = c.loop-rest in
    let d = sym (digits_next o.number o.rest.now (omega arith) (omega arith) (omega arith)) ∙ o.invariant.0 in
    let after = take (length o.rest.now - 1) (drop 1 o.rest.now) in
    let over =
    leb-false (o.number * 10 + c.from-digit.result) c.slot_max.result (sym c.has_room.ensures ∙ c.if-not-has_room.true) in
    let least = digits_least after (o.number * 10 + (get_or o.rest.now 0 0 - 48)) in
    sym (ranged_above c.args.slot _
    (omega (arith, over, c.slot_max.ensures, c.from-digit.ensures, least, ap value d)))

pub loop-rest-preserved : goal.loop-rest-preserved
loop-rest-preserved c =
    let o = c.loop-rest in
    let d = sym (digits_next o.number o.rest.now (omega arith) (omega arith) (omega arith)) ∙ o.invariant.0 in
    let after = take (length o.rest.now - 1) (drop 1 o.rest.now) in
    let e : o.number * 10 + c.from-digit.result ≡ o.number * 10 + (get_or o.rest.now 0 0 - 48) =
    omega (arith, c.from-digit.ensures) in
    let fits =
    leb-true (o.number * 10 + c.from-digit.result) c.slot_max.result (sym c.has_room.ensures ∙ c.if-not-has_room.false) in (
      ap (λ (n : ℕ). digits n after) e ∙ d,
      omega (arith, o.invariant.1),
      omega (arith, fits, c.slot_max.ensures),
    )

pub returns : goal.returns
returns c =
    let o = c.loop-rest in
    let stop = digits_stop o.number o.rest.now (λ a b d.
    elim c.if-rest-lt1.branch [ in_default w ↦ omega arith | in_default-2 w ↦ omega arith | in_default-3 w ↦ omega arith ]) in
    sym (ap (ranged c.args.slot) (sym o.invariant.0 ∙ stop)
    ∙ ranged_yes c.args.slot o.number o.rest.now (slot_yes c.args.slot o.number o.invariant.1 o.invariant.2))
