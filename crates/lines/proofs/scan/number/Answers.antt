-- A numeral by its first byte: 0, where the slot takes it, a digit from 1 to 9, or another byte or none.
use Rattle.std.proofs.Common.{ℕ, ◌+◌, ◌-◌, ◌*◌, ◌≡◌, ◌<◌, ◌≤◌, arith, sym, ap, ◌∙◌, get_or, length, take, drop}
use Rattle.lines.specs.Reading.{digits, ranged}
use Rattle.lines.proofs.Digits.{digits_next, numeral_zero, numeral_lead, numeral_none, ranged_yes, ranged_no}
use Rattle.lines.proofs.scan.number.Goals as goal
use Rattle.lines.proofs.scan.number.Goals.{in_default-via-then-s-lt1, in_default-via-in-48+else-in_slot}
use Rattle.lines.proofs.scan.number.Goals.{in_default-via-else-s-lt1+in_default+then-s-lt48}
use Rattle.lines.proofs.scan.number.Goals.{in_default-via-else-s-lt1+in_default+else-s-lt48+else-s-lt58}

pub returns-in-48 : goal.returns-in-48
returns-in-48 c =
    let s = c.args.s.now in
    sym (ap (ranged c.args.slot) (numeral_zero s (omega arith) (omega arith))
    ∙ ranged_yes c.args.slot 0 _ (sym c.in_slot.ensures ∙ c.if-in_slot.true))

pub returns-in-49-to-57 : goal.returns-in-49-to-57
returns-in-49-to-57 c =
    let s = c.args.s.now in
    let after = take (length s - 1) (drop 1 s) in
    let e : c.from.result ≡ 0 * 10 + (get_or s 0 0 - 48) = omega (arith, c.from.ensures) in
    c.more_digits.ensures
    ∙ ap (ranged c.args.slot) (ap (λ (n : ℕ). digits n after) e
    ∙ sym (digits_next 0 s (omega arith) (omega arith) (omega arith))
    ∙ sym (numeral_lead s (omega arith) (omega arith) (omega arith)))

pub returns-in_default : goal.returns-in_default
returns-in_default c =
    let s = c.args.s.now in
    let none =
    λ (h : 0 < length s → 48 ≤ get_or s 0 0 → get_or s 0 0 ≤ 57 → ⊥). sym (ap (ranged c.args.slot) (numeral_none s h)) in
    elim c.in_default.branch [
      | in_default-via-then-s-lt1 w ↦ none (λ a b d. grind arith)
      | in_default-via-in-48+else-in_slot w ↦
          sym (ap (ranged c.args.slot) (numeral_zero s (omega arith) (omega arith))
          ∙ ranged_no c.args.slot 0 _ (sym w.in_slot.ensures ∙ w.if-in_slot.false))
      | in_default-via-else-s-lt1+in_default+then-s-lt48 w ↦ none (λ a b d. grind arith)
      | in_default-via-else-s-lt1+in_default+else-s-lt48+else-s-lt58 w ↦ none (λ a b d. grind arith)
    ]
