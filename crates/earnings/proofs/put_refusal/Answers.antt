-- The line of a refusal, from its last byte to its first.
use mathlib.Core.Path.{◌≡◌, ap, sym, subst}
use mathlib.Core.List.{List, [], ◌∷◌, ◌++◌, append_assoc}
use Prim.Native.Nat.{ℕ}
use native.Mathlib.Omega.{arith}
use Rattle.buffer.proofs.Puts.{put_before}
use Rattle.buffer.specs.Buffer.{Put}
use Rattle.lines.specs.declared.Record.TheVariants.{Refused}
use Rattle.lines.specs.Numeral.{numeral}
use Rattle.lines.specs.Form.{bytes, template, numbers, slot_text, piece, numbers_after, filled, text}
use Rattle.lines.proofs.Numerals.{numeral_most}
use Rattle.writer.specs.Writing.{line}
use Rattle.earnings.specs.Earnings.{report_room}
use Rattle.earnings.proofs.put_refusal.Goals as goal

pub put_field-requires : goal.put_field-requires
unfolding slot_text
put_field-requires c =
    let p = c.put-to.ensures in
    (omega (arith, p.next, numeral_most c.args.refusal.question), omega (arith, p.next, p.same, c.requires))

-- the bytes put are the line's
spelled : (q : ℕ) → bytes "(refused " ++ (numeral q ++ bytes ")\n") ≡ line (Refused q)
unfolding line text template numbers filled piece slot_text numbers_after
spelled q = ap (λ (l : List ℕ). bytes "(refused " ++ l) (sym (append_assoc (numeral q) (41 ∷ []) (10 ∷ [])))

pub returns : goal.returns
unfolding slot_text
returns c =
    subst (λ (l : List ℕ). Put c.args.out.now c.put_field.new.out c.put_field.result report_room l)
    (spelled c.args.refusal.question) (put_before c.put-to.ensures c.put_field.ensures)
