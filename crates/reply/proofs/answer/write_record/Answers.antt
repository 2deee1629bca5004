-- A record in its ranges with room for its line is never refused; its line over the front of out from `at` on is its
-- line over out at `at`.
use mathlib.Core.Path.{◌≡◌, refl, ap, sym, ◌∙◌, subst}
use mathlib.Core.Bool.{true}
use mathlib.Core.List.{List, [], ◌++◌, append-nil}
use Prim.Native.Nat.{ℕ, ◌+◌, ◌-◌, ◌≤◌}
use native.Mathlib.Omega.{arith}
use lib.ListN.{length, take, drop, length-drop, drop_of_length-le}
use Rattle.lines.specs.declared.Record.{Record}
use Rattle.lines.specs.Limits.{answer_room}
use Rattle.lines.specs.Form.{is_output, in_range}
use Rattle.std.specs.Prelude.{Result, Ok}
use Rattle.std.specs.Result.{IsOk}
use Rattle.refusal.specs.declared.Refusal.{Refusal}
use Rattle.writer.specs.Writing.{line, writing, written}
use Rattle.buffer.specs.Buffer.{over, Put}
use Rattle.buffer.proofs.Over.{over_length, over_part, part_is}
use Rattle.reply.proofs.Writes.{line_most, writing_is, written_is}
use Rattle.reply.proofs.answer.write_record.Goals as goal

-- the record r is an output form in its ranges, and o has room for its line from the place at on
module _ (r : Record) (o : List ℕ) (at : ℕ) (z : Result ℕ Refusal)
    (p : (in_range r ≡ true) × (is_output r ≡ true) × (at + answer_room ≤ length o))
    (q : z ≡ writing r (take (length o - at) (drop at o))) where
  answer_is : z ≡ Ok (length (line r))
  answer_is = q ∙ ap (writing r) (part_is o at) ∙ writing_is r (drop at o) p.0 p.1
      (omega (arith, p.2, length-drop at o))

  length_is : (n : ℕ) → z ≡ Ok n → n ≡ length (line r)
  length_is n e = let f = answer_is in cc

  sent : (n : ℕ) → z ≡ Ok n → (e : List ℕ) → e ≡ written r (take (length o - at) (drop at o))
      → Put o (take at o ++ (e ++ drop (length o - at) (drop at o))) at (at + n) (line r)
  sent n f e g =
      let h : e ≡ over (drop at o) 0 (line r) = g ∙ ap (written r) (part_is o at)
      ∙ written_is r (drop at o) p.0 p.1 (omega (arith, p.2, length-drop at o)) in
      let k : drop (length o - at) (drop at o) ≡ [] = drop_of_length-le (drop at o) {i = length o - at}
      (omega (arith, length-drop at o)) in
      let m : take at o ++ (e ++ drop (length o - at) (drop at o)) ≡ over o at (line r) =
      ap (λ (l : List ℕ). take at o ++ (e ++ l)) k ∙ ap (λ (l : List ℕ). take at o ++ l) (append-nil e ∙ h)
      ∙ over_part o at (line r) (omega (arith, p.2)) in
      record {
        next = ap (λ (i : ℕ). at + i) (length_is n f);
        here = m;
        same = ap length m ∙ over_length o at (line r);
      }

pub unwrap-requires : goal.unwrap-requires
unwrap-requires c =
    let e = answer_is c.args.r c.args.out.now c.args.at c.write_line.result c.requires c.write_line.ensures.0 in
    subst IsOk (sym e) refl

pub overflow_add-result : goal.overflow_add-result
overflow_add-result c =
    let a = c.args in
    let n = length_is a.r a.out.now a.at c.write_line.result c.requires c.write_line.ensures.0 _ c.unwrap.ensures in
    omega (arith, n, line_most a.r c.requires.1)

pub returns : goal.returns
returns c =
    let a = c.args in
    let w = c.write_line in
    sent a.r a.out.now a.at w.result c.requires w.ensures.0 _ c.unwrap.ensures _ w.ensures.1
