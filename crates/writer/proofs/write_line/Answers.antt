-- The two questions, then the line. `size_of` has measured the record before the buffer is touched, so each way out is
-- a case of the definitions; a line that ends at the place of its length begins at the front.
use mathlib.Core.Path.{◌≡◌, ap, sym, subst, ◌∙◌}
use mathlib.Core.Bool.{true, false, not}
use mathlib.Core.List.{List}
use Prim.Native.Nat.{ℕ, ◌≤◌, ◌<◌}
use native.Mathlib.Omega.{arith}
use lib.Dec.{leb}
use lib.ListN.{length}
use borrow.Author.Tests.{le-leb, lt-leb}
use Rattle.std.specs.Prelude.{is_some, Ok, Err}
use Rattle.lines.specs.Form.{in_range}
use Rattle.lines.specs.declared.Record.{Record}
use Rattle.refusal.specs.Refusal.{refusal}
use Rattle.print.specs.declared.Size.{Size}
use Rattle.buffer.specs.Buffer.{over, Put}
use Rattle.writer.specs.Cited.{sized, LineSized}
use Rattle.writer.specs.Writing.{line, write_question, writing, written}
use Rattle.buffer.proofs.Over.{over_front}
use Rattle.writer.proofs.Lines.{line_slots, line_sized}
use Rattle.writer.proofs.write_line.Goals as goal

-- the two refusals and the line, where z is the size of r
module _ (r : Record) (d : List ℕ) {z : Size} (s : z ≡ sized r) where
  abbrev p : LineSized r z
  p = subst (LineSized r) (sym s) (line_sized r)

  long : z.len ≡ length (line r)
  long = p.len ∙ sym (line_slots r)

  out_of_range : is_some z.outside ≡ true → (Err (refusal 17) ≡ writing r d) × (d ≡ written r d)
  unfolding writing written write_question
  out_of_range h = let e : in_range r ≡ false = sym p.ok ∙ ap not h in (rw e, rw e)

  no_room : is_some z.outside ≡ false → length d < z.len → (Err (refusal 18) ≡ writing r d) × (d ≡ written r d)
  unfolding writing written write_question
  no_room h l =
      let e : in_range r ≡ true = sym p.ok ∙ ap not h in
      let f : leb (length (line r)) (length d) ≡ false = lt-leb (length (line r)) (length d) (omega (arith, long)) in
      (rw (e, f), rw (e, f))

  wrote : {out : List ℕ} {at : ℕ} → is_some z.outside ≡ false → z.len ≤ length d → Put d out at z.len (line r)
      → (Ok z.len ≡ writing r d) × (out ≡ written r d)
  unfolding writing written write_question
  wrote {out = out} {at = at} h l q =
      let e : in_range r ≡ true = sym p.ok ∙ ap not h in
      let b : length (line r) ≤ length d = omega (arith, long) in
      let f : leb (length (line r)) (length d) ≡ true = le-leb (length (line r)) (length d) b in
      let front : at ≡ 0 = omega (arith, long, q.next) in (
        rw (e, f) (ap Ok long),
        rw (e, f) (q.here ∙ ap (λ (k : ℕ). over d k (line r)) front ∙ over_front d (line r) b),
      )

pub returns-then-is_some : goal.returns-then-is_some
returns-then-is_some c =
    out_of_range c.args.r c.args.out.now c.size_of-size.ensures (sym c.is_some.ensures ∙ c.if-is_some.true)

pub returns-then-out-size : goal.returns-then-out-size
returns-then-out-size c =
    no_room c.args.r c.args.out.now c.size_of-size.ensures (sym c.is_some.ensures ∙ c.if-is_some.false)
    c.if-out-size.true

pub returns : goal.returns
returns c =
    wrote c.args.r c.args.out.now c.size_of-size.ensures (sym c.is_some.ensures ∙ c.if-is_some.false)
    c.if-out-size.false c.put_record.ensures
