-- Writing an output form that is in its ranges, where there is room for the longest answer; and the lines of records.
use mathlib.Core.Path.{◌≡◌, refl, sym, ap, ◌∙◌}
use mathlib.Core.Bool.{true}
use mathlib.Core.List.{List, [], ◌∷◌, ◌++◌, append_assoc, append-nil}
use Prim.Native.Nat.{ℕ, ◌≤◌}
use native.Mathlib.Omega.{arith}
use lib.ListN.{length, length-append}
use borrow.Author.Tests.{le-leb}
use Rattle.lines.specs.Limits.{answer_room}
use Rattle.lines.specs.Form.{is_output, text, in_range}
use Rattle.lines.specs.declared.Record.{Record}
use Rattle.lines.proofs.Choice.{answer_most}
use Rattle.std.specs.Prelude.{Ok}
use Rattle.writer.specs.Writing.{line, write_question, writing, written}
use Rattle.buffer.specs.Buffer.{over}
use Rattle.buffer.proofs.Over.{over_front}
use Rattle.buffer.proofs.Puts.{put_none}
use Rattle.reply.specs.Reply.{record_lines}

pub line_most : (r : Record) → is_output r ≡ true → length (line r) ≤ answer_room
unfolding line
line_most r o = omega (arith, length-append (text r) (10 ∷ []), answer_most r o)

-- writing an output form that is in its ranges into a buffer that has room
module _ (r : Record) (d : List ℕ) (h : in_range r ≡ true) (o : is_output r ≡ true)
    (k : answer_room ≤ length d) where
  no_question : write_question r d ≡ 0
  unfolding write_question
  no_question = rw (h, le-leb (length (line r)) (length d) (omega (arith, line_most r o)))

  pub writing_is : writing r d ≡ Ok (length (line r))
  unfolding writing
  writing_is = rw no_question

  pub written_is : written r d ≡ over d 0 (line r)
  unfolding written
  written_is = rw no_question (sym (over_front d (line r) (omega (arith, line_most r o))))

-- the lines of records

pub no_lines : record_lines [] ≡ []
unfolding record_lines
no_lines = refl

pub one_line : (r : Record) → record_lines (r ∷ []) ≡ line r
unfolding record_lines
one_line r = append-nil (line r)

pub lines_append : (a b : List Record) → record_lines (a ++ b) ≡ record_lines a ++ record_lines b
unfolding record_lines
lines_append [] b = refl
lines_append (r ∷ a) b =
    ap (λ (w : List ℕ). line r ++ w) (lines_append a b) ∙ sym (append_assoc (line r) (record_lines a) (record_lines b))

-- what an answer of one record, or of none, has to show
pub ruleset one_record = (line_most, one_line, no_lines, put_none)
