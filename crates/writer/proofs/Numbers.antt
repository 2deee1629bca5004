-- The number of an answer is that of the first question that fails, or 0, and the buffer is filled or as it was: each
-- answer is one arm of one test.
use mathlib.Core.Path.{◌≡◌, refl, sym}
use mathlib.Core.Bool.{Bool, true, false, cond}
use mathlib.Core.List.{[], ◌∷◌}
use lib.Dec.{eqb}
use lib.ListN.{length, drop}
use lib.Seq.{take_at, drop_at}
use borrow.Author.Tests.{eqb-true, le-leb, lt-leb}
use Rattle.std.specs.Prelude.{Ok, Err}
use Rattle.refusal.specs.Refusal.{refusal}
use Rattle.writer.specs.Writing.{line, write_question, writing, written, number, values, AlwaysTells}

pub tells : AlwaysTells
unfolding writing written write_question line
tells r d = record {
  number_is = numbered (eqb (write_question r d) 0) refl;
  values_are = valued (eqb (write_question r d) 0);
  out_of_range = λ e. (rw e, rw e);
  no_room = λ e l. let f = lt-leb (length (line r)) (length d) l in (rw (e, f), rw (e, f));
  fills = λ e l.
      let n = length (line r) in
      let f = le-leb n (length d) l in
      (rw (e, f), rw (e, f) (take_at (line r) (drop n d) n refl), rw (e, f) (drop_at (line r) (drop n d) n refl));
}
  where
    numbered : (t : Bool) → eqb (write_question r d) 0 ≡ t
        → number (cond t (Ok (length (line r))) (Err (refusal (write_question r d)))) ≡ write_question r d
    numbered true e = sym (eqb-true (write_question r d) 0 e)
    numbered false e = refl

    valued : (t : Bool) → values (cond t (Ok (length (line r))) (Err (refusal (write_question r d))))
        ≡ cond t (length (line r) ∷ []) (write_question r d ∷ [])
    valued true = refl
    valued false = refl
