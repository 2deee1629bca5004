-- What parts of an input, taken one after the other, add up to. `Told` says what a teller's stream has come to, and
-- that its answers were told; since feeding composes, a part and then a part is a part (`tells_more`), a block is the
-- sum of its parts, and `Reached` carries the sum over the blocks that reads gave. At the end of input the theorem for
-- any input turns what was told into the answers to the lines (`ran_through`); where a run stops before, it is the
-- answers to the lines that end in what was taken (`ran_unsent`, `ran_spent`).
use mathlib.Core.Path.{◌≡◌, refl, sym, ap, ap₂, ◌∙◌, subst, subst⁻¹}
use mathlib.Core.Bool.{Bool, true, false}
use mathlib.Core.List.{List, [], ◌∷◌, ◌++◌, append_assoc, append-nil}
use Prim.Native.Nat.{ℕ, suc, ◌+◌, ◌-◌, ◌≤◌, ◌<◌}
use native.Mathlib.Omega.{arith}
use lib.ListN.{length, take, drop, take-append-drop}
use lib.Seq.{take-take, take-length, length-take-le}
use Rattle.finite.proofs.Tests.{never}
use Rattle.day.specs.Day.{blank}
use Rattle.reply.specs.Session.{Session, reply_room, fed, consumed_count}
use Rattle.stream.specs.declared.feed.Fed.{Fed}
use Rattle.stream.specs.Stream.{finished, session_of, silent, consumed_bytes, Feeds}
use Rattle.stream.specs.Input.{after_lines, replies, Split, all_lines}
use Rattle.stream.proofs.Chunking.{finished_said, front_said, session_next, split, output_at_end, state_at_end}
use Rattle.stream.proofs.Parts.{stream_more, said_more, part_fed, part_upto, part_inside, part_further, taken_further}
use Rattle.programs.proofs.Lines.{lines_keep_the_demands}
use Rattle.wire.specs.declared.Wire.{Wire}
use Rattle.wire.specs.Wires.{counted_on, max_reads, Reads, Writes, input_of}
use Rattle.wire.proofs.Blocks as reads
use Rattle.wire.proofs.Blocks.{counted_more, writes_more}
use Rattle.pumpday.specs.declared.teller.Teller.{Teller}
use Rattle.pumpday.specs.Telling.{new_teller, Told}
use Rattle.pumpday.specs.Pump.{Runs}
use Rattle.pumpday.specs.Cited.{held, by, Part, Whole, Taken}
use Rattle.pumpday.proofs.Fronts.{front}

-- l, and then m
tells_more : {w v u : Teller} (l m : List ℕ) → Told w (by w l) v → Told v (by v m) u → Told w (by w (l ++ m)) u
tells_more {w} {v} {u} l m t s = record {
  stream_is = stream_more (held w) l m (held v) t.stream_is (held u) s.stream_is;
  writes =
      subst (λ (b : List ℕ). Writes w.wire b u.wire) (said_more (held w) l m (held v) t.stream_is)
      (writes_more (by w l).output (by v m).output t.writes s.writes);
}

-- One part.
module _ (w : Teller) (l d e : List ℕ) (from : ℕ) (r : Fed) (h : from ≤ length l)
    (f : Feeds w.stream (take (length l - from) (drop from l)) d e r) where
  fed_part : Feeds w.stream (drop from l) d e r
  fed_part = part_fed w.stream l d e from r h f

  -- what the stream comes to, by the bytes that it took
  part_taken : by w (take (from + r.consumed - from) (drop from l))
      ≡ by w (take (consumed_count (length d) (held w) (drop from l)) (drop from l))
  part_taken =
      let n : from + r.consumed - from ≡ r.consumed = omega arith in
      ap (λ (i : ℕ). by w (take i (drop from l))) (n ∙ ap (λ (b : Fed). b.consumed) fed_part.back_is)

  -- what stands at the front of the buffer is due for them
  pub part_due : take r.written e ≡ (by w (take (from + r.consumed - from) (drop from l))).output
  part_due = front_said fed_part ∙ sym (ap (λ (y : Session). y.output) part_taken)

  pub part_next : session_of r.stream ≡ silent (by w (take (from + r.consumed - from) (drop from l)))
  part_next = session_next fed_part ∙ sym (ap silent part_taken)

  pub part_is : (v : Teller) → Told w (by w (take (from + r.consumed - from) (drop from l))) v
      → Part w l d from v (from + r.consumed)
  part_is v q = record {
    upto_is = part_upto w.stream l d e from r h f;
    inside = part_inside w.stream l d e from r h f;
    tells = subst (λ (y : Session). Told w y v) part_taken q;
  }

-- The block, part by part: the teller v has told the bytes before a place, and a part more of them is told.
module _ {l d : List ℕ} {v u : Teller} {from to : ℕ} (p : Part v l d from u to) where
  pub part_less : from < length l → reply_room ≤ length d → from < to
  part_less = part_further v.stream l d from to p.upto_is

  -- the first part
  pub part_first : from ≡ 0 → Told v (by v (take to l)) u
  part_first z =
      let e : to ≡ consumed_count (length d) (held v) l =
      p.upto_is ∙ ap (λ (i : ℕ). i + consumed_count (length d) (held v) (drop i l)) z ∙ omega arith in
      subst⁻¹ (λ (i : ℕ). Told v (by v (take i l)) u) e
      (subst (λ (i : ℕ). Told v (by v (consumed_bytes (held v) (drop i l) d)) u) z p.tells)

  pub part_more : {w : Teller} → Told w (by w (take from l)) v → Told w (by w (take to l)) u
  part_more {w} h =
      subst (λ (m : List ℕ). Told w (by w m) u) (taken_further v.stream l d from to p.upto_is)
      (tells_more (take from l) _ h p.tells)

pub stopped : {w v : Teller} {l : List ℕ} {to : ℕ} → to ≤ length l → Told w (by w (take to l)) v
    → v.wire.sent ≡ false → Whole w l v to
stopped {v = v} h o e = record { inside = h; tells = o; all = λ s. absurd (never v.wire.sent e s) }

-- One read.
pub taken_is : {w : Teller} {l : List ℕ} {n : ℕ} {v : Wire} {u : Teller} {to : ℕ} → Reads w.wire l n v
    → Whole (record { stream = w.stream; wire = v }) (take n l) u to → Taken w l u
taken_is {w} {l} {n} {v} {u} {to} r o =
    let m : length (take n l) ≡ n = length-take-le n l r.inside in
    let h : to ≤ n = omega (arith, o.inside, m) in
    record {
      n = n;
      read = v;
      reads = r;
      taken = to;
      inside = h;
      tells =
          subst (λ (b : List ℕ). Told (record { stream = w.stream; wire = v }) (by w b) u)
          (take-take to n l h) o.tells;
      all = λ s. o.all s ∙ m;
    }

-- A run: the teller w, after reads that gave blocks, with so many turns left.
pub record Reached (w : Teller) (turns : ℕ) : Type 0 where
  pub blocks : List (List ℕ)
  pub reads : reads.Reached w.wire blocks turns
  pub failed_ends : w.wire.failed ≡ true → w.wire.ended ≡ true
  pub going : w.wire.ended ≡ false
  pub stream_is : held w ≡ silent (by new_teller (input_of blocks))
  pub told_is : w.wire.told ≡ counted_on 0 (by new_teller (input_of blocks)).output

pub reached_none : Reached new_teller max_reads
unfolding fed
reached_none = record {
  blocks = [];
  reads = reads.reached_none;
  failed_ends = λ e. absurd (never false refl e);
  going = refl;
  stream_is = refl;
  told_is = refl;
}

module _ {w : Teller} {turns : ℕ} (a : Reached w turns) {l : List ℕ} {v : Teller} (r : Taken w l v) where
  abbrev input : List ℕ
  input = input_of a.blocks

  -- what the read gave, and what was taken of it
  abbrev given : List ℕ
  given = take r.n l

  abbrev front_given : List ℕ
  front_given = take r.taken l

  all_given : v.wire.sent ≡ true → front_given ≡ given
  all_given s = ap (λ (i : ℕ). take i l) (r.all s)

  given_whole : (input ++ front_given) ++ drop r.taken given ≡ input ++ given
  given_whole =
      append_assoc input front_given (drop r.taken given)
      ∙ ap (λ (m : List ℕ). input ++ (m ++ drop r.taken given)) (sym (take-take r.taken r.n l r.inside))
      ∙ ap (λ (m : List ℕ). input ++ m) (take-append-drop r.taken given)

  more_got : v.wire.got ≡ counted_on 0 (input ++ given)
  more_got = r.tells.writes.got_is ∙ reads.more_got a.reads r.reads

  more_stream : held v ≡ silent (by new_teller (input ++ front_given))
  more_stream = stream_more (held new_teller) input front_given (held w) a.stream_is (held v) r.tells.stream_is

  more_told : v.wire.told ≡ counted_on 0 (by new_teller (input ++ front_given)).output
  more_told =
      r.tells.writes.told_is
      ∙ ap (λ (i : ℕ). counted_on i (by w front_given).output) (r.reads.told_is ∙ a.told_is)
      ∙ counted_more 0 (by new_teller input).output (by w front_given).output
      ∙ ap (counted_on 0) (said_more (held new_teller) input front_given (held w) a.stream_is)

  -- whether the read gave nothing, whatever was written after it
  as_read : {b : Bool} → v.wire.ended ≡ b → r.read.ended ≡ b
  as_read e = sym r.tells.writes.ended_is ∙ e

  more_failed : v.wire.failed ≡ true → v.wire.ended ≡ true
  more_failed f = r.tells.writes.ended_is ∙ r.reads.failed_ends (sym r.tells.writes.failed_is ∙ f)

  pub reached_more : v.wire.sent ≡ true → v.wire.ended ≡ false → {n : ℕ} → suc n ≡ turns → Reached v n
  reached_more s e q =
      let all = ap (λ (m : List ℕ). input ++ m) (all_given s) in
      record {
        blocks = given ∷ a.blocks;
        reads = reads.reached_still (reads.reached_more a.reads r.reads (as_read e) q) r.tells.writes;
        failed_ends = more_failed;
        going = e;
        stream_is = more_stream ∙ ap (λ (m : List ℕ). silent (by new_teller m)) all;
        told_is = more_told ∙ ap (λ (m : List ℕ). counted_on 0 (by new_teller m).output) all;
      }

  pub ran_unsent : v.wire.sent ≡ false → Runs v
  ran_unsent e =
      let bs = reads.with_block given a.blocks in
      let same : input_of bs ≡ input ++ given = reads.with_block_input given a.blocks in
      let x = front (input ++ front_given) (drop r.taken given) (input_of bs) (given_whole ∙ sym same) in
      record {
        blocks = bs;
        none_empty = reads.with_block_none_empty given a.blocks a.reads.none_empty;
        input = x.input;
        got_is = more_got ∙ ap (counted_on 0) (sym same);
        failed_ends = more_failed;
        ended_is = λ s h. absurd (never v.wire.sent e s);
        answered = x.answered;
        state_is = ap (λ (z : Session). z.day) more_stream ∙ x.state_is;
        told_is = more_told ∙ ap (counted_on 0) x.output_is;
        all_answered = λ s h. absurd (never v.wire.sent e s);
        demands = lines_keep_the_demands (all_lines x.input);
      }

  -- the last read gave nothing
  pub ran_through : v.wire.sent ≡ true → v.wire.ended ≡ true → {u : Teller} → Told v (finished (held v)) u → Runs u
  ran_through s e {u} q =
      let none = reads.no_more a.reads r.reads (as_read e) in
      let all = ap (λ (m : List ℕ). input ++ m) (all_given s) ∙ none in
      let x = by new_teller input in
      let i : Split input = split input in
      let every_line = sym (take-length (all_lines i)) in
      let told : v.wire.told ≡ counted_on 0 x.output =
      more_told ∙ ap (λ (m : List ℕ). counted_on 0 (by new_teller m).output) all in
      let stream : held v ≡ silent x = more_stream ∙ ap (λ (m : List ℕ). silent (by new_teller m)) all in
      record {
        blocks = a.blocks;
        none_empty = a.reads.none_empty;
        input = i;
        got_is = q.writes.got_is ∙ more_got ∙ ap (counted_on 0) none;
        failed_ends = λ f. q.writes.ended_is ∙ e;
        ended_is = λ y h. q.writes.ended_is ∙ e;
        answered = length (all_lines i);
        state_is =
            ap (λ (z : Session). z.day) q.stream_is
            ∙ ap (λ (z : Session). (finished z).day) stream
            ∙ state_at_end input i
            ∙ ap (after_lines blank) every_line;
        told_is =
            q.writes.told_is
            ∙ ap₂ (λ (j : ℕ) (z : Session). counted_on j (finished z).output) told stream
            ∙ counted_more 0 x.output (finished (silent x)).output
            ∙ ap (counted_on 0) (sym (finished_said x) ∙ output_at_end input i ∙ ap (replies blank) every_line);
        all_answered = λ y h. refl;
        demands = lines_keep_the_demands (all_lines i);
      }

pub ran_spent : {w : Teller} {turns : ℕ} → Reached w turns → turns ≤ 0 → Runs w
ran_spent {w} a h =
    let input = input_of a.blocks in
    let x = front input [] input (append-nil input) in
    record {
      blocks = a.blocks;
      none_empty = a.reads.none_empty;
      input = x.input;
      got_is = a.reads.got_is;
      failed_ends = a.failed_ends;
      ended_is = λ e i. absurd (omega (arith, a.reads.left));
      answered = x.answered;
      state_is = ap (λ (z : Session). z.day) a.stream_is ∙ x.state_is;
      told_is = a.told_is ∙ ap (counted_on 0) x.output_is;
      all_answered = λ e i. absurd (never w.wire.ended a.going i);
      demands = lines_keep_the_demands (all_lines x.input);
    }
