-- A run over a block: what stands before it, what is left of the input kept behind its lines, and where it has taken
-- all that it can.
use mathlib.Core.Path.{◌≡◌, refl, sym, ap, ◌∙◌, subst}
use mathlib.Core.List.{List, []}
use Prim.Native.Nat.{ℕ, ◌+◌, ◌-◌, ◌≤◌, ◌<◌}
use native.Mathlib.Omega.{arith}
use lib.ListN.{length, take, drop, length-drop, drop_of_length-le}
use lib.Seq.{take-length}
use Rattle.buffer.specs.Buffer.{Put}
use Rattle.day.specs.declared.Day.{Day}
use Rattle.lines.specs.Limits.{line_buffer}
use Rattle.reply.specs.Session.{Session, reply_room, longer, fed, consumed_count, upto}
use Rattle.buffer.proofs.Over.{part_is}
use Rattle.buffer.proofs.Puts.{put_none}
use Rattle.reply.proofs.Sessions.{consumed_nil}
use Rattle.batch.specs.Cited.{Position, line_of, Progress}
use Rattle.batch.proofs.Rests.{rest_fed, consumed_stop, consumed_rest}
use Rattle.batch.proofs.Turns.{fed_more, short, roomy, held_line}
use Rattle.stream.specs.Stream.{session}
use Rattle.stream.specs.Cited.{Processed}

-- no line ends in what is left, and the n bytes of g are what was pending with it behind
module _ (x : Session) (l d : List ℕ) (t : Position) (h e : List ℕ) (st : Progress x l d t h e)
    (room : t.at + reply_room ≤ length d)
    (none : upto (drop t.from l) ≡ length (drop t.from l)) (g : List ℕ) (n : ℕ) (few : n ≤ line_buffer)
    (wide : length g ≡ line_buffer)
    (kept : take n g ≡ line_of h t.kept (take (length l - t.from) (drop t.from l))) where
  pub rest_stands : Progress x l d (record { day = t.day; kept = n; from = length l; at = t.at }) g e
  rest_stands =
      let y = fed x (take t.from l) in
      let m = drop t.from l in
      let all : length l ≡ t.from + length m = omega (arith, length-drop t.from l, st.inside) in
      let z : fed x (take (length l) l) ≡ longer y m =
      ap (λ (i : ℕ). fed x (take i l)) all ∙ fed_more x l t.from (length m) ∙ ap (fed y) (take-length m)
      ∙ rest_fed y m (short x l d t h e st room) none in
      record {
        day = st.day ∙ sym (ap (λ (s : Session). s.day) z);
        pending = kept ∙ ap (line_of h t.kept) (part_is l t.from) ∙ held_line x l d t h e st room m
            ∙ sym (ap (λ (s : Session). s.pending) z);
        put = subst (Put d e 0 t.at) (sym (ap (λ (s : Session). s.output) z)) st.put;
        taken =
            let k = length d in
            let end : drop (length l) l ≡ [] = drop_of_length-le l {i = length l} (omega arith) in
            omega (
              arith,
              st.taken,
              consumed_rest k y m (short x l d t h e st room) (roomy x l d t h e st room) none,
              all,
              ap (consumed_count k (fed x (take (length l) l))) end,
              consumed_nil k (fed x (take (length l) l)),
            );
        inside = omega arith;
        few = few;
        wide = wide;
        fits = st.fits;
      }

module _ (s : Day) (h : List ℕ) (kept : ℕ) (l d : List ℕ) where
  -- before the first turn
  pub stands_first : kept ≤ line_buffer → length h ≡ line_buffer → Progress (session s h kept) l d
      (record { day = s; kept = kept; from = 0; at = 0 }) h d
  unfolding fed
  stands_first few wide = record {
    day = refl;
    pending = refl;
    put = put_none d 0;
    taken = omega arith;
    inside = omega arith;
    few = few;
    wide = wide;
    fits = omega arith;
  }

-- where the input is used up or there is no room
module _ (x : Session) (l d : List ℕ) (t : Position) (h e : List ℕ) (st : Progress x l d t h e) where
  runs : consumed_count (length d) x l ≡ t.from → Processed x l d e t h
  runs q = record {
    inside = st.inside;
    from = sym q;
    day = st.day ∙ ap (λ (i : ℕ). (fed x (take i l)).day) (sym q);
    pending = st.pending ∙ ap (λ (i : ℕ). (fed x (take i l)).pending) (sym q);
    put = subst (λ (i : ℕ). Put d e 0 t.at (fed x (take i l)).output) (sym q) st.put;
    fits = st.fits;
    few = st.few;
  }

  pub runs_through : length l ≤ t.from → Processed x l d e t h
  runs_through k =
      runs (omega (
        arith,
        st.taken,
        ap (consumed_count (length d) (fed x (take t.from l))) (drop_of_length-le l k),
        consumed_nil (length d) (fed x (take t.from l)),
      ))

  pub runs_full : length d < t.at + reply_room → Processed x l d e t h
  runs_full k =
      runs (omega (
        arith,
        st.taken,
        consumed_stop (length d) (fed x (take t.from l)) (drop t.from l)
            (omega (arith, st.put.next)),
      ))
