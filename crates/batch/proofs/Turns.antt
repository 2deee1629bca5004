-- A turn in which a line ends keeps `Progress`.
use mathlib.Core.Path.{◌≡◌, sym, ap, ◌∙◌, subst}
use mathlib.Core.List.{List, ◌++◌}
use Prim.Native.Nat.{ℕ, suc, ◌+◌, ◌≤◌, ◌<◌}
use native.Mathlib.Omega.{arith}
use lib.ListN.{length, take, drop, length-take, length-drop}
use lib.Seq.{take-add, drop-drop}
use Rattle.buffer.specs.Buffer.{Put}
use Rattle.day.specs.declared.Day.{Day}
use Rattle.lines.specs.Limits.{line_buffer}
use Rattle.reply.specs.Reply.{reply, next}
use Rattle.buffer.proofs.Puts.{put_then}
use Rattle.reply.specs.Session.{Session, reply_room, longer, ended, fed, consumed_count, upto}
use Rattle.batch.specs.Cited.{Position, line_of, Line, Progress}
use Rattle.reply.proofs.Sessions.{fed_append, line_fed, consumed_line}

pub fed_more : (x : Session) (l : List ℕ) (i k : ℕ) → fed x (take (i + k) l)
    ≡ fed (fed x (take i l)) (take k (drop i l))
fed_more x l i k = ap (fed x) (take-add i k l) ∙ fed_append x (take i l) (take k (drop i l))

-- y stands after the first bytes of l, and m are the bytes behind them
module _ (x : Session) (l d : List ℕ) (t : Position) (h e : List ℕ) (st : Progress x l d t h e)
    (room : t.at + reply_room ≤ length d) where
  pub short : length (fed x (take t.from l)).pending ≤ line_buffer
  short = omega (arith, ap length st.pending, length-take t.kept h, st.few)

  pub roomy : length (fed x (take t.from l)).output + reply_room ≤ length d
  roomy = omega (arith, st.put.next)

  -- the line of the turn is the one whose front y holds
  pub held_line : (w : List ℕ) → line_of h t.kept w ≡ take line_buffer ((fed x (take t.from l)).pending ++ w)
  held_line w = ap (λ (u : List ℕ). take line_buffer (u ++ w)) st.pending

module _ (x : Session) (l d : List ℕ) (t r : Position) (h g e f : List ℕ) (st : Progress x l d t h e)
    (room : t.at + reply_room ≤ length d) (wide : length g ≡ line_buffer) where
  pub line_stands : upto (drop t.from l) < length (drop t.from l) → Line t h (drop t.from l) e f r
      → Progress x l d r g f
  line_stands k p =
      let y = fed x (take t.from l) in
      let m = drop t.from l in
      let u = upto m in
      let w = take u m in
      let z : fed x (take r.from l) ≡ ended (longer y w) =
      ap (λ (i : ℕ). fed x (take i l)) p.from ∙ fed_more x l t.from (suc u)
      ∙ line_fed y m (short x l d t h e st room) k in
      let line : line_of h t.kept w ≡ take line_buffer (y.pending ++ w) = held_line x l d t h e st room w in
      let q : y.output ++ reply t.day (line_of h t.kept w) ≡ (fed x (take r.from l)).output =
      ap (λ (s : Day). y.output ++ reply s (line_of h t.kept w)) st.day
      ∙ ap (λ (v : List ℕ). y.output ++ reply y.day v) line ∙ sym (ap (λ (s : Session). s.output) z) in
      record {
        day = p.day ∙ ap (λ (s : Day). next s (line_of h t.kept w)) st.day ∙ ap (next y.day) line
            ∙ sym (ap (λ (s : Session). s.day) z);
        pending = ap (λ (i : ℕ). take i g) p.kept ∙ sym (ap (λ (s : Session). s.pending) z);
        put = subst (Put d f 0 r.at) q (put_then st.put p.put);
        taken =
            omega (
              arith,
              st.taken,
              consumed_line (length d) y m (short x l d t h e st room) (roomy x l d t h e st room) k,
              p.from,
              ap (consumed_count (length d) (ended (longer y w)))
                  (drop-drop (suc u) t.from l ∙ ap (λ (i : ℕ). drop i l) (sym p.from)),
              ap (λ (s : Session). consumed_count (length d) s (drop r.from l)) z,
            );
        inside = omega (arith, p.from, length-drop t.from l, st.inside);
        few = omega (arith, p.kept);
        wide = wide;
        fits = omega (arith, p.fits);
      }
