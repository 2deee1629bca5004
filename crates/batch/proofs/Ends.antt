-- A line that ends in the input and is answered is one turn, `Line`; with nothing kept it is answered as it lies there.
use mathlib.Core.Path.{◌≡◌, refl, sym, ap, ◌∙◌, subst}
use mathlib.Core.List.{List, ◌++◌}
use Prim.Native.Nat.{ℕ, ◌+◌, ◌-◌}
use native.Mathlib.Omega.{arith}
use lib.ListN.{take, drop}
use Rattle.buffer.specs.Buffer.{Put}
use Rattle.day.specs.declared.Day.{Day}
use Rattle.lines.specs.Limits.{line_buffer}
use Rattle.reply.specs.Reply.{reply, next}
use Rattle.reply.specs.Cited.{Written}
use Rattle.reply.specs.Session.{upto}
use Rattle.batch.specs.Cited.{Position, line_of, Line}
use Rattle.reply.proofs.Sessions.{cut_reply, cut_next}

-- where nothing is kept, the line is answered as it lies in the input, though it may be longer than what would be held
pub uncut : (s : Day) (h l : List ℕ) (k : ℕ) {d e : List ℕ} {at to : ℕ} {r : Day} → k ≡ 0 → Written s l d e at r to
    → Written s (line_of h k l) d e at r to
uncut s h l k {d} {e} {at} {to} {r} z p =
    let q : line_of h k l ≡ take line_buffer l = ap (λ (i : ℕ). take line_buffer (take i h ++ l)) z in
    record {
      day = p.day ∙ sym (ap (next s) q ∙ cut_next s l);
      put = subst (Put d e at to) (sym (ap (reply s) q ∙ cut_reply s l)) p.put;
      fits = p.fits;
    }

-- the line that ends at the place end of i, answered
pub line_turned : (t : Position) (h i d : List ℕ) {e : List ℕ} (end : ℕ) (r : Day) (to : ℕ) → end
    ≡ t.from + upto (drop t.from i)
    → Written t.day (line_of h t.kept (take (end - t.from) (drop t.from i))) d e t.at r to
    → Line t h (drop t.from i) d e (record { day = r; kept = 0; from = end + 1; at = to })
line_turned t h i d {e} end r to q s =
    let u = upto (drop t.from i) in
    let v : end - t.from ≡ u = omega (arith, q) in
    let w : line_of h t.kept (take (end - t.from) (drop t.from i))
    ≡ line_of h t.kept (take u (drop t.from i)) =
    ap (λ (k : ℕ). line_of h t.kept (take k (drop t.from i))) v in
    record {
      day = s.day ∙ ap (next t.day) w;
      kept = refl;
      from = omega (arith, q);
      put = subst (Put d e t.at to) (ap (reply t.day) w) s.put;
      fits = s.fits;
    }
