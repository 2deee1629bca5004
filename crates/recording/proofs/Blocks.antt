-- A block, line after line. The loop's invariant: the bytes before the place from are taken, and the first byte 10 from
-- there on stands at the place end.
use mathlib.Core.Path.{◌≡◌, refl, sym, ap, ◌∙◌, subst}
use mathlib.Core.Bool.{Bool, true, false, cond}
use mathlib.Core.List.{List, [], ◌∷◌, ◌++◌}
use Prim.Native.Nat.{ℕ, suc, ◌+◌, ◌-◌, ◌≤◌, ◌<◌}
use native.Mathlib.Omega.{arith}
use lib.Dec.{eqb}
use lib.ListN.{length, take, drop, length-drop, take-append-drop}
use lib.Seq.{take-add, take_all}
use Rattle.lines.specs.Limits.{line_buffer}
use Rattle.reply.specs.Session.{Session, reply_room, fed, upto}
use Rattle.stream.specs.declared.feed.Stream.{Stream}
use Rattle.stream.specs.declared.feed.Fed.{Fed}
use Rattle.stream.specs.Stream.{session_of, stream_of, ComesTo, Feeds}
use Rattle.stream.proofs.Chunking.{session_next}
use Rattle.recording.specs.Cited.{Took}
use Rattle.recording.proofs.Bytes.{took_none, took_more, took_plain, short_after, line_is}

-- a stream that was fed is that of its session: zero bytes stand behind those kept
stream_fed : {y : Session} {n : ℕ} {d e : List ℕ} {r : Fed} → ComesTo y n d e r
    → r.stream ≡ stream_of (session_of r.stream)
stream_fed f = ap (λ (b : Fed). b.stream) f.back_is ∙ sym (ap stream_of (session_next f))

-- the bytes before the first byte 10 have none
plain_take : (l : List ℕ) → upto (take (upto l) l) ≡ length (take (upto l) l)
unfolding upto
plain_take [] = refl
plain_take (b ∷ l) = go (eqb b 10) refl (plain_take l)
  where
    go : (t : Bool) → eqb b 10 ≡ t → upto (take (upto l) l) ≡ length (take (upto l) l)
        → upto (take (cond t 0 (suc (upto l))) (b ∷ l)) ≡ length (take (cond t 0 (suc (upto l))) (b ∷ l))
    go true e ih = refl
    go false e ih = rw e (ap suc ih)

pub record Going (k : Stream) (v b : List ℕ) (s : Stream) (w : List ℕ) (from end : ℕ) : Type 0 where
  pub inside : from ≤ length b
  pub end_is : end ≡ from + upto (drop from b)
  pub end_inside : end ≤ length b
  pub short : length (session_of s).pending ≤ line_buffer
  pub took : Took k v (take from b) s w

pub going_begins : (k : Stream) (v b : List ℕ) (end : ℕ) → length (session_of k).pending ≤ line_buffer
    → end ≡ 0 + upto (drop 0 b) → end ≤ length b → Going k v b k v 0 end
going_begins k v b end h e l =
    record { inside = omega arith; end_is = e; end_inside = l; short = h; took = took_none k v }

module _ {k : Stream} {v b : List ℕ} {s : Stream} {w : List ℕ} {from end : ℕ} (g : Going k v b s w from end) where
  -- the bytes from the place from to the place end
  abbrev line : List ℕ
  line = take (end - from) (drop from b)

  upto_is : end - from ≡ upto (drop from b)
  upto_is = omega (arith, g.end_is)

  pub line_plain : upto line ≡ length line
  line_plain = subst (λ (i : ℕ). upto (take i (drop from b)) ≡ length (take i (drop from b))) (sym upto_is)
      (plain_take (drop from b))

  pub going_line : end < length b → {t : Stream} {u : List ℕ} → Took s w (line ++ (10 ∷ [])) t u → {end' : ℕ}
      → end' ≡ end + 1 + upto (drop (end + 1) b) → end' ≤ length b → Going k v b t u (end + 1) end'
  going_line h {t} {u} q e l =
      let d = drop from b in
      let n : upto d < length d = omega (arith, g.end_is, length-drop from b) in
      let to : from + suc (upto d) ≡ end + 1 = omega (arith, g.end_is) in
      let here : take from b ++ (line ++ (10 ∷ [])) ≡ take (end + 1) b =
      ap (λ (i : ℕ). take from b ++ (take i d ++ (10 ∷ []))) upto_is
      ∙ ap (λ (m : List ℕ). take from b ++ m) (sym (line_is d n))
      ∙ sym (take-add from (suc (upto d)) b)
      ∙ ap (λ (i : ℕ). take i b) to in
      record {
        inside = omega arith;
        end_is = e;
        end_inside = l;
        short = short_after g.short q;
        took = subst (λ (m : List ℕ). Took k v m t u) here (took_more g.took q);
      }

  pub going_ends : length b ≤ end → (d e : List ℕ) (r : Fed) → reply_room ≤ length d
      → Feeds s (take (length b - from) (drop from b)) d e r
      → Took k v b r.stream w × (r.stream ≡ stream_of (fed (session_of k) b))
  going_ends h d e r room f =
      let m = drop from b in
      let whole : take (length b - from) m ≡ m =
      take_all (length b - from) m (omega (arith, length-drop from b)) in
      let plain : upto m ≡ length m = omega (arith, g.end_is, g.end_inside, length-drop from b) in
      let p = took_plain s w d e r g.short room m plain (subst (λ (a : List ℕ). Feeds s a d e r) whole f) in
      let t = subst (λ (a : List ℕ). Took k v a r.stream w) (take-append-drop from b) (took_more g.took p) in
      (t, stream_fed f ∙ ap stream_of t.session_is)
