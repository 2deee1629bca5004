-- Laws of a run of puts: forward, `put_then`, and from the last byte to the first, `put_before` and `Backward`.
-- A run keeps one fact, `Put` of all that stands so far; the next put joins it in front or behind.
use mathlib.Core.Path.{◌≡◌, refl, sym, ap, ◌∙◌, subst}
use mathlib.Core.List.{List, [], ◌∷◌, ◌++◌, append_assoc, append-nil}
use Prim.Native.Nat.{ℕ, suc, ◌-◌, ◌≤◌, ◌<◌}
use native.Mathlib.Omega.{arith}
use lib.ListN.{length, set, length-set, length-append}
use Rattle.buffer.specs.Buffer.{over, Put, RoomFor}
use Rattle.buffer.proofs.Over.{over_none, over_then, over_under, over_before}

pub put_none : (d : List ℕ) (at : ℕ) → Put d d at at []
put_none d at = record { next = omega arith; here = sym (over_none d at); same = refl }

-- w behind u
pub put_then : {d e f : List ℕ} {at mid to : ℕ} {u w : List ℕ}
    → Put d e at mid u → Put e f mid to w → Put d f at to (u ++ w)
put_then {d} {e} {f} {at} {mid} {to} {u} {w} p q = record {
  next = omega (arith, p.next, q.next, length-append u w);
  here =
      q.here ∙ ap (λ (x : List ℕ). over x mid w) p.here
      ∙ ap (λ (k : ℕ). over (over d at u) k w) p.next ∙ over_then d at u w;
  same = q.same ∙ p.same;
}

-- u before w
pub put_before : {d e f : List ℕ} {at mid to : ℕ} {u w : List ℕ}
    → Put d e mid to w → Put e f at mid u → Put d f at to (u ++ w)
put_before {d} {e} {f} {at} {mid} {to} {u} {w} p q = record {
  next = omega (arith, p.next, q.next, length-append u w);
  here =
      q.here ∙ ap (λ (x : List ℕ). over x at u) p.here
      ∙ ap (λ (k : ℕ). over (over d k w) at u) q.next ∙ over_under d at u w;
  same = q.same ∙ p.same;
}

-- a byte before w
pub put_byte : {d e : List ℕ} {at to : ℕ} {w : List ℕ} (b : ℕ) → Put d e at to w → 0 < at → at ≤ length d
    → Put d (set e (at - 1) b) (at - 1) to (b ∷ w)
put_byte {d} {e} {at} {to} {w} b p h l =
    let s : at ≡ suc (at - 1) = omega arith in
    let k : length (b ∷ w) ≡ suc (length w) = refl in
    record {
      next = omega (arith, p.next, k);
      here =
          ap (λ (x : List ℕ). set x (at - 1) b) (p.here ∙ ap (λ (j : ℕ). over d j w) s)
          ∙ over_before d (at - 1) b w (omega arith);
      same = length-set e (at - 1) b ∙ p.same;
    }

-- The bytes l are put into d from the last to the first, to end at the place to: in e those from the place at on stand,
-- and those of `front` are to come.
pub record Backward (l d : List ℕ) (to : ℕ) (e : List ℕ) (at : ℕ) (front : List ℕ) : Type 0 where
  pub tail : List ℕ
  pub stands : Put d e at to tail
  pub whole : l ≡ front ++ tail

pub backward_start : (l d : List ℕ) (to : ℕ) → Backward l d to d to l
backward_start l d to = record { tail = []; stands = put_none d to; whole = sym (append-nil l) }

module _ {l d : List ℕ} {to : ℕ} {e : List ℕ} {at : ℕ} {front : List ℕ} (b : Backward l d to e at front) where
  -- the room that is left for them
  pub backward_room : RoomFor d to (length l) → RoomFor e at (length front)
  backward_room h =
      let n = length-append front b.tail in
      let k = ap length b.whole in (
        omega (arith, b.stands.next, k, n, h.0),
        omega (arith, b.stands.next, b.stands.same, h.1),
      )

-- the last of them, the byte c, is put
pub backward_byte : {l d : List ℕ} {to : ℕ} {e : List ℕ} {at : ℕ} {u : List ℕ} (c : ℕ)
    → Backward l d to e at (u ++ (c ∷ [])) → 0 < at → at ≤ length d → Backward l d to (set e (at - 1) c) (at - 1) u
backward_byte {u = u} c b h k = record {
  tail = c ∷ b.tail;
  stands = put_byte c b.stands h k;
  whole = b.whole ∙ append_assoc u (c ∷ []) b.tail;
}

-- and with the first byte all stand
pub backward_last : {l d : List ℕ} {to : ℕ} {e : List ℕ} {at : ℕ} (c : ℕ)
    → Backward l d to e at (c ∷ []) → 0 < at → at ≤ length d → Put d (set e (at - 1) c) (at - 1) to l
backward_last {l} {d} {to} {e} {at} c b h k =
    subst (Put d (set e (at - 1) c) (at - 1) to) (sym b.whole) (put_byte c b.stands h k)
