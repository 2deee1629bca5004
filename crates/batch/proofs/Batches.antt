-- What a batch keeps from line to line: its state is ready, and what stood at its start stands now.
use mathlib.Core.Path.{◌≡◌, refl, subst}
use mathlib.Core.Bool.{Bool, true, false, cond}
use mathlib.Core.List.{List}
use Prim.Native.Nat.{ℕ, ◌+◌, ◌-◌, ◌≤◌, ◌<◌}
use native.Mathlib.Omega.{arith}
use lib.Dec.{eqb}
use lib.ListN.{length, take, drop, length-drop}
use borrow.Author.Tests.{eqb-true, eqb-false}
use Rattle.day.specs.declared.Day.{Day}
use Rattle.day.specs.Day.{state_of}
use Rattle.day.specs.Cited.{Ready}
use Rattle.lines.specs.Limits.{line_buffer}
use Rattle.reply.specs.declared.line.Turn.{Turn}
use Rattle.reply.specs.Session.{Session, reply_room, upto}
use Rattle.reply.specs.Cited.{Written}
use Rattle.batch.specs.Cited.{Position, line_of, Completed, Progress}
use Rattle.batch.proofs.Turns.{line_stands}
use Rattle.batch.proofs.Ends.{uncut, line_turned}

abbrev pub at_line : Turn → (terms counts : List ℕ) → (kept from : ℕ) → Position
at_line u t n k i = record { day = state_of u.head t n; kept = k; from = i; at = u.at }

-- the same line
pub same_line : {s r : Day} {w v d e : List ℕ} {at to : ℕ} → w ≡ v → Written s w d e at r to → Written s v d e at r to
same_line {s} {r} {w} {v} {d} {e} {at} {to} q a = subst (λ (l : List ℕ). Written s l d e at r to) q a

-- the line as it lies in the input, where nothing is kept, or as it was completed
pub whole_line : (s r : Day) (h w g : List ℕ) (k n : ℕ) {d e : List ℕ} {at to : ℕ} → Completed h k w g n
    → Written s (cond (eqb k 0) w (take n g)) d e at r to
    → Written s (line_of h k w) d e at r to
whole_line s r h w g k n {d} {e} {at} {to} c a = go (eqb k 0) refl a
  where
    go : (b : Bool) → eqb k 0 ≡ b → Written s (cond b w (take n g)) d e at r to → Written s (line_of h k w) d e at r to
    go true q p = uncut s h w k (eqb-true k 0 q) p
    go false q p = subst (λ (l : List ℕ). Written s l d e at r to) (c.some (eqb-false k 0 q)) p

-- between two lines of l: p is the position at the start, with the pending bytes g₀ and the answers e₀
pub record Going (l : List ℕ) (p : Position) (g₀ e₀ : List ℕ) (u : Turn) (w t n : List ℕ) (kept from : ℕ)
    (h e : List ℕ) (end : ℕ) : Type 0 where
  pub moves : (x : Session) (d : List ℕ) → Progress x l d p g₀ e₀ → Progress x l d (at_line u t n kept from) h e
  pub ready : Ready u.sound u.head w t n
  pub few : kept ≤ line_buffer
  pub wide : length h ≡ line_buffer
  pub inside : from ≤ length l
  pub fits : u.at ≤ length e
  pub end_is : end ≡ from + upto (drop from l)
  pub end_most : end ≤ length l

-- one line more, which ends at the place end
module _ (l : List ℕ) (p : Position) (g₀ e₀ : List ℕ) (u : Turn) (w t n : List ℕ) (kept from : ℕ) (h e : List ℕ)
    (end : ℕ)
    (g : Going l p g₀ e₀ u w t n kept from h e end) (inside : end < length l) (room : u.at + reply_room ≤ length e)
    (h' : List ℕ) (m : ℕ) (c : Completed h kept (take (end - from) (drop from l)) h' m) (r : Turn) (w' t' n' f : List ℕ)
    (a : Written (state_of u.head t n) (cond (eqb kept 0) (take (end - from) (drop from l)) (take m h')) e f u.at
    (state_of r.head t' n') r.at) where
  next_stands : (x : Session) (d : List ℕ) → Progress x l d (at_line u t n kept from) h e
      → Progress x l d (at_line r t' n' 0 (end + 1)) h' f
  next_stands x d st =
      let now = at_line u t n kept from in
      let s = state_of u.head t n in
      let b = whole_line s (state_of r.head t' n') h (take (end - from) (drop from l)) h' kept m c a in
      let q = line_turned now h l e end (state_of r.head t' n') r.at g.end_is b in
      let ends : upto (drop from l) < length (drop from l) = omega (arith, g.end_is, length-drop from l) in
      line_stands x l d now (at_line r t' n' 0 (end + 1)) h h' e f st (omega (arith, room, st.put.same)) c.wide
      ends q

  pub going_next : Ready r.sound r.head w' t' n' → (end' : ℕ) → (end' ≡ end + 1 + upto (drop (end + 1) l))
      × (end' ≤ length l)
      → Going l p g₀ e₀ r w' t' n' 0 (end + 1) h' f end'
  going_next k end' z = record {
    moves = λ x d st. next_stands x d (g.moves x d st);
    ready = k;
    few = omega arith;
    wide = c.wide;
    inside = omega arith;
    fits = omega (arith, a.fits, a.put.same, room);
    end_is = z.0;
    end_most = z.1;
  }
