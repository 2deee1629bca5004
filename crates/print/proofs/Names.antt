-- The names of a set by its walk. The names of the members in turn are the set's names (`names_members`); the loop that
-- puts them keeps `Names`: some stand, and those of what is left of the walk are to come.
use mathlib.Core.Path.{◌≡◌, ap, sym, ◌∙◌, subst}
use mathlib.Core.List.{List, [], ◌∷◌, ◌++◌, append_assoc, append-nil}
use Prim.Native.Nat.{ℕ, suc, ◌+◌, ◌-◌, ◌^◌, ◌≤◌, ◌<◌}
use native.Mathlib.Omega.{arith}
use native.Mathlib.Numerals.{add-one}
use lib.ListN.{length, length-append}
use Rattle.sets.specs.Set.{next, beyond}
use Rattle.sets.specs.Walk.{members, Next, Steps}
use Rattle.sets.specs.Walk.Steps.{end, step}
use Rattle.sets.proofs.Algebra.{beyond_lt}
use Rattle.sets.proofs.Walk.{first_is, first_none, members_steps, members_next, members_none}
use Rattle.lines.specs.Limits.{set_bits}
use Rattle.lines.specs.Numeral.{numeral}
use Rattle.lines.specs.Form.{names_text}
use Rattle.lines.proofs.NameSets.{names_here, names_skip}
use Rattle.buffer.specs.Buffer.{Put}
use Rattle.buffer.proofs.Puts.{put_none, put_then}

-- a name, with a space before it
abbrev name : ℕ → List ℕ
name i = 32 ∷ numeral i

-- the names of a list, in its order
unfoldable pub names_along : List ℕ → List ℕ
names_along [] = []
names_along (i ∷ is) = name i ++ names_along is

-- up to the next member no name is added
names_gap : (set a r : ℕ) → Next set a r → names_text r set ≡ names_text a set
names_gap set a r n =
    let e : r - a + a ≡ r = omega (arith, n.low) in
    ap (λ (x : ℕ). names_text x set) (sym e) ∙ names_skip (r - a) a set (λ j p q. n.gap j p (omega arith))

names_steps : {set a : ℕ} {rs : List ℕ} → Steps set a rs
    → names_text a set ++ names_along rs ≡ names_text set_bits set
unfolding names_along
names_steps {set} {a} (end n) = append-nil (names_text a set) ∙ sym (names_gap set a set_bits n)
names_steps {set} {a} (step {r = r} {rs = rs} n l s) =
    let with_name : names_text r set ++ name r ≡ names_text (r + 1) set =
    sym (ap (λ (k : ℕ). names_text k set) (add-one r) ∙ names_here r set (n.here l)) in
    ap (λ (x : List ℕ). x ++ (name r ++ names_along rs)) (sym (names_gap set a r n))
    ∙ sym (append_assoc (names_text r set) (name r) (names_along rs))
    ∙ ap (λ (x : List ℕ). x ++ names_along rs) with_name ∙ names_steps s

pub names_members : (set : ℕ) → names_along (members set) ≡ names_text set_bits set
unfolding names_text
names_members set = names_steps (members_steps set)

-- The loop.

pub record Names (out₀ : List ℕ) (at set : ℕ) (out : List ℕ) (to left : ℕ) : Type 0 where
  pub small : left < 2 ^ 64
  pub put : List ℕ
  pub stands : Put out₀ out at to put
  pub whole : put ++ names_along (members left) ≡ names_text set_bits set

pub begins : (out : List ℕ) (at set : ℕ) → set < 2 ^ 64 → Names out at set out at set
begins out at set h = record { small = h; put = []; stands = put_none out at; whole = names_members set }

module _ {out₀ : List ℕ} {at set : ℕ} {out : List ℕ} {to left : ℕ} (z : Names out₀ at set out to left)
    (e : left ≡ 0 → ⊥) where
  abbrev i : ℕ
  i = next left 0

  pub below : i < set_bits
  below = let f = first_is left z.small e in omega arith

  -- the name at hand and those behind it are to come
  pub fewer : length (members left) ≡ suc (length (members (beyond left i)))
  fewer = ap length (members_next left below)

  split : z.put ++ (name i ++ names_along (members (beyond left i))) ≡ names_text set_bits set
  unfolding names_along
  split = ap (λ (is : List ℕ). z.put ++ names_along is) (sym (members_next left below)) ∙ z.whole

  -- so that there is room for it
  pub room : length z.put + length (name i) ≤ length (names_text set_bits set)
  room =
      omega (
        arith,
        ap length split,
        length-append z.put (name i ++ names_along (members (beyond left i))),
        length-append (name i) (names_along (members (beyond left i))),
      )

  -- a turn of the loop
  pub turned : (k rest : ℕ) {out' : List ℕ} {to' : ℕ} → k ≡ i → rest ≡ beyond left i → Put out out' to to' (name k)
      → Names out₀ at set out' to' rest
  turned k rest {out'} {to'} ek er p =
      subst (Names out₀ at set out' to') (sym er)
      (record {
        small = beyond_lt left i;
        put = z.put ++ name i;
        stands = put_then z.stands (subst (λ (x : ℕ). Put out out' to to' (name x)) ek p);
        whole = append_assoc z.put (name i) (names_along (members (beyond left i))) ∙ split;
      })

-- after the last turn
pub ends : {out₀ : List ℕ} {at set : ℕ} {out : List ℕ} {to left : ℕ} → Names out₀ at set out to left → left ≡ 0
    → Put out₀ out at to (names_text set_bits set)
unfolding names_along
ends {out₀} {at} {set} {out} {to} {left} z e =
    let none = members_none left (ap (λ (x : ℕ). next x 0) e ∙ first_none) in
    subst (Put out₀ out at to)
    (sym (append-nil z.put) ∙ sym (ap (λ (is : List ℕ). z.put ++ names_along is) none) ∙ z.whole) z.stands
