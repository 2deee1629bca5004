-- The table's entries are the powers up to 4,294,967,296; no true entry is 0, so that 0 tells of a greater power.
use mathlib.Core.Path.{◌≡◌, refl, sym, ap, ap₂, ◌∙◌, subst}
use mathlib.Core.Bool.{Bool, true, false, cond, ◌&&◌}
use mathlib.Core.List.{List, []}
use mathlib.Core.Logic.{◌↔◌}
use Prim.Native.Nat.{ℕ, ◌+◌, ◌-◌, ◌*◌, ◌^◌, ◌≤◌, ◌<◌}
use native.Mathlib.Nat.{le_trans, one-le-pow, lt_irrefl, pow-le-pow_left, pow-le-pow_right, sub-le}
use native.Mathlib.Omega.{arith}
use lib.Dec.{leb}
use lib.ListN.{length, get_or}
use borrow.Author.Tests.{le-leb, lt-leb}
use Rattle.finite.proofs.Meanings.{leb_means, both_means}
use Rattle.finite.proofs.Tables.{get_or_table, length_table}
use Rattle.powers.specs.Power.{entry, NoTrueEntryIs0, row_of, grid, listed, TableHolds, weight}

-- where the table has an entry
pub inside_means : (w e : ℕ) → ((leb 1 w && leb w 16 && leb e 32) ≡ true) ↔ (((1 ≤ w) × (w ≤ 16)) × (e ≤ 32))
inside_means w e = both_means (both_means (leb_means 1 w) (leb_means w 16)) (leb_means e 32)

-- a column of a row, and a place of the table
pub row_at : (b e : ℕ) → e ≤ 32 → get_or (row_of b) e 0 ≡ entry b e
unfolding row_of
row_at b e h = get_or_table 33 (entry b) 0 e (omega arith)

pub grid_at : (b e : ℕ) → 1 ≤ b → b ≤ 16 → e ≤ 32 → get_or (get_or grid (b - 1) []) e 0 ≡ entry b e
unfolding grid
grid_at b e p q h =
    let s : b - 1 + 1 ≡ b = omega arith in
    ap (λ (l : List ℕ). get_or l e 0) (get_or_table 16 (λ i. row_of (i + 1)) [] (b - 1) (omega arith) ∙ ap row_of s)
    ∙ row_at b e h

-- an entry that is not above the limit is the power
pub entry_is : (b e : ℕ) → b ^ e ≤ 4_294_967_296 → entry b e ≡ b ^ e
unfolding entry
entry_is b e h = rw (le-leb (b ^ e) 4_294_967_296 h)

-- one that is above it is 0
entry_zero : (b e : ℕ) → 4_294_967_296 < b ^ e → entry b e ≡ 0
unfolding entry
entry_zero b e h = rw (lt-leb (b ^ e) 4_294_967_296 h)

row_length : (b : ℕ) → length (row_of b) ≡ 33
unfolding row_of
row_length b = length_table 33 (entry b)

pub table_holds : TableHolds
unfolding grid listed
table_holds = record {
  rows = length_table 16 (λ i. row_of (i + 1));
  columns = λ w p q.
      ap length (get_or_table 16 (λ i. row_of (i + 1)) [] (w - 1) (omega (arith, p, q))) ∙ row_length (w - 1 + 1);
  power_is = λ w e p q h l. grid_at w e p q h ∙ entry_is w e l;
  above = λ w e p q h l. grid_at w e p q h ∙ entry_zero w e l;
  read = λ w e p q h. rw (le-leb 1 w p, le-leb w 16 q, le-leb e 32 h) (sym (grid_at w e p q h));
  no_other = λ w e n. unlisted w e (leb 1 w && leb w 16 && leb e 32) refl n;
}
  where
    unlisted : (w e : ℕ) (t : Bool) → (leb 1 w && leb w 16 && leb e 32) ≡ t → (1 ≤ w → w ≤ 16 → e ≤ 32 → ⊥)
        → cond t (entry w e) 0 ≡ 0
    unlisted w e true z n = let m = (inside_means w e).0 z in absurd (n m.0.0 m.0.1 m.1)
    unlisted w e false z n = refl

pub entry_over : NoTrueEntryIs0
unfolding entry
entry_over b e p h = go (leb (b ^ e) 4_294_967_296) h
  where
    go : (t : Bool) → cond t (b ^ e) 0 ≡ 0 → t ≡ false
    go true z = absurd (lt_irrefl 0 (subst (λ (n : ℕ). 1 ≤ n) z (one-le-pow e b p)))
    go false z = refl

pub entry_under : (b e : ℕ) → (entry b e ≡ 0 → ⊥) → leb (b ^ e) 4_294_967_296 ≡ true
unfolding entry
entry_under b e h = go (leb (b ^ e) 4_294_967_296) h
  where
    go : (t : Bool) → (cond t (b ^ e) 0 ≡ 0 → ⊥) → t ≡ true
    go true z = refl
    go false z = absurd (z refl)

module _ (k d a : ℕ) (wide : 1 ≤ d) (h : a ≤ k) (top : d ^ k ≤ 4_294_967_296) where
  -- the two entries of which W(a) is the product
  pub entry_up : entry d a ≡ d ^ a
  entry_up = entry_is d a (le_trans (pow-le-pow_right wide h) top)

  pub entry_down : entry (d - 1) (k - a) ≡ (d - 1) ^ (k - a)
  entry_down = entry_is (d - 1) (k - a)
      (le_trans (pow-le-pow_left (sub-le d 1) (k - a)) (le_trans (pow-le-pow_right wide (sub-le k a)) top))

  pub entry_weight : entry d a * entry (d - 1) (k - a) ≡ weight k d a
  unfolding weight
  entry_weight = ap₂ (λ (x y : ℕ). x * y) entry_up entry_down
