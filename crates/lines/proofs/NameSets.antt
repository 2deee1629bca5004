-- The names of a set are read as that set, and what is read as a set is its names. Both go name by name: a set with a
-- name above its members is the sum with that name's power of two, and its names are the others' with that one behind.
use mathlib.Core.Path.{◌≡◌, refl, sym, ap, ap₂, ◌∙◌}
use mathlib.Core.Bool.{Bool, true, false, cond, not}
use mathlib.Core.List.{List, [], ◌∷◌, ◌++◌, append_assoc, append-nil}
use Prim.Native.Nat.{ℕ, zero, suc, ◌+◌, ◌*◌, ◌-◌, ◌/◌, ◌%◌, ◌^◌, ◌≤◌, ◌<◌}
use native.Mathlib.Nat.{pow-suc, pow-zero, mod-lt, mod-one, mod-eq_of_lt}
use native.Mathlib.Omega.{arith}
use lib.Dec.{ltb, eqb}
use lib.ListN.{length, length-append}
use lib.Pow.{pow_pos, pow_mono}
use borrow.Author.Tests.{ltb-true, ltb-false, lt-ltb, le-leb, leb-true, eqb-true, eqb-false, not-true}
use Rattle.sets.specs.Set.{member}
use Rattle.sets.proofs.Algebra.{mod_suc, add_low, add_top, none_above, empty_member}
use Rattle.lines.specs.Limits.{max_campaign, set_bits}
use Rattle.lines.specs.Numeral.{numeral}
use Rattle.lines.specs.Form.{campaign_slot, in_slot, names_text}
use Rattle.lines.specs.Reading.{Seen, seen, unseen, is_digit, numeral_at, ranged, with_name, and_then, set_at}
use Rattle.lines.proofs.Digits.{clash, ranged_yes}
use Rattle.lines.proofs.Numerals.{stops, numeral_one, numeral_more, numeral_sound, numeral_back}

-- The names by their members.

pub names_same : (n a b : ℕ) → ((j : ℕ) → j < n → member a j ≡ member b j) → names_text n a ≡ names_text n b
unfolding names_text
names_same zero a b h = refl
names_same (suc n) a b h =
    ap₂ (λ (x y : List ℕ). x ++ y) (names_same n a b (λ j l. h j (omega arith)))
    (ap (λ (t : Bool). cond t (32 ∷ numeral n) []) (h n (omega arith)))

pub names_here : (n v : ℕ) → member v n ≡ true → names_text (suc n) v ≡ names_text n v ++ (32 ∷ numeral n)
unfolding names_text
names_here n v e = rw e

pub names_not : (n v : ℕ) → member v n ≡ false → names_text (suc n) v ≡ names_text n v
unfolding names_text
names_not n v e = rw e (append-nil (names_text n v))

pub names_skip : (k n v : ℕ) → ((j : ℕ) → n ≤ j → j < k + n → member v j ≡ false)
    → names_text (k + n) v ≡ names_text n v
names_skip zero n v h = ap (λ (x : ℕ). names_text x v) (omega arith)
names_skip (suc k) n v h =
    ap (λ (x : ℕ). names_text x v) (omega arith) ∙ names_not (k + n) v (h (k + n) (omega arith) (omega arith))
    ∙ names_skip k n v (λ j p q. h j p (omega arith))

-- a name above the others stands at the end
names_snoc : (n v : ℕ) → n < set_bits → v < 2 ^ n
    → names_text set_bits (v + 2 ^ n) ≡ names_text set_bits v ++ (32 ∷ numeral n)
names_snoc n v h low =
    let k = max_campaign - n in
    let e : set_bits ≡ k + suc n = omega arith in
    let f : set_bits ≡ suc k + n = omega arith in
    let small : v + 2 ^ n < 2 ^ suc n = omega (arith, pow-suc 2 n) in
    ap (λ (x : ℕ). names_text x (v + 2 ^ n)) e
    ∙ names_skip k (suc n) (v + 2 ^ n) (λ j p q. none_above (v + 2 ^ n) (suc n) small j p)
    ∙ names_here n (v + 2 ^ n) (add_top v n low)
    ∙ ap (λ (x : List ℕ). x ++ (32 ∷ numeral n))
    (names_same n (v + 2 ^ n) v (add_low v n)
    ∙ sym (ap (λ (x : ℕ). names_text x v) f ∙ names_skip (suc k) n v (λ j p q. none_above v n low j p)))

-- What is read is the names of the set.

name_below : (n : ℕ) → in_slot campaign_slot n ≡ true → n < set_bits
unfolding in_slot
name_below n e = omega (arith, leb-true n max_campaign e)

-- the set that was read has these names and 64 bits
abbrev Read : ℕ → List ℕ → ℕ → List ℕ → Type 0
Read v l u m = (names_text set_bits v ++ l ≡ names_text set_bits u ++ m) × (u < 2 ^ 64)

same_set : (v : ℕ) (l : List ℕ) (u : ℕ) (m : List ℕ) → v < 2 ^ 64 → seen v l ≡ seen u m → Read v l u m
same_set v l u m h e =
    let a : v ≡ u = cc in
    let b : l ≡ m = cc in
    (ap₂ (λ (x : ℕ) (y : List ℕ). names_text set_bits x ++ y) a b, omega arith)

names_sound : (k v : ℕ) (l : List ℕ) (u : ℕ) (m : List ℕ) → v < 2 ^ 64 → set_at k v l ≡ seen u m → Read v l u m
unfolding set_at
names_sound zero v l u m h e = clash (cc)
names_sound (suc k) v [] u m h e = same_set v [] u m h e
names_sound (suc k) v (b ∷ l) u m h e = go (eqb b 32) refl e (λ x l'. names_sound k x l' u m)
  where
    go : (t : Bool) → eqb b 32 ≡ t
        → cond t (and_then (with_name v (ranged campaign_slot (numeral_at l))) (set_at k)) (seen v (b ∷ l)) ≡ seen u m
        → ((x : ℕ) (l' : List ℕ) → x < 2 ^ 64 → set_at k x l' ≡ seen u m → Read x l' u m) → Read v (b ∷ l) u m
    go false q e ih = same_set v (b ∷ l) u m h e
    go true q e ih = by (numeral_at l) refl e
      where
        by : (s : Seen) → numeral_at l ≡ s → and_then (with_name v (ranged campaign_slot s)) (set_at k) ≡ seen u m
            → Read v (b ∷ l) u m
        by unseen p e = clash (cc)
        by (seen n l') p e = rises (in_slot campaign_slot n) (ltb v (2 ^ n)) refl refl e
          where
            rises : (x t : Bool) → in_slot campaign_slot n ≡ x → ltb v (2 ^ n) ≡ t
                → and_then (with_name v (cond x (seen n l') unseen)) (set_at k) ≡ seen u m → Read v (b ∷ l) u m
            rises false t f g e = clash (cc)
            rises true false f g e =
                let z : unseen ≡ seen u m =
                ap (λ (t : Bool). and_then (cond t (seen (v + 2 ^ n) l') unseen) (set_at k)) (sym g) ∙ e in
                clash (cc)
            rises true true f g e =
                let low : v < 2 ^ n = ltb-true v (2 ^ n) g in
                let sm : n < set_bits = name_below n f in
                let r =
                ih (v + 2 ^ n) l' (omega (arith, pow_mono {i = n} {j = max_campaign} (omega arith)))
                (ap (λ (t : Bool). and_then (cond t (seen (v + 2 ^ n) l') unseen) (set_at k)) (sym g) ∙ e) in (
                  ap (λ (x : ℕ). names_text set_bits v ++ (x ∷ l)) (eqb-true b 32 q)
                      ∙ ap (λ (x : List ℕ). names_text set_bits v ++ (32 ∷ x)) (numeral_sound l n l' (omega arith) p)
                      ∙ sym (append_assoc (names_text set_bits v) (32 ∷ numeral n) l')
                      ∙ ap (λ (x : List ℕ). x ++ l') (sym (names_snoc n v sm low)) ∙ r.0,
                  r.1,
                )

names_zero : (n : ℕ) → names_text n 0 ≡ []
unfolding names_text
names_zero zero = refl
names_zero (suc n) =
    ap (λ (x : List ℕ). x ++ cond (member 0 n) (32 ∷ numeral n) []) (names_zero n)
    ∙ ap (λ (t : Bool). cond t (32 ∷ numeral n) []) (empty_member n)

pub set_sound : (l : List ℕ) (u : ℕ) (m : List ℕ) → set_at (suc set_bits) 0 l ≡ seen u m
    → (l ≡ names_text set_bits u ++ m) × (u < 2 ^ 64)
set_sound l u m e =
    let s = names_sound (suc set_bits) 0 l u m (omega arith) e in
    (ap (λ (x : List ℕ). x ++ l) (sym (names_zero set_bits)) ∙ s.0, s.1)

-- The names of a set are read as that set.

mod_here : (v n : ℕ) → member v n ≡ true → v % 2 ^ n + 2 ^ n ≡ v % 2 ^ suc n
unfolding member
mod_here v n e = let b = eqb-true (v / 2 ^ n % 2) 1 e in omega (arith, mod_suc v n, ap (λ (x : ℕ). x * 2 ^ n) b)

mod_not : (v n : ℕ) → member v n ≡ false → v % 2 ^ n ≡ v % 2 ^ suc n
unfolding member
mod_not v n e =
    let b : v / 2 ^ n % 2 ≡ 0 = omega (arith, eqb-false (v / 2 ^ n % 2) 1 e) in
    omega (arith, mod_suc v n, ap (λ (x : ℕ). x * 2 ^ n) b)

-- with fuel for k names more, what stands behind the names below n is read with the members below n in the set
record Passed (k n v : ℕ) (m : List ℕ) : Type 0 where
  left : ℕ
  most : k ≤ left
  read : set_at (n + k) 0 (names_text n v ++ m) ≡ set_at left (v % 2 ^ n) m

one_name : (k set n : ℕ) (m : List ℕ) → n < set_bits → set < 2 ^ n → stops m ≡ true
    → set_at (suc k) set ((32 ∷ numeral n) ++ m) ≡ set_at k (set + 2 ^ n) m
unfolding set_at in_slot
one_name k set n m h low s =
    ap (λ (x : Seen). and_then (with_name set (ranged campaign_slot x)) (set_at k)) (numeral_back n m (omega arith) s)
    ∙ ap (λ (x : Seen). and_then (with_name set x) (set_at k))
    (ranged_yes campaign_slot n m (le-leb n max_campaign (omega arith)))
    ∙ ap (λ (t : Bool). and_then (cond t (seen (set + 2 ^ n) m) unseen) (set_at k)) (lt-ltb set (2 ^ n) low)

passed : (n k v : ℕ) (m : List ℕ) → n ≤ set_bits → stops m ≡ true → Passed k n v m
unfolding names_text is_digit
passed zero k v m h s =
    record {
      left = k;
      most = omega arith;
      read = ap₂ (λ (x y : ℕ). set_at x y m) (omega arith)
          (sym (ap (λ (x : ℕ). v % x) (pow-zero 2) ∙ mod-one v));
    }
passed (suc n) k v m h s = go (member v n) refl (λ m' p. passed n (suc k) v m' (omega arith) p)
  where
    go : (t : Bool) → member v n ≡ t → ((m' : List ℕ) → stops m' ≡ true → Passed (suc k) n v m') → Passed k (suc n) v m
    go true e ih =
        let f = ih ((32 ∷ numeral n) ++ m) refl in
        let fuel : suc n + k ≡ n + suc k = omega arith in
        let left : f.left ≡ suc (f.left - 1) = omega (arith, f.most) in
        record {
          left = f.left - 1;
          most = omega (arith, f.most);
          read =
              ap₂ (λ (x : ℕ) (y : List ℕ). set_at x 0 (y ++ m)) fuel (names_here n v e)
              ∙ ap (set_at (n + suc k) 0) (append_assoc (names_text n v) (32 ∷ numeral n) m) ∙ f.read
              ∙ ap (λ (x : ℕ). set_at x (v % 2 ^ n) ((32 ∷ numeral n) ++ m)) left
              ∙ one_name (f.left - 1) (v % 2 ^ n) n m (omega arith) (mod-lt v (pow_pos n)) s
              ∙ ap (λ (x : ℕ). set_at (f.left - 1) x m) (mod_here v n e);
        }
    go false e ih =
        let f = ih m s in
        let fuel : suc n + k ≡ n + suc k = omega arith in
        record {
          left = f.left;
          most = omega (arith, f.most);
          read =
              ap₂ (λ (x : ℕ) (y : List ℕ). set_at x 0 (y ++ m)) fuel (names_not n v e) ∙ f.read
              ∙ ap (λ (x : ℕ). set_at f.left x m) (mod_not v n e);
        }

-- l does not begin with a space
abbrev pub ends : List ℕ → Bool
ends [] = true
ends (b ∷ l) = not (eqb b 32)

-- no name follows
names_end : (k set : ℕ) (m : List ℕ) → 1 ≤ k → ends m ≡ true → set_at k set m ≡ seen set m
unfolding set_at
names_end zero set m h s = absurd (omega arith)
names_end (suc k) set [] h s = refl
names_end (suc k) set (b ∷ m) h s = simp (not-true (eqb b 32) s)

pub set_back : (v : ℕ) (m : List ℕ) → v < 2 ^ 64 → stops m ≡ true → ends m ≡ true
    → set_at (suc set_bits) 0 (names_text set_bits v ++ m) ≡ seen v m
set_back v m h s e =
    let f = passed set_bits 1 v m (omega arith) s in
    f.read ∙ names_end f.left (v % 2 ^ 64) m f.most e ∙ ap (λ (x : ℕ). seen x m) (mod-eq_of_lt h)

-- How long the names are.

two_digits : (n : ℕ) → n < 100 → length (numeral n) ≤ 2
two_digits n h = go (ltb n 10) refl
  where
    go : (t : Bool) → ltb n 10 ≡ t → length (numeral n) ≤ 2
    go true e = rw (numeral_one n (ltb-true n 10 e)) (omega arith)
    go false e =
        rw (numeral_more n (ltb-false n 10 e) (omega arith), length-append, numeral_one (n / 10) (omega arith))
        (omega arith)

pub names_most : (n v : ℕ) → n ≤ 100 → length (names_text n v) ≤ 3 * n
unfolding names_text
names_most zero v h = omega arith
names_most (suc n) v h = rw length-append (go (member v n) (names_most n v (omega arith)))
  where
    go : (t : Bool) → length (names_text n v) ≤ 3 * n
        → length (names_text n v) + length (cond t (32 ∷ numeral n) []) ≤ 3 * suc n
    go true ih = omega (arith, two_digits n (omega arith))
    go false ih = omega arith
