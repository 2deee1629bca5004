-- Records as numbers: how many there are, each of them, and that as many as an array holds are enough for the report.
use mathlib.Core.Path.{◌≡◌, refl, sym, ◌∙◌, ap, ap₂}
use mathlib.Core.Bool.{Bool, true, false}
use mathlib.Core.List.{List, [], ◌∷◌}
use Prim.Native.Nat.{ℕ, zero, suc, ◌+◌, ◌*◌, ◌/◌, ◌<◌, min}
use native.Mathlib.Nat.{not-suc-le-zero}
use native.Mathlib.Omega.{arith}
use lib.Dec.{ltb}
use lib.ListN.{length, get_or, take, length-take}
use borrow.Author.Tests.{ltb-true, ltb-false}
use Rattle.month.specs.declared.DayRecord.{DayRecord}
use Rattle.month.specs.Month.{day, report_of}
use Rattle.month.specs.Pairs.{pairs}
use Rattle.month.specs.Promises.{AlwaysPaired}
use Rattle.month.specs.Cited.{Gathered}
use Rattle.month.proofs.Upto.{many}

-- record i of these numbers
abbrev record_at : List ℕ → ℕ → DayRecord
record_at words i = record { takings = get_or words (2 * i) 0; greatest = get_or words (2 * i + 1) 0 }

-- how many records there are, and each of them
pub pairs_length : (words : List ℕ) → length (pairs words) ≡ length words / 2
unfolding pairs
pairs_length [] = refl
pairs_length (t ∷ []) = refl
pairs_length (t ∷ (g ∷ l)) = omega (arith, pairs_length l)

pub pairs_at : (words : List ℕ) (i : ℕ) → i < length (pairs words) → day (pairs words) i ≡ record_at words i
unfolding pairs
pairs_at [] i l = absurd (not-suc-le-zero l)
pairs_at (t ∷ []) i l = absurd (not-suc-le-zero l)
pairs_at (t ∷ (g ∷ l)) zero k = refl
pairs_at (t ∷ (g ∷ l)) (suc i) k =
    pairs_at l i (omega (arith, k))
    ∙ ap₂ (λ (x y : ℕ). record { takings = x; greatest = y }) (behind (2 * i) (2 * suc i) (omega arith))
    (behind (2 * i + 1) (2 * suc i + 1) (omega arith))
  where
    behind : (n m : ℕ) → m ≡ suc (suc n) → get_or l n 0 ≡ get_or (t ∷ (g ∷ l)) m 0
    behind n m e = ap (λ (j : ℕ). get_or (t ∷ (g ∷ l)) j 0) (sym e)

-- lists with as many records, the same at each place, are one list
same_list : (l m : List DayRecord) → length l ≡ length m → ((i : ℕ) → i < length l → day l i ≡ day m i) → l ≡ m
same_list [] [] e h = refl
same_list [] (y ∷ m) e h = absurd (omega (arith, e))
same_list (x ∷ l) [] e h = absurd (omega (arith, e))
same_list (x ∷ l) (y ∷ m) e h =
    ap₂ (λ (z : DayRecord) (r : List DayRecord). z ∷ r) (h 0 (omega arith))
    (same_list l m (omega (arith, e)) (λ i k. h (suc i) (omega (arith, k))))

day_take : (k : ℕ) (l : List DayRecord) (i : ℕ) → i < k → day (take k l) i ≡ day l i
day_take zero l i h = absurd (not-suc-le-zero h)
day_take (suc k) [] i h = refl
day_take (suc k) (x ∷ l) zero h = refl
day_take (suc k) (x ∷ l) (suc i) h = day_take k l i (omega (arith, h))

-- the first of them, up to 32, report what all do
pub enough : (k : ℕ) (words : List ℕ) (list : List DayRecord) → k ≡ min (length words / 2) 32
    → Gathered k words list → report_of (take k list) ≡ report_of (pairs words)
enough k words list e g = go (ltb (length words / 2) 32) refl
  where
    long : length (take k list) ≡ min k 32
    long = length-take k list ∙ ap (min k) g.full_length

    go : (b : Bool) → ltb (length words / 2) 32 ≡ b → report_of (take k list) ≡ report_of (pairs words)
    go true l =
        let few = ltb-true (length words / 2) 32 l in
        let same : length (take k list) ≡ length (pairs words) = omega (arith, long, e, few, pairs_length words) in
        ap report_of (same_list (take k list) (pairs words) same (λ i h.
        day_take k list i (omega (arith, h, long)) ∙ g.record_is i (omega (arith, h, long))
        ∙ sym (pairs_at words i (omega (arith, h, same)))))
    go false l =
        let over = ltb-false (length words / 2) 32 l in
        let first : 31 < length (take k list) = omega (arith, long, e, over) in
        let all : 31 < length (pairs words) = omega (arith, over, pairs_length words) in
        sym (many (take k list) first) ∙ many (pairs words) all

pub paired : AlwaysPaired
paired words = record {
  count_is = pairs_length words;
  record_is =
      λ i l. let e = pairs_at words i (omega (arith, l, pairs_length words)) in
      (ap (λ (d : DayRecord). d.takings) e, ap (λ (d : DayRecord). d.greatest) e);
}
