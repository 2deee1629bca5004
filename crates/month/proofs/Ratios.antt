-- The worst of the first n records, found record by record, is the worst in the request's words: there is at most one
-- such place, and `worst` is it. A ratio below one that is at most a third is below the third (`chain`).
use mathlib.Core.Path.{◌≡◌, refl}
use mathlib.Core.Bool.{Bool, true, false, cond, not, ◌&&◌, ◌||◌}
use mathlib.Core.List.{List}
use Rattle.std.specs.Prelude.{Option, Some, None}
use Prim.Native.Nat.{ℕ, zero, suc, ◌*◌, ◌≤◌, ◌<◌}
use native.Mathlib.Nat.{not-suc-le-zero, mul-le-mul_left, lt_of_mul-lt-mul_left, not-le_of_lt}
use native.Mathlib.Omega.{arith}
use lib.Dec.{leb, ltb}
use lib.ListN.{length}
use borrow.Author.Tests.{ltb-true, ltb-false, lt-ltb, le-ltb, le-leb, lt-leb}
use Rattle.finite.specs.Finite.{every}
use Rattle.finite.proofs.Tests.{both_join, one_more, every_of, every_not}
use Rattle.finite.proofs.Least.{least_is, least_unique}
use Rattle.month.specs.declared.DayRecord.{DayRecord}
use Rattle.month.specs.Month.{day, can_be_worst, ratio_at_most, smallest_ratio, worst}
use Rattle.month.specs.Promises.{WorstDay, NoneWorst}

-- d's ratio of takings to greatest is at most e's, and below it
abbrev pub UpTo : DayRecord → DayRecord → Type 0
UpTo d e = d.takings * e.greatest ≤ e.takings * d.greatest

abbrev pub Below : DayRecord → DayRecord → Type 0
Below d e = d.takings * e.greatest < e.takings * d.greatest

chain : (c d e : DayRecord) → 0 < e.greatest → Below c d → UpTo d e → Below c e
chain c d e q below most =
    lt_of_mul-lt-mul_left d.greatest
    (omega (arith, q, mul-le-mul_left e.greatest below, mul-le-mul_left c.greatest most))

-- the place k is the worst of the first n
pub record WorstUpto (days : List DayRecord) (n k : ℕ) : Type 0 where
  pub within : k < n
  pub above : 0 < (day days k).greatest
  pub none_smaller : (j : ℕ) → j < n → 0 < (day days j).greatest → UpTo (day days k) (day days j)
  pub earlier_greater : (j : ℕ) → j < k → 0 < (day days j).greatest → Below (day days k) (day days j)

-- found record by record
abbrev pub worse : DayRecord → DayRecord → Bool
worse d e = ltb (d.takings * e.greatest) (e.takings * d.greatest)

unfoldable pub worst_with : List DayRecord → Option ℕ → ℕ → Option ℕ
worst_with days None n = cond (can_be_worst (day days n)) (Some n) None
worst_with days (Some k) n = cond (can_be_worst (day days n) && worse (day days n) (day days k)) (Some n) (Some k)

unfoldable pub worst_upto : List DayRecord → ℕ → Option ℕ
worst_upto days zero = None
worst_upto days (suc n) = worst_with days (worst_upto days n) n

abbrev pub Right : List DayRecord → ℕ → Option ℕ → Type 0
Right days n None = (j : ℕ) → j < n → (day days j).greatest ≡ 0
Right days n (Some k) = WorstUpto days n k

first_one : (days : List DayRecord) (n : ℕ) → Right days n None → 0 < (day days n).greatest → WorstUpto days (suc n) n
first_one days n h p = record {
  within = omega arith;
  above = p;
  none_smaller =
      one_more (λ j. 0 < (day days j).greatest → UpTo (day days n) (day days j)) n
      (λ j l q. absurd (omega (arith, h j l, q))) (λ q. omega arith);
  earlier_greater = λ j l q. absurd (omega (arith, h j l, q));
}

takes_over : (days : List DayRecord) (n k : ℕ) → WorstUpto days n k → 0 < (day days n).greatest
    → Below (day days n) (day days k) → WorstUpto days (suc n) n
takes_over days n k w p below = record {
  within = omega arith;
  above = p;
  none_smaller =
      one_more (λ j. 0 < (day days j).greatest → UpTo (day days n) (day days j)) n (λ j l q. omega (arith, less j l q))
      (λ q. omega arith);
  earlier_greater = less;
}
  where
    less : (j : ℕ) → j < n → 0 < (day days j).greatest → Below (day days n) (day days j)
    less j l q = chain (day days n) (day days k) (day days j) q below (w.none_smaller j l q)

keeps_place : (days : List DayRecord) (n k : ℕ) → WorstUpto days n k
    → (0 < (day days n).greatest → UpTo (day days k) (day days n)) → WorstUpto days (suc n) k
keeps_place days n k w here = record {
  within = omega (arith, w.within);
  above = w.above;
  none_smaller = one_more (λ j. 0 < (day days j).greatest → UpTo (day days k) (day days j)) n w.none_smaller here;
  earlier_greater = w.earlier_greater;
}

with_none : (days : List DayRecord) (n : ℕ) (c : Bool) → can_be_worst (day days n) ≡ c → Right days n None
    → Right days (suc n) (worst_with days None n)
unfolding worst_with can_be_worst
with_none days n true p h = rw p (first_one days n h (ltb-true 0 _ p))
with_none days n false p h =
    rw p (one_more (λ j. (day days j).greatest ≡ 0) n h (omega (arith, ltb-false 0 (day days n).greatest p)))

with_some : (days : List DayRecord) (n k : ℕ) (c b : Bool) → can_be_worst (day days n) ≡ c
    → worse (day days n) (day days k) ≡ b → Right days n (Some k) → Right days (suc n) (worst_with days (Some k) n)
unfolding worst_with can_be_worst
with_some days n k true true p q h = rw p (rw q (takes_over days n k h (ltb-true 0 _ p) (ltb-true _ _ q)))
with_some days n k true false p q h = rw p (rw q (keeps_place days n k h (λ _. ltb-false _ _ q)))
with_some days n k false b p q h =
    rw p (keeps_place days n k h (λ l. absurd (omega (arith, l, ltb-false 0 (day days n).greatest p))))

step : (days : List DayRecord) (n : ℕ) (w : Option ℕ) → Right days n w → Right days (suc n) (worst_with days w n)
step days n None h = with_none days n _ refl h
step days n (Some k) h = with_some days n k _ _ refl refl h

pub found_right : (days : List DayRecord) (n : ℕ) → Right days n (worst_upto days n)
unfolding worst_upto
found_right days zero = λ j l. absurd (not-suc-le-zero l)
found_right days (suc n) = step days n (worst_upto days n) (found_right days n)

-- of all records
pub whole : (days : List DayRecord) (k : ℕ) → WorstUpto days (length days) k → WorstDay days k
whole days k w = record {
  within = w.within;
  above = w.above;
  none_smaller = w.none_smaller;
  earlier_greater = w.earlier_greater;
}

pub one_place : (days : List DayRecord) (k l : ℕ) → WorstDay days k → WorstDay days l → k ≡ l
one_place days k l p q = go (ltb k l) refl (ltb l k) refl
  where
    go : (b : Bool) → ltb k l ≡ b → (c : Bool) → ltb l k ≡ c → k ≡ l
    go true e c f = absurd
        (not-le_of_lt (q.earlier_greater k (ltb-true k l e) p.above) (p.none_smaller l q.within q.above))
    go false e true f = absurd
        (not-le_of_lt (p.earlier_greater l (ltb-true l k f) q.above) (q.none_smaller k p.within p.above))
    go false e false f = omega (arith, ltb-false k l e, ltb-false l k f)

-- the worst in words is the least place with the smallest ratio
smallest_there : (days : List DayRecord) (k : ℕ) → WorstDay days k → smallest_ratio days k ≡ true
unfolding smallest_ratio can_be_worst ratio_at_most
smallest_there days k w =
    both_join _ _ (lt-ltb 0 _ w.above) (every_of (length days) _ (λ j l. here j l (ltb 0 (day days j).greatest)
    refl))
  where
    here : (j : ℕ) → j < length days → (b : Bool) → ltb 0 (day days j).greatest ≡ b
        → (not b || leb ((day days k).takings * (day days j).greatest) ((day days j).takings * (day days k).greatest)) ≡
        true
    here j l true e = le-leb _ _ (w.none_smaller j l (ltb-true 0 _ e))
    here j l false e = refl

not_before : (days : List DayRecord) (k : ℕ) → WorstDay days k → (j : ℕ) → j < k → smallest_ratio days j ≡ false
unfolding smallest_ratio can_be_worst ratio_at_most
not_before days k w j l = go (ltb 0 (day days j).greatest) refl
  where
    passed : ltb 0 (day days j).greatest ≡ true
        → (not (ltb 0 (day days k).greatest)
        || leb ((day days j).takings * (day days k).greatest) ((day days k).takings * (day days j).greatest)) ≡ false
    passed e =
        rw (lt-ltb 0 (day days k).greatest w.above)
        (lt-leb _ _ (w.earlier_greater j l (ltb-true 0 (day days j).greatest e)))

    go : (b : Bool) → ltb 0 (day days j).greatest ≡ b
        → (ltb 0 (day days j).greatest && every (length days) (λ i. not (ltb 0 (day days i).greatest)
        || leb ((day days j).takings * (day days i).greatest) ((day days i).takings * (day days j).greatest))) ≡ false
    go true e = rw e (every_not (length days) _ k w.within (passed e))
    go false e = rw e refl

pub worst_found : (days : List DayRecord) (k : ℕ) → WorstDay days k → worst days ≡ k
unfolding worst
worst_found days k w =
    least_unique (length days) (smallest_ratio days) _ _ (least_is (length days) (smallest_ratio days))
    (record {
      most = omega (arith, w.within);
      none = not_before days k w;
      found = λ _. smallest_there days k w;
    })

-- where no day can be the worst
pub worst_none : (days : List DayRecord) → NoneWorst days → worst days ≡ length days
unfolding worst smallest_ratio can_be_worst
worst_none days h =
    least_unique (length days) (smallest_ratio days) _ _ (least_is (length days) (smallest_ratio days))
    (record {
      most = omega arith;
      none = λ j l. rw (le-ltb 0 (day days j).greatest (omega (arith, h j l))) refl;
      found = λ l. absurd (omega (arith, l));
    })
