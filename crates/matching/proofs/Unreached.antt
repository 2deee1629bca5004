-- Allotments that the method does not reach. Where every view names a campaign that has a play for each, serving it
-- leaves no view free: those that were free are its own, and later campaigns get none.
use mathlib.Core.Path.{◌≡◌, refl, ap, sym, ◌∙◌, subst, subst⁻¹}
use mathlib.Core.Bool.{Bool, true, false}
use mathlib.Core.Logic.{◌⊎◌, inl, inr, ⊎_elim}
use mathlib.Core.List.{List}
use Prim.Native.Nat.{ℕ, zero, suc, ◌+◌, ◌≤◌, ◌<◌}
use native.Mathlib.Nat.{le_refl, lt_of_not-le}
use native.Mathlib.Omega.{arith}
use lib.Dec.{eqb}
use lib.ListN.{length, set, length-set}
use borrow.Author.Tests.{lt-ltb}
use Rattle.finite.specs.Finite.{one_if, count}
use Rattle.finite.proofs.Sums.{sum_most}
use Rattle.sets.specs.Set.{member, excluding}
use Rattle.allotments.specs.Allotment.{at, nobody, times}
use Rattle.allotments.proofs.Cases.{same_or_not, one_same, one_other}
use Rattle.exchange.specs.Chain.{Chain}
use Rattle.exchange.specs.Chain.Chain.{given, moved}
use Rattle.exchange.specs.Cited.{holds, NoneFree}
use Rattle.exchange.proofs.Entries.{at_same, at_other, at_past, times_set, holds_some}
use Rattle.matching.specs.Method.{Found, Served, ByFallingPrice}
use Rattle.matching.specs.Method.Found.{none, one_more}
use Rattle.matching.specs.Method.ByFallingPrice.{start, serve}
use Rattle.matching.specs.Examples.{AllName, NotReached}
use Rattle.matching.proofs.Choosing.{others_stay}
use Rattle.matching.proofs.Method.{planned}

-- all the views are c's, or free where c is nobody
abbrev AllTo : (views to : List ℕ) (c : ℕ) → Type 0
AllTo views to c = (j : ℕ) → j < length views → at to j ≡ c

long_enough : (to : List ℕ) (n : ℕ) → ((j : ℕ) → j < n → at to j ≡ nobody) → n ≤ length to
long_enough to zero free = omega arith
long_enough to (suc n) free = lt_of_not-le (λ h. omega (arith, at_past to n h, free n (le_refl (suc n))))

times_most : (m : ℕ) (to : ℕ → ℕ) (d : ℕ) → times m to d ≤ m
unfolding times count
times_most m to d = omega (arith, sum_most m 1 (λ j. one_if (eqb (to j) d)) (λ j l. go (eqb (to j) d)))
  where
    go : (b : Bool) → one_if b ≤ 1
    go true = le_refl 1
    go false = omega arith

-- where every view is given there is no chain, so that nothing changes
ends_free : {views to to' : List ℕ} {c : ℕ} → NoneFree to (length views) → Chain views to to' c → ⊥
ends_free h (given j l m e) = h j l e
ends_free h (moved j l m ne e ch e') = ends_free h ch

stays : {views to : List ℕ} {c : ℕ} {to' : List ℕ} {k : ℕ} → NoneFree to (length views) → Found views to c to' k
    → to' ≡ to
stays h none = refl
stays {views} {c = c} h (one_more {to'' = to''} f ch) =
    absurd (ends_free h (subst (λ (l : List ℕ). Chain views l to'' c) (stays h f) ch))

module _ (views : List ℕ) (P : ℕ → Type 0) where
  -- what k chains leave where P holds of whoever has a view. A chain takes a free view, and gives one back if it is for
  -- nobody, as b of them were
  record Dealt (to : List ℕ) (k b : ℕ) : Type 0 where
    long : length views ≤ length to
    left : holds views to nobody + k ≤ length views + b
    each : (j : ℕ) → j < length views → P (at to j)

  stored : {to : List ℕ} {k k' b b' : ℕ} (j x : ℕ) → j < length views → P x → Dealt to k b
      → k' + b + one_if (eqb x nobody) ≡ k + b' + one_if (eqb (at to j) nobody) → Dealt (set to j x) k' b'
  stored {to} j x l o h q = record {
    long = omega (arith, h.long, length-set to j x);
    left = omega (arith, q, h.left, times_set (length views) to j x nobody l (omega (arith, h.long)));
    each = λ i k. ⊎_elim (λ e. subst P (sym (ap (at (set to j x)) e ∙ at_same to j x (omega (arith, h.long)))) o)
        (λ ne. subst P (sym (at_other to j x i ne)) (h.each i k)) (same_or_not i j);
  }

  chained : {to to' : List ℕ} {d k b b' : ℕ} → P d → b' ≡ b + one_if (eqb d nobody) → Dealt to k b
      → Chain views to to' d → Dealt to' (k + 1) b'
  chained o q h (given {to} {c = d} j l m e) = stored j d l o h (omega (arith, q, one_same (at to j) nobody e))
  chained o q h (moved {c = d} j l m ne e ch e') =
      stored j d l o (chained (subst P e (h.each j l)) refl h ch)
      (omega (arith, q, ap (λ (x : ℕ). one_if (eqb x nobody)) e'))

  dealt : {to : List ℕ} {c : ℕ} {to' : List ℕ} {k : ℕ} → c < 64 → P c → length views ≤ length to
      → ((j : ℕ) → j < length views → P (at to j)) → Found views to c to' k → Dealt to' k 0
  dealt {to} l o long each none = record {
    long = long;
    left = omega (arith, times_most (length views) (at to) nobody);
    each = each;
  }
  dealt {c = c} l o long each (one_more f ch) =
      chained o (omega (arith, one_other c nobody (λ e. omega (arith, l, e)))) (dealt l o long each f) ch

  -- a campaign that every view names, and that has a play for each, leaves none free
  none_left : {to to' : List ℕ} {c whole : ℕ} → AllName views c → length views ≤ whole
      → (s : Served views to to' c whole) → Dealt to' s.plays 0 → NoneFree to' (length views)
  none_left {to' = to'} {c = c} names plays s h j k e =
      s.ended (omega (arith, h.left, plays, holds_some (length views) (at to') j nobody k e)) (set to' j c)
      (given j k (names j k) e)

-- so it gets them all where they are free
served_all : {views to to' : List ℕ} {c whole : ℕ} → c < 64 → AllName views c → length views ≤ whole
    → AllTo views to nobody → Served views to to' c whole → AllTo views to' c
served_all {views} {to} {to'} {c} l names plays free s j k =
    ⊎_elim (λ e. absurd (none_left views Own names plays s h j k e)) (λ e. e) (h.each j k)
  where
    Own : ℕ → Type 0
    Own x = (x ≡ nobody) ⊎ (x ≡ c)

    h : Dealt views Own to' s.plays 0
    h = dealt views Own l (inr refl) (long_enough to (length views) free) (λ j k. inl (free j k)) s.found

-- no campaign is served yet, or one has all the views
data Reached (views to : List ℕ) : Type 0 where
  untouched : AllTo views to nobody → Reached views to
  one_has_all : {c : ℕ} → c < 64 → AllTo views to c → Reached views to

all_or_none : {n : ℕ} {price whole : ℕ → ℕ} {views to : List ℕ} {unserved : ℕ}
    → ((c : ℕ) → c < n → AllName views c × (length views ≤ whole c))
    → ByFallingPrice n price whole views to unserved → Reached views to
all_or_none each (start free all) = untouched free
all_or_none {views = views} each (serve {to} {to'} {unserved} {c} by d s) = go (all_or_none each by)
  where
    go : Reached views to → Reached views to'
    go (untouched free) =
        let plan = each c (planned by c d.inside d.waiting) in
        one_has_all d.inside (served_all d.inside plan.0 plan.1 free s)
    go (one_has_all small all) =
        let same = stays (λ j k e. omega (arith, small, all j k, e)) s.found in
        one_has_all small (λ j k. ap (λ (l : List ℕ). at l j) same ∙ all j k)

-- no view is d's; and c waits, or no view is free
record Spared (views : List ℕ) (c d : ℕ) (to : List ℕ) (unserved : ℕ) : Type 0 where
  long : length views ≤ length to
  each : (j : ℕ) → j < length views → at to j ≡ d → ⊥
  now : (member unserved c ≡ true) ⊎ NoneFree to (length views)

module _ {n : ℕ} {price whole : ℕ → ℕ} {views : List ℕ} {c d : ℕ} (few : n ≤ 64) (plan : c < n) (small : d < n)
    (dearer : price d < price c) (names : AllName views c) (plays : length views ≤ whole c) where
  spared : {to : List ℕ} {unserved : ℕ} → ByFallingPrice n price whole views to unserved
      → Spared views c d to unserved
  spared (start {to} free all) = record {
    long = long_enough to (length views) free;
    each = λ j k e. omega (arith, few, small, free j k, e);
    now = inl (all c (omega (arith, few, plan)) ∙ lt-ltb c n plan);
  }
  spared (serve {to} {to'} {unserved} {c = x} by f s) = go (spared by)
    where
      Other : ℕ → Type 0
      Other y = y ≡ d → ⊥

      go : Spared views c d to unserved → Spared views c d to' (excluding unserved x)
      go h = ⊎_elim waiting given_all h.now
        where
          given_all : NoneFree to (length views) → Spared views c d to' (excluding unserved x)
          given_all taken =
              subst⁻¹ (λ (l : List ℕ). Spared views c d l (excluding unserved x)) (stays taken s.found)
              (record { long = h.long; each = h.each; now = inr taken })

          waiting : member unserved c ≡ true → Spared views c d to' (excluding unserved x)
          waiting m = record { long = r.long; each = r.each; now = ⊎_elim is_c other (same_or_not x c) }
            where
              r : Dealt views Other to' s.plays 0
              r = dealt views Other f.inside
                  (λ e. omega (arith, dearer, ap price e, f.top c (omega (arith, few, plan)) m))
                  h.long h.each s.found

              is_c : x ≡ c → (member (excluding unserved x) c ≡ true) ⊎ NoneFree to' (length views)
              is_c e = inr (none_left views Other (subst⁻¹ (AllName views) e names)
                  (subst⁻¹ (λ (y : ℕ). length views ≤ whole y) e plays) s r)

              other : (x ≡ c → ⊥) → (member (excluding unserved x) c ≡ true) ⊎ NoneFree to' (length views)
              other ne = inl (others_stay unserved x f.inside c (omega (arith, few, plan)) (λ e. ne (sym e)) ∙ m)

pub not_reached : NotReached
not_reached = record {
  cheaper_first = λ {j = j} few plan small dearer names plays k e by.
      (spared few plan small dearer names plays by).each j k e;
  shared = λ {i = i} {j = j} each k l ne by. go i j k l ne (all_or_none each by);
}
  where
    go : {views to : List ℕ} (i j : ℕ) → i < length views → j < length views → (at to i ≡ at to j → ⊥)
        → Reached views to → ⊥
    go i j k l ne (untouched all) = ne (all i k ∙ sym (all j l))
    go i j k l ne (one_has_all small all) = ne (all i k ∙ sym (all j l))
