-- The worked instances of the method, step by step: their chains, and one service for each campaign; and the chain that
-- moves any number of views, built from its last move on.
use mathlib.Core.Path.{◌≡◌, refl, ap, sym, ◌∙◌}
use mathlib.Core.Bool.{true, not}
use mathlib.Core.Logic.{⊎_elim}
use mathlib.Core.List.{List, [], ◌∷◌}
use Prim.Native.Nat.{ℕ, zero, suc, ◌+◌, ◌≤◌, ◌<◌}
use native.Mathlib.Omega.{arith}
use native.Mathlib.Nat.{lt_of_not-le}
use lib.ListN.{length, set, length-set, replicate, get_or-replicate}
use Rattle.finite.specs.Finite.{every}
use Rattle.finite.proofs.Tests.{never, every_at}
use Rattle.sets.proofs.Bounds.{within_member}
use Rattle.sets.specs.Set.{member, within, collect, without, including}
use Rattle.allotments.specs.Allotment.{at, nobody}
use Rattle.allotments.proofs.Cases.{same_or_not}
use Rattle.exchange.specs.Chain.{Chain}
use Rattle.exchange.specs.Chain.Chain.{given, moved}
use Rattle.exchange.proofs.Entries.{at_same, at_other}
use Rattle.matching.specs.Method.{Dearest, Served, ByFallingPrice}
use Rattle.matching.specs.Method.Found.{none, one_more}
use Rattle.matching.specs.Method.ByFallingPrice.{start, serve}
use Rattle.matching.proofs.Choosing.{everyone_of}
use Rattle.matching.specs.Examples.{two_views, MethodWorks, three_views, ChainWorks, AnyLength}

zero_first : Chain two_views (nobody ∷ nobody ∷ []) (0 ∷ nobody ∷ []) 0
unfolding member
zero_first = given 0 (omega arith) refl refl

zero_again : Chain two_views (0 ∷ nobody ∷ []) (0 ∷ 0 ∷ []) 0
unfolding member
zero_again = given 1 (omega arith) refl refl

one_moved : Chain two_views (0 ∷ nobody ∷ []) (1 ∷ 0 ∷ []) 1
unfolding member
one_moved = moved {d = 0} 0 (omega arith) refl (λ (e : ◌≡◌ {A = ℕ} 0 1). omega arith) refl zero_again refl

zero_served : Chain three_views (nobody ∷ nobody ∷ nobody ∷ []) (0 ∷ nobody ∷ nobody ∷ []) 0
unfolding member
zero_served = given 0 (omega arith) refl refl

one_served : Chain three_views (0 ∷ nobody ∷ nobody ∷ []) (0 ∷ 1 ∷ nobody ∷ []) 1
unfolding member
one_served = given 1 (omega arith) refl refl

-- campaign 1 gets view 2, then 0 view 1, then 2 view 0
two_moved : Chain three_views (0 ∷ 1 ∷ nobody ∷ []) (2 ∷ 0 ∷ 1 ∷ []) 2
unfolding member
two_moved = moved {d = 0} 0 (omega arith) refl (λ (e : ◌≡◌ {A = ℕ} 0 2). omega arith) refl
    (moved {d = 1} 1 (omega arith) refl (λ (e : ◌≡◌ {A = ℕ} 1 0). omega arith) refl
    (given 2 (omega arith) refl refl) refl) refl

all_nobody : (n j : ℕ) → j < n → at (replicate n nobody) j ≡ nobody
all_nobody n j l = get_or-replicate n j nobody 0 l

-- where prices fall from one campaign to the next, the least of those not served is a dearest
falling : (n : ℕ) (price : ℕ → ℕ) → ((d : ℕ) → suc d < n → price (suc d) ≤ price d) → (c d : ℕ) → c ≤ d → d < n
    → price d ≤ price c
falling n price step c zero h l =
    let same : c ≡ 0 = omega (arith, h) in
    omega (arith, ap price same)
falling n price step c (suc d) h l = ⊎_elim (λ e. omega (arith, ap price e))
    (λ ne. omega (arith, step d l, falling n price step c d (omega (arith, ne, h)) (omega (arith, l))))
    (same_or_not c (suc d))

least_dearest : (n : ℕ) (price : ℕ → ℕ) (left c : ℕ) → ((d : ℕ) → suc d < n → price (suc d) ≤ price d) → c < 64
    → member left c ≡ true → within n left ≡ true → every c (λ d. not (member left d)) ≡ true → Dearest price left c
least_dearest n price left c step l m w least = record {
  inside = l;
  waiting = m;
  top = λ d k q. falling n price step c d (omega (arith, lt_of_not-le (λ h. below d h q)))
      (within_member n left d w k q);
}
  where
    below : (d : ℕ) → d < c → member left d ≡ true → ⊥
    below d h q = never (not (member left d)) (ap not q) (every_at c (λ i. not (member left i)) least d h)

one_play : {views to to' : List ℕ} {c whole : ℕ} → Chain views to to' c → whole ≡ 1 → Served views to to' c whole
one_play chain w = record {
  plays = 1;
  found = one_more none chain;
  most = omega (arith, w);
  ended = λ l. absurd (omega (arith, w));
}

pub method_works : MethodWorks
unfolding member every within collect without including
method_works price whole h w0 w1 = record {
  first_served = zero_first;
  view_moved = one_moved;
  all_served =
      serve {unserved = 2}
      (serve {unserved = 3} (start (all_nobody 2) (everyone_of 2 3 refl))
      (least_dearest 2 price 3 0 step (omega arith) refl refl refl) (one_play zero_first w0))
      (least_dearest 2 price 2 1 step (omega arith) refl refl refl) (one_play one_moved w1);
}
  where
    step : (d : ℕ) → suc d < 2 → price (suc d) ≤ price d
    step zero l = h
    step (suc d) l = absurd (omega arith)

pub chain_works : ChainWorks
unfolding member every within collect without including
chain_works price whole h h' w = record {
  two_served = two_served;
  views_moved = two_moved;
  all_served = serve {unserved = 4} two_served (least_dearest 3 price 4 2 step (omega arith) refl refl refl)
      (one_play two_moved (w 2 (omega arith)));
}
  where
    step : (d : ℕ) → suc d < 3 → price (suc d) ≤ price d
    step zero l = h
    step (suc zero) l = h'
    step (suc (suc d)) l = absurd (omega arith)

    two_served : ByFallingPrice 3 price whole three_views (0 ∷ 1 ∷ nobody ∷ []) 4
    two_served =
        serve {unserved = 6}
        (serve {unserved = 7} (start (all_nobody 3) (everyone_of 3 7 refl))
        (least_dearest 3 price 7 0 step (omega arith) refl refl refl) (one_play zero_served (w 0 (omega arith))))
        (least_dearest 3 price 6 1 step (omega arith) refl refl refl) (one_play one_served (w 1 (omega arith)))

-- the views from i on are moved, for campaign x
record MovedFrom (m : ℕ) (views to : List ℕ) (i x : ℕ) : Type 0 where
  next : List ℕ
  long : length next ≡ m + 1
  chain : Chain views to next x
  before : (j : ℕ) → j < i → at next j ≡ at to j
  first : at next i ≡ x
  later : (j : ℕ) → i ≤ j → j < m → at next (j + 1) ≡ j

module _ (m : ℕ) (views to : List ℕ) (many : length views ≡ m + 1) (long : length to ≡ m + 1)
    (held : (j : ℕ) → j < m → at to j ≡ j) (free : at to m ≡ nobody)
    (names : (j : ℕ) → j < m → member (at views (j + 1)) j ≡ true) where
  moved_from : (k i x : ℕ) → i + k ≡ m → member (at views i) x ≡ true → (0 < k → i ≡ x → ⊥)
      → MovedFrom m views to i x
  moved_from zero i x e nm ne = record {
    next = set to i x;
    long = length-set to i x ∙ long;
    chain = given i (omega (arith, many, e)) nm (ap (at to) same ∙ free);
    before = λ j l. at_other to i x j (λ q. omega (arith, l, q));
    first = at_same to i x (omega (arith, long, e));
    later = λ j h l. absurd (omega (arith, h, l, e));
  }
    where
      same : i ≡ m
      same = omega (arith, e)
  moved_from (suc k) i x e nm ne = go (moved_from k (i + 1) i (omega (arith, e)) (names i l) (λ h q. omega (arith, q)))
    where
      l : i < m
      l = omega (arith, e)

      go : MovedFrom m views to (i + 1) i → MovedFrom m views to i x
      go r = record {
        next = set r.next i x;
        long = length-set r.next i x ∙ r.long;
        chain = moved {d = i} i (omega (arith, many, l)) nm (ne (omega arith)) (held i l) r.chain
            (r.before i (omega arith) ∙ held i l);
        before = λ j h. at_other r.next i x j (λ q. omega (arith, h, q)) ∙ r.before j (omega (arith, h));
        first = at_same r.next i x (omega (arith, r.long, l));
        later = λ j h q. at_other r.next i x (j + 1) (λ s. omega (arith, h, s))
            ∙ ⊎_elim (λ s. ap (λ (y : ℕ). at r.next (y + 1)) s ∙ r.first ∙ sym s)
            (λ s. r.later j (omega (arith, h, s)) q) (same_or_not j i);
      }

pub any_length : AnyLength
any_length m views to many long held free first names = record {
  next = r.next;
  chain = r.chain;
  first = r.first;
  later = λ j l. r.later j (omega arith) l;
}
  where
    r : MovedFrom m views to 0 m
    r = moved_from m views to many long held free names m 0 m (omega arith) first (λ h e. omega (arith, h, e))
