-- A list that a loop fills from the front.
use mathlib.Core.Path.{◌≡◌, refl, ap, sym, subst, ◌∙◌}
use mathlib.Core.Logic.{⊎_elim}
use mathlib.Core.List.{List, ◌++◌}
use Prim.Native.Nat.{ℕ, ◌+◌, ◌-◌, ◌≤◌, ◌<◌}
use native.Mathlib.Nat.{not-suc-le-zero}
use native.Mathlib.Omega.{arith}
use lib.ListN.{length, length-set, set, drop, replicate, length-replicate}
use Rattle.std.proofs.lemmas.List.{get_or_append_left, get_or-append_right, get_or-drop, get_or-replicate}
use Rattle.allotments.specs.Allotment.{at}
use Rattle.allotments.proofs.Cases.{same_or_not}
use Rattle.exchange.proofs.Entries.{at_same, at_other}
use Rattle.matching.specs.Cited.{Filled}

fill_none : (xs : List ℕ) (f : ℕ → ℕ) → Filled xs xs 0 f
fill_none xs f = record { front = λ j l. absurd (not-suc-le-zero l); beyond = λ j l. refl }

fill_more : (xs xs' : List ℕ) (j x : ℕ) (f : ℕ → ℕ) → Filled xs xs' j f → j < length xs' → x ≡ f j → Filled xs
    (set xs' j x) (j + 1) f
fill_more xs xs' j x f h l e = record {
  front = λ i k. ⊎_elim (λ q. ap (at (set xs' j x)) q ∙ at_same xs' j x l ∙ e ∙ ap f (sym q)) (λ ne. at_other xs' j x
      i ne ∙ h.front i (omega arith)) (same_or_not i j);
  beyond = λ i k. at_other xs' j x i (λ q. omega arith) ∙ h.beyond i (omega arith);
}

-- the first n are one value, and behind them is what was there
pub filled_with : {xs front : List ℕ} {n m v : ℕ} → n ≤ length xs → m ≡ n → front ≡ replicate m v
    → Filled xs (front ++ drop n xs) n (λ j. v)
filled_with {xs} {front} {n} {m} {v} h l e =
    let len : length front ≡ n = ap length e ∙ length-replicate m v ∙ l in
    record {
      front = λ j k.
          get_or_append_left front (drop n xs) 0 j (omega arith)
          ∙ ap (λ (ys : List ℕ). at ys j) e ∙ get_or-replicate m j v 0 (omega arith);
      beyond = λ j k.
          let there : n + (j - n) ≡ j = omega arith in
          get_or-append_right front (drop n xs) n j 0 len k ∙ get_or-drop n xs (j - n) 0 ∙ ap (at xs) there;
    }

-- a loop that fills the first n
pub record Filling (xs xs' : List ℕ) (n j : ℕ) (f : ℕ → ℕ) : Type 0 where
  pub below : j ≤ n
  pub same : length xs' ≡ length xs
  pub filled : Filled xs xs' j f

pub filling_start : {xs : List ℕ} {n : ℕ} {f : ℕ → ℕ} → Filling xs xs n 0 f
filling_start {xs} {n} {f} = record { below = omega arith; same = refl; filled = fill_none xs f }

pub filling_turn : {xs xs' : List ℕ} {n j x : ℕ} {f : ℕ → ℕ} → Filling xs xs' n j f → j < n → n ≤ length xs → x ≡ f j
    → Filling xs (set xs' j x) n (j + 1) f
filling_turn {xs} {xs'} {n} {j} {x} {f} k l r e = record {
  below = omega arith;
  same = length-set xs' j x ∙ k.same;
  filled = fill_more xs xs' j x f k.filled (omega (arith, k.same)) e;
}

pub filling_end : {xs xs' : List ℕ} {n j : ℕ} {f : ℕ → ℕ} → Filling xs xs' n j f → n ≤ j → Filled xs xs' n f
filling_end {xs} {xs'} {n} {j} {f} k l =
    let e : j ≡ n = omega (arith, k.below) in subst (λ (i : ℕ). Filled xs xs' i f) e k.filled
