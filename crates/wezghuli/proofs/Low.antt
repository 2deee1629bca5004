-- Questions with numbers below 100, and the first of them that fails.
use mathlib.Core.Bool.{Bool, true, false, cond}
use mathlib.Core.List.{List, [], ◌∷◌}
use Prim.Native.Nat.{ℕ, ◌<◌}
use native.Mathlib.Omega.{arith}
use Rattle.questions.specs.Questions.{Question, question, first_failed}

pub small : (b : Bool) (x y : ℕ) → x < 100 → y < 100 → cond b x y < 100
small true x y p q = p
small false x y p q = q

pub data Low : List Question → Type 0 where
  none : Low []
  then : (q : ℕ) {b : Bool} {qs : List Question} → q < 100 → Low qs → Low (question q b ∷ qs)

pub low_small : {qs : List Question} → Low qs → first_failed qs < 100
unfolding first_failed
low_small none = omega arith
low_small (then q {b} {qs} p r) = small b (first_failed qs) q (low_small r) p
