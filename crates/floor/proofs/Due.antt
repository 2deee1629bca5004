-- An allotment takes no more than what is due, once the campaigns that fall short are struck out: every other one is
-- due its whole plays, and given no more.
use mathlib.Core.Path.{◌≡◌, refl}
use mathlib.Core.Bool.{Bool, true, false, cond}
use Prim.Native.Nat.{ℕ, ◌*◌, ◌≤◌, ◌<◌}
use native.Mathlib.Nat.{mul-le-mul_left, le-div_iff_mul-le}
use native.Mathlib.Omega.{arith}
use lib.ListN.{length}
use borrow.Author.Tests.{ltb-false}
use Rattle.finite.proofs.Sums.{sum_le}
use Rattle.allotments.specs.Allotment.{times}
use Rattle.allotments.proofs.Takings.{by_campaign}
use Rattle.floor.specs.History.{History}
use Rattle.floor.specs.Floor.{price_of, whole_of, named_in, falls_short, unstruck, Allotted, takings_of}
use Rattle.floor.specs.Noon.{due_of, day_due}

module _ (h : History) (deep : 0 < h.plan.depth) (to : ℕ → ℕ) (al : Allotted h to) where
  part : (i : ℕ) → i < length h.terms → unstruck h i * times (length h.views) to i ≤ price_of h i * due_of h i
  part i l = go (falls_short h i) refl
    where
      go : (b : Bool) → falls_short h i ≡ b
          → cond b 0 (price_of h i) * times (length h.views) to i ≤ price_of h i * due_of h i
      go true e = omega arith
      go false e =
          let w : whole_of h i * h.plan.depth ≤ named_in h i = omega (arith, ltb-false) in
          mul-le-mul_left (price_of h i) (omega (arith, (le-div_iff_mul-le deep).1 w, al.bought i l))

  pub due_enough : takings_of h (unstruck h) to ≤ day_due h
  due_enough =
      omega (
        arith,
        by_campaign (length h.terms) (unstruck h) (length h.views) to,
        sum_le (length h.terms) (λ i. unstruck h i * times (length h.views) to i)
            (λ i. price_of h i * due_of h i) part,
      )
