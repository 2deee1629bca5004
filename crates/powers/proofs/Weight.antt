-- The weights rise with the age from (d − 1)^k to d^k: each step adds `slope`, and all steps sum to the share.
use mathlib.Core.Path.{◌≡◌, ap, subst}
use Prim.Native.Nat.{ℕ, zero, suc, ◌+◌, ◌-◌, ◌*◌, ◌^◌, ◌≤◌, ◌<◌}
use native.Mathlib.Nat.{pow-suc, pow-zero, le_refl, mul-one, one-mul, sub_self, sub-zero, pow-le-pow_left}
use native.Mathlib.Nat.{sub-add_cancel}
use native.Mathlib.Omega.{arith}
use Rattle.finite.specs.Finite.{sum}
use Rattle.powers.specs.Power.{weight, share}
use Rattle.finite.proofs.Sums.{sum_zero, sum_suc}

-- W(a + 1) − W(a)
unfoldable pub slope : (k d : ℕ) → ℕ → ℕ
slope k d a = d ^ a * (d - 1) ^ (k - (a + 1))

pub weight_top : (k d : ℕ) → weight k d k ≡ d ^ k
unfolding weight
weight_top k d = rw (sub_self, pow-zero, mul-one)

pub weight_zero : (k d : ℕ) → weight k d 0 ≡ (d - 1) ^ k
unfolding weight
weight_zero k d = rw (sub-zero, pow-zero, one-mul)

pub share_weight : (k d : ℕ) → share k d + (d - 1) ^ k ≡ d ^ k
unfolding share
share_weight k d = sub-add_cancel (pow-le-pow_left (omega arith) k)

module _ (k d : ℕ) (pos : 0 < d) where
  pub weight_slope : (a : ℕ) → a < k → weight k d a ≡ (d - 1) * slope k d a
  unfolding weight slope
  weight_slope a h =
      let e : k - a ≡ suc (k - (a + 1)) = omega arith in
      rw (e, pow-suc (d - 1) (k - (a + 1))) (omega arith)

  pub weight_up : (a : ℕ) → a < k → weight k d (a + 1) ≡ d * slope k d a
  unfolding weight slope
  weight_up a h =
      let e : a + 1 ≡ suc a = omega arith in
      rw (e, pow-suc d a) (omega arith)

  pub weight_next : (a : ℕ) → a < k → weight k d (a + 1) ≡ weight k d a + slope k d a
  weight_next a h =
      let q : d ≡ (d - 1) + 1 = omega arith in
      omega (arith, weight_up a h, weight_slope a h, ap (λ x. x * slope k d a) q)

  -- the place values below a sum to W(a) - W(0)
  pub slopes : (a : ℕ) → a ≤ k → sum a (slope k d) + weight k d 0 ≡ weight k d a
  slopes zero h = omega (arith, sum_zero (slope k d))
  slopes (suc a) h =
      let e : suc a ≡ a + 1 = omega arith in
      omega (arith, sum_suc a (slope k d), slopes a (omega arith), weight_next a h, ap (weight k d) e)

  pub slopes_all : sum k (slope k d) ≡ share k d
  slopes_all = omega (arith, slopes k (le_refl k), weight_zero k d, weight_top k d, share_weight k d)

  pub weight_mono : (a : ℕ) → a ≤ k → weight k d 0 ≤ weight k d a
  weight_mono a h = omega (arith, slopes a h)

  pub weight_most : (a : ℕ) → a ≤ k → weight k d a ≤ d ^ k
  weight_most a h =
      let q : a + (k - a) ≡ k = omega arith in
      subst (λ x. weight k d a ≤ x) (weight_top k d)
      (subst (λ x. weight k d a ≤ weight k d x) q (up (k - a) (omega arith)))
    where
      up : (j : ℕ) → a + j ≤ k → weight k d a ≤ weight k d (a + j)
      up zero l = let e : a + 0 ≡ a = omega arith in rw e (le_refl (weight k d a))
      up (suc j) l =
          let e : a + suc j ≡ (a + j) + 1 = omega arith in
          rw e (omega (arith, up j (omega arith), weight_next (a + j) (omega arith)))
