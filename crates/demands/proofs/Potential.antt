-- The potential argument, from what each campaign gains: a view raises the sum of the claims by at most full times what
-- it pays. At most d − 1 others are passed over, each gains at most the player's score / (d − 1), and the player gains
-- full less its own score.
use mathlib.Core.Path.{◌≡◌, refl, ap}
use mathlib.Core.Bool.{Bool, true, false, cond}
use Prim.Native.Nat.{ℕ, ◌+◌, ◌-◌, ◌*◌, ◌≤◌, ◌<◌}
use native.Mathlib.Omega.{arith}
use lib.Dec.{eqb}
use borrow.Author.Tests.{eq-eqb}
use Rattle.finite.specs.Finite.{sum, one_if, count}
use Rattle.finite.proofs.Sums.{sum_eq, sum_none, sum_split, hide, capacity}
use Rattle.campaigns.specs.Choice.{Choice, is, paid}
use Rattle.campaigns.specs.Choice.Choice.{nobody, plays}
use Rattle.demands.specs.Choice.{Right}

-- a campaign that is able or not, that plays or not, with its compared figure and its offer, gains g
pub record Gain (d full : ℕ) (able won : Bool) (figure offer g : ℕ) : Type 0 where
  pub idle : able ≡ false → g ≡ 0
  pub passed : able ≡ true → won ≡ false → (d - 1) * g ≤ figure
  pub played : able ≡ true → won ≡ true → g + figure ≤ full * offer

module _ (d full n : ℕ) (able : ℕ → Bool) (figure offer g : ℕ → ℕ) (pos : 0 < d) (few : count n able ≤ d) where
  hidden_gain : (b q : Bool) (x F S o : ℕ) → Gain d full b q F o x → (b ≡ true → F ≤ S)
      → (d - 1) * cond q 0 x ≤ cond q 0 (one_if b) * S
  hidden_gain b true x F S o h l = omega arith
  hidden_gain true false x F S o h l = omega (arith, h.passed refl refl, l refl)
  hidden_gain false false x F S o h l = omega (arith, ap (λ y. (d - 1) * y) (h.idle refl))

  hidden_none : (b q : Bool) (x F o : ℕ) → Gain d full b q F o x → cond q 0 (one_if b) ≡ 0 → cond q 0 x ≡ 0
  hidden_none b true x F o h z = refl
  hidden_none true false x F o h z = absurd (omega arith)
  hidden_none false false x F o h z = h.idle refl

  pub gains : (ch : Choice) → Right n able figure ch
      → ((i : ℕ) → i < n → Gain d full (able i) (is ch i) (figure i) (offer i) (g i)) → sum n g ≤ full * paid offer ch
  unfolding count
  gains nobody r h = omega (arith, sum_none n, sum_eq n g (λ i. 0) (λ i l. (h i l).idle (r i l)))
  gains (plays m) r h =
      let all : sum n g ≡ sum n (hide m g) + g m = sum_split n m g r.below in
      let ones : sum n (λ i. one_if (able i)) ≡ sum n (hide m (λ i. one_if (able i))) + one_if (able m) =
      sum_split n m (λ i. one_if (able i)) r.below in
      let one : one_if (able m) ≡ 1 = ap one_if r.is_able in
      let others : sum n (hide m g) ≤ figure m =
      capacity (d - 1) (figure m) n (hide m g) (hide m (λ i. one_if (able i)))
      (λ i l. hidden_gain (able i) (eqb i m) (g i) (figure i) (figure m) (offer i) (h i l) (λ t. r.top i l t))
      (λ i l z. hidden_none (able i) (eqb i m) (g i) (figure i) (offer i) (h i l) z)
      (omega arith) in
      omega (arith, (h m r.below).played r.is_able (eq-eqb m m refl))

module _ (n : ℕ) (able : ℕ → Bool) (figure offer : ℕ → ℕ) where
  -- what a view adds to the takings is what the choice pays
  pub takes : (ch : Choice) → Right n able figure ch → sum n (λ i. cond (is ch i) (offer i) 0) ≡ paid offer ch
  takes nobody r = sum_none n
  takes (plays m) r =
      omega (
        arith,
        sum_split n m (λ i. cond (eqb i m) (offer i) 0) r.below,
        sum_eq n (hide m (λ i. cond (eqb i m) (offer i) 0)) (λ i. 0) (λ i l. off (eqb i m) (offer i)),
        sum_none n,
        on (eqb m m) (offer m) (eq-eqb m m refl),
      )
    where
      off : (b : Bool) (x : ℕ) → cond b 0 (cond b x 0) ≡ 0
      off true x = refl
      off false x = refl

      on : (b : Bool) (x : ℕ) → b ≡ true → cond b x 0 ≡ x
      on b x e = rw e
