-- Sums over the campaigns that a state holds: they are sums over the function that it was made of, and a campaign more
-- adds its own term.
use mathlib.Core.Path.{◌≡◌, refl, ap}
use Prim.Native.Nat.{ℕ, ◌+◌, ◌≤◌}
use native.Mathlib.Nat.{lt_of_lt_of_le}
use native.Mathlib.Numerals.{add-one}
use native.Mathlib.Omega.{arith}
use borrow.Author.Tests.{eq-eqb, ne_eqb}
use Rattle.finite.specs.Finite.{sum}
use Rattle.finite.proofs.Sums.{sum_eq, sum_suc}
use Rattle.campaigns.specs.declared.Campaign.{Campaign}
use Rattle.campaigns.specs.declared.Head.{Head}
use Rattle.campaigns.specs.declared.Terms.{Terms}
use Rattle.campaigns.specs.Campaign.{spending, fresh}
use Rattle.campaigns.specs.View.{takings}
use Rattle.day.specs.declared.Day.{Day}
use Rattle.day.specs.Day.{campaign, state_with}
use Rattle.day.specs.Calls.{with_campaign}
use Rattle.day.proofs.State.{campaign_of_state}
use Rattle.demands.proofs.Laws.{spending_fresh}

module _ (h : Head) (f : ℕ → Campaign) where
  -- any sum over the campaigns
  pub sum_state_with : (g : Campaign → ℕ) → h.count ≤ 64
      → sum h.count (λ i. g (campaign (state_with h f) i)) ≡ sum h.count (λ i. g (f i))
  sum_state_with g few =
      sum_eq h.count (λ i. g (campaign (state_with h f) i)) (λ i. g (f i))
      (λ i l. ap g (campaign_of_state h f i (lt_of_lt_of_le l few)))

module _ (s : Day) (t : Terms) where
  pub with_campaign_old : (i : ℕ) → (i ≡ s.count → ⊥) → with_campaign s t i ≡ campaign s i
  with_campaign_old i e = rw (ne_eqb i s.count e)

  pub with_campaign_new : with_campaign s t s.count ≡ fresh t
  with_campaign_new = rw (eq-eqb s.count s.count refl)

  -- a sum over the campaigns with one more
  pub sum_with_campaign : (g : Campaign → ℕ)
      → sum (s.count + 1) (λ i. g (with_campaign s t i)) ≡ sum s.count (λ i. g (campaign s i)) + g (fresh t)
  sum_with_campaign g =
      rw add-one
      (omega (
        arith,
        sum_suc s.count (λ i. g (with_campaign s t i)),
        sum_eq s.count (λ i. g (with_campaign s t i)) (λ i. g (campaign s i))
            (λ i l. ap g (with_campaign_old i (λ e. omega arith))),
        ap g with_campaign_new,
      ))

  pub takings_with_campaign : takings s.plan (s.count + 1) (with_campaign s t)
      ≡ takings s.plan s.count (campaign s)
  takings_with_campaign = omega (arith, sum_with_campaign spending, spending_fresh t)
