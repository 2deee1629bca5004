-- What the tests of a phase mean, and those of a campaign: zero counts, and all zero.
use mathlib.Core.Path.{◌≡◌, refl, ap, ◌∙◌}
use mathlib.Core.Bool.{true, false}
use mathlib.Core.Logic.{◌↔◌}
use Prim.Native.Nat.{ℕ}
use Rattle.finite.proofs.Tests.{never}
use Rattle.finite.proofs.Meanings.{eqb_means, both_means}
use Rattle.campaigns.specs.declared.Campaign.{Campaign}
use Rattle.campaigns.specs.declared.Phase.{Phase}
use Rattle.campaigns.specs.declared.Phase.TheVariants.{Filling, Running, Closed}
use Rattle.campaigns.specs.Campaign.{fresh, uncounted, empty}
use Rattle.campaigns.specs.Phase.{is_filling, is_running, is_closed}

pub filling_means : (p : Phase) → (is_filling p ≡ true) ↔ (p ≡ Filling)
filling_means Filling = (λ e. refl, λ e. refl)
filling_means Running = (λ e. absurd (never false refl e), λ e. ap is_filling e)
filling_means (Closed t) = (λ e. absurd (never false refl e), λ e. ap is_filling e)

pub running_means : (p : Phase) → (is_running p ≡ true) ↔ (p ≡ Running)
running_means Filling = (λ e. absurd (never false refl e), λ e. ap is_running e)
running_means Running = (λ e. refl, λ e. refl)
running_means (Closed t) = (λ e. absurd (never false refl e), λ e. ap is_running e)

pub closed_means : (p : Phase) → (is_closed p ≡ true) ↔ ((t : ℕ) × (p ≡ Closed t))
closed_means Filling = (λ e. absurd (never false refl e), λ x. ap is_closed x.1)
closed_means Running = (λ e. absurd (never false refl e), λ x. ap is_closed x.1)
closed_means (Closed t) = (λ e. (t, refl), λ x. refl)

-- a campaign whose counts are zero is as one that is added
pub uncounted_means : (c : Campaign)
    → (uncounted c ≡ true) ↔ (c ≡ fresh (record { price = c.price; budget = c.budget }))
unfolding uncounted
uncounted_means c =
    let zeros = both_means
    (both_means (both_means (eqb_means c.plays 0) (eqb_means c.turns 0)) (eqb_means c.age 0))
    (eqb_means c.named 0) in (
      λ e. let z = zeros.0 e in rw (z.0.0.0, z.0.0.1, z.0.1, z.1),
      λ e. zeros.1 (
        (
          (ap (λ (x : Campaign). x.plays) e, ap (λ (x : Campaign). x.turns) e),
          ap (λ (x : Campaign). x.age) e,
        ),
        ap (λ (x : Campaign). x.named) e,
      ),
    )

-- one that is all zero
pub empty_means : (c : Campaign) → (empty c ≡ true) ↔ (c ≡ fresh (record { price = 0; budget = 0 }))
unfolding empty uncounted
empty_means c =
    let zeros = both_means (both_means (eqb_means c.price 0) (eqb_means c.budget 0)) (uncounted_means c) in (
      λ e. let z = zeros.0 e in z.1 ∙ rw (z.0.0, z.0.1),
      λ e. rw e,
    )
