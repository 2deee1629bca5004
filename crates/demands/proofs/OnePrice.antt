-- A campaign with one price, at depth k and width d: what a view adds to its claim and to its spending. The weights
-- climb by W(a + 1) − W(a) = W(a) / (d − 1), so that one passed over gains its score / (d − 1) and the player the rest
-- to full.
use mathlib.Core.Path.{◌≡◌, refl, ap, sym, ◌∙◌}
use mathlib.Core.Bool.{Bool, true, false, cond, ◌&&◌}
use Prim.Native.Nat.{ℕ, ◌+◌, ◌-◌, ◌*◌, ◌^◌, ◌≤◌, ◌<◌}
use native.Mathlib.Nat.{mul-le-mul_left}
use native.Mathlib.Omega.{arith}
use lib.Dec.{eqb}
use borrow.Author.Tests.{eqb-true}
use Rattle.finite.proofs.Tests.{never}
use Rattle.powers.specs.Power.{weight, share}
use Rattle.powers.proofs.Weight.{slope, weight_zero, weight_top, weight_slope, weight_next, weight_mono, weight_most}
use Rattle.powers.proofs.Weight.{share_weight}
use Rattle.campaigns.specs.declared.Campaign.{Campaign}
use Rattle.campaigns.specs.declared.Terms.{Terms}
use Rattle.campaigns.specs.Choice.{Role, role_of}
use Rattle.campaigns.specs.Choice.Role.{absent, spent, chosen, passed}
use Rattle.campaigns.specs.Campaign.{score, spending, claim, aged, after, fresh}
use Rattle.demands.proofs.Potential.{Gain}

-- what a view adds to the claim
pub gain : ℕ → ℕ → Role → Campaign → ℕ
gain k d absent c = 0
gain k d spent c = 0
gain k d chosen c = c.price * (d ^ k - weight k d c.age)
gain k d passed c = c.price * slope k d c.age

module _ (k d : ℕ) (pos : 0 < d) where
  -- the claim, with no subtraction
  pub claim_lifted : (c : Campaign) → c.age ≤ k
      → claim k d c + c.price * weight k d 0 ≡ c.price * (c.turns * share k d + weight k d c.age)
  unfolding claim
  claim_lifted c h =
      let q : c.turns * share k d + weight k d c.age - weight k d 0 + weight k d 0
      ≡ c.turns * share k d + weight k d c.age = omega (arith, weight_mono k d pos c.age h) in
      omega (arith, ap (λ x. c.price * x) q)

  -- it is no less than what the finished turns claim
  pub claim_turns : (c : Campaign) → c.age ≤ k → share k d * (c.price * c.turns) ≤ claim k d c
  claim_turns c h = omega (arith, claim_lifted c h, mul-le-mul_left c.price (weight_mono k d pos c.age h))

  low : (c : Campaign) → c.age < k → weight k d c.age ≤ d ^ k
  low c h = weight_most k d pos c.age (omega arith)

  gain_passed : (c : Campaign) (b : Bool) → eqb (c.age + 1) k ≡ b → c.age < k
      → claim k d (aged b c) ≡ claim k d c + gain k d passed c
  unfolding gain
  gain_passed c true e h =
      let q : c.age + 1 ≡ k = eqb-true (c.age + 1) k e in
      let w : d ^ k ≡ weight k d c.age + slope k d c.age =
      sym (weight_top k d) ∙ ap (weight k d) (sym q) ∙ weight_next k d pos c.age h in
      let v : share k d + weight k d 0 ≡ weight k d c.age + slope k d c.age =
      omega (arith, share_weight k d, weight_zero k d) in
      omega (arith, claim_lifted c (omega arith), claim_lifted (aged true c) (omega arith), ap (λ x. c.price * x) v)
  gain_passed c false e h =
      omega (
        arith,
        claim_lifted c (omega arith),
        claim_lifted (aged false c) (omega arith),
        ap (λ x. c.price * x) (weight_next k d pos c.age h),
      )

  pub claim_after : (r : Role) (c : Campaign) → c.age < k → claim k d (after k r c) ≡ claim k d c + gain k d r c
  unfolding gain
  claim_after absent c h = omega arith
  claim_after spent c h = omega (arith, claim_lifted c (omega arith), claim_lifted (after k spent c) (omega arith))
  claim_after chosen c h =
      let v : share k d + weight k d 0 ≡ (d ^ k - weight k d c.age) + weight k d c.age =
      omega (arith, share_weight k d, weight_zero k d, low c h) in
      omega (
        arith,
        claim_lifted c (omega arith),
        claim_lifted (after k chosen c) (omega arith),
        ap (λ y. c.price * y) v,
      )
  claim_after passed c h = gain_passed c (eqb (c.age + 1) k) refl h

  pub gain_is : (c : Campaign) → c.age < k → (n e q : Bool)
      → Gain d (d ^ k) (n && e) q (score k d c) c.price (gain k d (role_of n e q) c)
  unfolding gain
  gain_is c h false e q =
      record {
        idle = λ _. refl;
        passed = λ z _. absurd (never false refl z);
        played = λ z _. absurd (never false refl z);
      }
  gain_is c h true false q =
      record {
        idle = λ _. refl;
        passed = λ z _. absurd (never false refl z);
        played = λ z _. absurd (never false refl z);
      }
  gain_is c h true true true =
      let v : (d ^ k - weight k d c.age) + weight k d c.age ≡ d ^ k = omega (arith, low c h) in
      record {
        idle = λ z. absurd (never true z refl);
        passed = λ _ z. absurd (never true z refl);
        played = λ _ _. omega (arith, ap (λ y. c.price * y) v);
      }
  gain_is c h true true false = record {
    idle = λ z. absurd (never true z refl);
    passed = λ _ _. omega (arith, ap (λ y. c.price * y) (weight_slope k d pos c.age h));
    played = λ _ z. absurd (never false refl z);
  }

  pub claim_fresh : (t : Terms) → claim k d (fresh t) ≡ 0
  claim_fresh t = omega (arith, claim_lifted (fresh t) (omega arith))

-- what a view adds to a figure f of a campaign that only a play changes: g true of the player, and else nothing
module _ (k : ℕ) (c : Campaign) where
  pub by_play : (f : Campaign → ℕ) (g : Bool → ℕ) → f (after k spent c) ≡ f c → f (aged true c) ≡ f c
      → f (aged false c) ≡ f c → f (after k chosen c) ≡ f c + g true → g false ≡ 0
      → (n e q : Bool) → (q ≡ true → (n && e) ≡ true) → f (after k (role_of n e q) c) ≡ f c + g q
  by_play f g still turned older played none = go
    where
      same : (b : Bool) → f (aged b c) ≡ f c
      same true = turned
      same false = older

      go : (n e q : Bool) → (q ≡ true → (n && e) ≡ true) → f (after k (role_of n e q) c) ≡ f c + g q
      go false e true h = absurd (never false refl (h refl))
      go false e false h = omega (arith, none)
      go true false true h = absurd (never false refl (h refl))
      go true false false h = omega (arith, still, none)
      go true true true h = played
      go true true false h = omega (arith, same (eqb (c.age + 1) k), none)

  pub spending_after : (n e q : Bool) → (q ≡ true → (n && e) ≡ true)
      → spending (after k (role_of n e q) c) ≡ spending c + cond q c.price 0
  spending_after = by_play spending (λ q. cond q c.price 0) refl refl refl (omega arith) refl
