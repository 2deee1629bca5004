-- The laws of a campaign in a view on which soundness and the floor rest: they ask nothing else of a campaign, so that
-- a further kind of campaign needs these laws and no more.
use mathlib.Core.Path.{◌≡◌}
use mathlib.Core.Bool.{Bool, cond, ◌&&◌, true}
use Prim.Native.Nat.{ℕ, ◌+◌, ◌*◌, ◌^◌, ◌≤◌, ◌<◌}
use native.Mathlib.Omega.{arith}
use Rattle.powers.specs.Power.{share}
use Rattle.campaigns.specs.declared.Campaign.{Campaign}
use Rattle.campaigns.specs.declared.Plan.{Plan}
use Rattle.campaigns.specs.declared.Terms.{Terms}
use Rattle.campaigns.specs.declared.View.{View}
use Rattle.campaigns.specs.Choice.{Role, role_of}
use Rattle.campaigns.specs.Campaign.{claim, spending, fresh}
use Rattle.campaigns.specs.View.{offer, figure, becomes}
use Rattle.campaigns.proofs.Laws.{Sized}
use Rattle.demands.proofs.Potential.{Gain}
use Rattle.demands.proofs.OnePrice as one

-- what the potential step asks of a campaign
abbrev pub Steady : Plan → Campaign → Type 0
Steady pl c = c.age < pl.depth

abbrev pub claim_of : Plan → Campaign → ℕ
claim_of pl c = claim pl.depth pl.width c

abbrev pub gain_of : Plan → View → ℕ → Role → Campaign → ℕ
gain_of pl w i r c = one.gain pl.depth pl.width r c

pub claim_fresh : (pl : Plan) → Sized pl → (t : Terms) → claim_of pl (fresh t) ≡ 0
claim_fresh pl z t = one.claim_fresh pl.depth pl.width z.wide t

pub spending_fresh : (t : Terms) → spending (fresh t) ≡ 0
spending_fresh t = omega arith

module _ (pl : Plan) (z : Sized pl) (c : Campaign) (h : Steady pl c) where
  pub claim_after : (w : View) (i : ℕ) (r : Role)
      → claim_of pl (becomes pl w i r c) ≡ claim_of pl c + gain_of pl w i r c
  claim_after w i r = one.claim_after pl.depth pl.width z.wide r c h

  -- the claim is no less than what the finished turns claim
  pub claim_turns : share pl.depth pl.width * (c.price * c.turns) ≤ claim_of pl c
  claim_turns = one.claim_turns pl.depth pl.width z.wide c (omega arith)

  pub gain_is : (w : View) (i : ℕ) (n e q : Bool)
      → Gain pl.width (pl.width ^ pl.depth) (n && e) q (figure pl w i c) (offer pl w i c)
      (gain_of pl w i (role_of n e q) c)
  gain_is w i n e q = one.gain_is pl.depth pl.width z.wide c h n e q

pub spending_after : (pl : Plan) (w : View) (i : ℕ) (c : Campaign) (n e q : Bool) → (q ≡ true → (n && e) ≡ true)
    → spending (becomes pl w i (role_of n e q) c) ≡ spending c + cond q (offer pl w i c) 0
spending_after pl w i c n e q h = one.spending_after pl.depth c n e q h
