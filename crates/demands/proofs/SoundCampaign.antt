-- One campaign's part of soundness: a view keeps it, whatever its role, and a campaign has it as it is added.
use mathlib.Core.Path.{◌≡◌, refl}
use mathlib.Core.Bool.{Bool, true, false}
use mathlib.Core.List.{[], ◌∷◌}
use Prim.Native.Nat.{ℕ, ◌+◌, ◌≤◌, ◌<◌}
use native.Mathlib.Omega.{arith}
use lib.Dec.{leb, ltb, eqb}
use borrow.Author.Tests.{eqb-false, ltb-true, lt-ltb, le-leb}
use Rattle.finite.proofs.Tests.{both_join, joint_of}
use Rattle.campaigns.specs.declared.Campaign.{Campaign}
use Rattle.campaigns.specs.declared.Phase.{Phase}
use Rattle.campaigns.specs.declared.Phase.TheVariants.{Filling, Running, Closed}
use Rattle.campaigns.specs.declared.Plan.{Plan}
use Rattle.campaigns.specs.declared.Terms.{Terms}
use Rattle.campaigns.specs.declared.View.{View}
use Rattle.campaigns.specs.Choice.{role_of}
use Rattle.campaigns.specs.Campaign.{whole, can_pay, aged, after, fresh, price_fits, budget_fits, priced, counted}
use Rattle.campaigns.specs.Campaign.{uncounted, untouched, sound_campaign}
use Rattle.campaigns.specs.View.{names, pays, becomes}
use Rattle.audit.proofs.Totals.{Held}

-- soundness of a campaign from its facts
pub campaign_sound : (p : Phase) (pl : Plan) (n : ℕ) (c : Campaign) → priced c ≡ true → c.age < pl.depth
    → c.plays ≤ whole c → c.plays ≤ c.turns → c.turns ≤ c.named → c.named ≤ n → untouched p c ≡ true
    → sound_campaign p pl n c ≡ true
unfolding sound_campaign counted
campaign_sound p pl n c priced_is young bought earned turned seen untouched_is =
    joint_of (priced c) (counted pl n c ∷ untouched p c ∷ []) (priced_is, (counts, (untouched_is, tt)))
  where
    counts : counted pl n c ≡ true
    counts =
        joint_of (ltb c.age pl.depth)
        (leb c.plays (whole c) ∷ leb c.plays c.turns ∷ leb c.turns c.named ∷ leb c.named n ∷ []) (
          lt-ltb c.age pl.depth young,
          (
            le-leb c.plays (whole c) bought,
            (
              le-leb c.plays c.turns earned,
              (le-leb c.turns c.named turned, (le-leb c.named n seen, tt)),
            ),
          ),
        )

module _ (pl : Plan) (n : ℕ) (c : Campaign) (h : Held pl n c) where
  aged_sound : (q : Bool) → eqb (c.age + 1) pl.depth ≡ q → sound_campaign Running pl (n + 1) (aged q c) ≡ true
  unfolding priced whole
  aged_sound true t =
      campaign_sound Running pl (n + 1) (aged true c) h.is_priced (omega arith) h.within_whole (omega arith)
      (omega arith) (omega arith) refl
  aged_sound false t =
      campaign_sound Running pl (n + 1) (aged false c) h.is_priced
      (omega (arith, eqb-false (c.age + 1) pl.depth t)) h.within_whole h.plays_turns (omega arith)
      (omega arith) refl

  after_sound : (m b q : Bool) → can_pay c ≡ b
      → sound_campaign Running pl (n + 1) (after pl.depth (role_of m b q) c) ≡ true
  unfolding priced whole
  after_sound false b q t =
      campaign_sound Running pl (n + 1) c h.is_priced h.young h.within_whole h.plays_turns h.turns_named
      (omega arith) refl
  after_sound true false q t =
      campaign_sound Running pl (n + 1) (after pl.depth (role_of true false q) c) h.is_priced h.young
      h.within_whole h.plays_turns (omega arith) (omega arith) refl
  after_sound true true true t =
      campaign_sound Running pl (n + 1) (after pl.depth (role_of true true true) c) h.is_priced (omega arith)
      (omega (arith, ltb-true c.plays (whole c) t)) (omega arith) (omega arith) (omega arith) refl
  after_sound true true false t = aged_sound (eqb (c.age + 1) pl.depth) refl

  -- a view keeps a campaign sound
  pub becomes_sound : (w : View) (i : ℕ) (q : Bool)
      → sound_campaign Running pl (n + 1) (becomes pl w i (role_of (names w i) (pays pl w i c) q) c) ≡ true
  becomes_sound w i q = after_sound (names w i) (pays pl w i c) q refl

untouched_fresh : (p : Phase) (t : Terms) → untouched p (fresh t) ≡ true
unfolding uncounted
untouched_fresh Filling t = refl
untouched_fresh Running t = refl
untouched_fresh (Closed x) t = refl

-- a campaign is sound as it is added
pub fresh_sound : (p : Phase) (pl : Plan) (n : ℕ) (t : Terms) → 1 ≤ pl.depth → price_fits t.price ≡ true
    → budget_fits t.price t.budget ≡ true → sound_campaign p pl n (fresh t) ≡ true
unfolding priced
fresh_sound p pl n t deep x y =
    campaign_sound p pl n (fresh t) (both_join (price_fits t.price) (budget_fits t.price t.budget) x y) deep
    (omega arith) (omega arith) (omega arith) (omega arith) (untouched_fresh p t)
