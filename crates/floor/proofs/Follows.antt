-- What a day keeps between a campaign and what was handed in about it, and soundness alone does not give: while it can
-- pay, every view that named it is in a finished turn or in its age. So its turns reach what is due.
use mathlib.Core.Path.{◌≡◌, refl}
use mathlib.Core.Bool.{Bool, true, false}
use Prim.Native.Nat.{ℕ, ◌+◌, ◌*◌, ◌≤◌, ◌<◌}
use native.Mathlib.Nat.{div-lt_iff_lt-mul}
use native.Mathlib.Omega.{arith}
use lib.Dec.{eqb}
use borrow.Author.Tests.{eqb-true, ltb-true, ltb-false}
use Rattle.finite.specs.Finite.{one_if}
use Rattle.campaigns.specs.declared.Campaign.{Campaign}
use Rattle.campaigns.specs.declared.Plan.{Plan}
use Rattle.campaigns.specs.declared.Terms.{Terms}
use Rattle.campaigns.specs.declared.View.{View}
use Rattle.campaigns.specs.Choice.{role_of}
use Rattle.campaigns.specs.Campaign.{whole, can_pay, aged, after, fresh}
use Rattle.campaigns.specs.View.{names, pays, becomes}
use Rattle.audit.proofs.Totals.{Held}
use Rattle.noon.specs.Noon.{due_plays, due}
use Rattle.demands.proofs.Laws.{Steady}

-- while a campaign can pay, every view that named it is in a finished turn or in its age
abbrev pub Turning : Plan → Campaign → Type 0
Turning pl c = c.plays < whole c → c.named ≤ pl.depth * c.turns + c.age

-- the campaign c has the price and budget x, and n views named it
pub record Follows (pl : Plan) (x : Terms) (n : ℕ) (c : Campaign) : Type 0 where
  pub price_is : c.price ≡ x.price
  pub budget_is : c.budget ≡ x.budget
  pub named_is : c.named ≡ n
  pub turning : Turning pl c

pub follows_fresh : (pl : Plan) (x : Terms) → Follows pl x 0 (fresh x)
follows_fresh pl x = record { price_is = refl; budget_is = refl; named_is = refl; turning = λ _. omega arith }

-- one view more, that names the campaign or not
module _ (pl : Plan) (x : Terms) (n : ℕ) (c : Campaign) (h : Follows pl x n c) (young : Steady pl c) where
  follows_aged : can_pay c ≡ true → (q : Bool) → eqb (c.age + 1) pl.depth ≡ q → Follows pl x (n + 1) (aged q c)
  unfolding whole
  follows_aged e true q =
      let m : c.named ≤ pl.depth * c.turns + c.age = h.turning (ltb-true c.plays (whole c) e) in
      let z : c.age + 1 ≡ pl.depth = eqb-true (c.age + 1) pl.depth q in
      record { price_is = h.price_is; budget_is = h.budget_is; named_is = omega arith; turning = λ _. omega arith }
  follows_aged e false q =
      let m : c.named ≤ pl.depth * c.turns + c.age = h.turning (ltb-true c.plays (whole c) e) in
      record { price_is = h.price_is; budget_is = h.budget_is; named_is = omega arith; turning = λ _. omega arith }

  follows_role : (m b q : Bool) → can_pay c ≡ b → Follows pl x (n + one_if m) (after pl.depth (role_of m b q) c)
  unfolding whole
  follows_role false b q e =
      record {
        price_is = h.price_is;
        budget_is = h.budget_is;
        named_is = omega (arith, h.named_is);
        turning = h.turning;
      }
  follows_role true false q e =
      record {
        price_is = h.price_is;
        budget_is = h.budget_is;
        named_is = omega arith;
        turning = λ l. omega (arith, ltb-false c.plays (whole c) e);
      }
  follows_role true true true e =
      let m : c.named ≤ pl.depth * c.turns + c.age = h.turning (ltb-true c.plays (whole c) e) in
      record { price_is = h.price_is; budget_is = h.budget_is; named_is = omega arith; turning = λ _. omega arith }
  follows_role true true false e = follows_aged e (eqb (c.age + 1) pl.depth) refl

  pub follows_view : (w : View) (i : ℕ) (q : Bool)
      → Follows pl x (n + one_if (names w i)) (becomes pl w i (role_of (names w i) (pays pl w i c) q) c)
  follows_view w i q = follows_role (names w i) (pays pl w i c) q refl

-- the turns of a campaign reach what is due to it: its whole plays, or the full depths of the views that named it
pub turns_reach : (pl : Plan) (n : ℕ) (c : Campaign) → Held pl n c → Turning pl c → due pl.depth c ≤ c.turns
unfolding due
turns_reach pl n c o turning = go (can_pay c) refl
  where
    go : (e : Bool) → can_pay c ≡ e → due_plays pl.depth (whole c) c.named ≤ c.turns
    go true e =
        let m : c.named ≤ pl.depth * c.turns + c.age = turning (ltb-true c.plays (whole c) e) in
        let u : c.named < (c.turns + 1) * pl.depth = omega (arith, o.young) in
        let pos : 0 < pl.depth = omega (arith, o.young) in
        omega (arith, (div-lt_iff_lt-mul pos).1 u)
    go false e = omega (arith, ltb-false c.plays (whole c) e, o.plays_turns)
