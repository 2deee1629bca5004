-- What a view does to the sums over the campaigns: the takings grow by what is paid, and the claims by no more than
-- full times that.
use mathlib.Core.Path.{◌≡◌, refl, ap, ◌∙◌}
use mathlib.Core.Bool.{Bool, true, false, cond, ◌&&◌}
use Prim.Native.Nat.{ℕ, ◌+◌, ◌^◌, ◌≤◌, ◌<◌}
use native.Mathlib.Nat.{le_refl}
use native.Mathlib.Omega.{arith}
use borrow.Author.Tests.{eqb-true}
use Rattle.finite.specs.Finite.{sum, one_if, count}
use Rattle.finite.proofs.Tests.{never}
use Rattle.finite.proofs.Sums.{sum_eq, sum_le, sum_add}
use Rattle.campaigns.specs.declared.Campaign.{Campaign}
use Rattle.campaigns.specs.declared.Plan.{Plan}
use Rattle.campaigns.specs.declared.View.{View}
use Rattle.campaigns.specs.Choice.{Choice, is, paid}
use Rattle.campaigns.specs.Choice.Choice.{nobody, plays}
use Rattle.campaigns.specs.Campaign.{spending}
use Rattle.campaigns.specs.View.{names, pays, offer, figure, able, chosen_of, role_in, viewed, takings, claims, full}
use Rattle.campaigns.proofs.Laws.{Sized}
use Rattle.demands.specs.Choice.{Right}
use Rattle.demands.proofs.Choice.{choice_right}
use Rattle.demands.proofs.Potential.{gains, takes}
use Rattle.demands.proofs.Laws.{Steady, claim_of, gain_of, claim_after, gain_is, spending_after}

able_named : (b p : Bool) → one_if (b && p) ≤ one_if b
able_named false p = le_refl 0
able_named true false = omega arith
able_named true true = le_refl 1

chosen_able : (n : ℕ) (able : ℕ → Bool) (figure : ℕ → ℕ) (ch : Choice) → Right n able figure ch → (i : ℕ)
    → is ch i ≡ true → able i ≡ true
chosen_able n able figure nobody r i e = absurd (never false refl e)
chosen_able n able figure (plays m) r i e = ap able (eqb-true i m e) ∙ r.is_able

module _ (n : ℕ) (pl : Plan) (w : View) (f : ℕ → Campaign) where
  -- the named campaigns that can pay are no more than the named ones
  pub able_few : count n (able pl w f) ≤ count n (names w)
  unfolding count
  able_few =
      sum_le n (λ i. one_if (able pl w f i)) (λ i. one_if (names w i))
      (λ i l. able_named (names w i) (pays pl w i (f i)))

  right : Right n (able pl w f) (λ i. figure pl w i (f i)) (chosen_of n pl w f)
  right = choice_right n (able pl w f) (λ i. figure pl w i (f i))

  -- the takings grow by what is paid
  pub takings_step : takings pl n (viewed n pl w f)
      ≡ takings pl n f + paid (λ i. offer pl w i (f i)) (chosen_of n pl w f)
  takings_step =
      sum_eq n (λ i. spending (viewed n pl w f i))
      (λ i. spending (f i) + cond (is (chosen_of n pl w f) i) (offer pl w i (f i)) 0)
      (λ i l.
      spending_after pl w i (f i) (names w i) (pays pl w i (f i)) (is (chosen_of n pl w f) i)
      (chosen_able n (able pl w f) (λ j. figure pl w j (f j)) (chosen_of n pl w f) right i))
      ∙ sum_add n (λ i. spending (f i)) (λ i. cond (is (chosen_of n pl w f) i) (offer pl w i (f i)) 0)
      ∙ ap (λ y. takings pl n f + y)
      (takes n (able pl w f) (λ i. figure pl w i (f i)) (λ i. offer pl w i (f i)) (chosen_of n pl w f) right)

  -- the potential step: the claims grow by at most full times what is paid
  pub claims_step : Sized pl → ((i : ℕ) → i < n → Steady pl (f i)) → count n (able pl w f) ≤ pl.width
      → claims pl n (viewed n pl w f) ≤ claims pl n f + full pl (paid (λ i. offer pl w i (f i)) (chosen_of n pl w f))
  claims_step z steady few =
      let g : ℕ → ℕ = λ i. gain_of pl w i (role_in n pl w f i) (f i) in
      let a : claims pl n (viewed n pl w f) ≡ claims pl n f + sum n g =
      sum_eq n (λ i. claim_of pl (viewed n pl w f i)) (λ i. claim_of pl (f i) + g i)
      (λ i l. claim_after pl z (f i) (steady i l) w i (role_in n pl w f i))
      ∙ sum_add n (λ i. claim_of pl (f i)) g in
      omega (
        arith,
        a,
        gains pl.width (pl.width ^ pl.depth) n (able pl w f) (λ i. figure pl w i (f i)) (λ i. offer pl w i (f i)) g
            z.wide few (chosen_of n pl w f) right
            (λ i l. gain_is pl z (f i) (steady i l) w i (names w i) (pays pl w i (f i)) (is (chosen_of n pl w f) i)),
      )
