-- The choice as a walk over the named campaigns: a stretch of unnamed ones leaves the candidate, and a named one is
-- compared with it. So the candidate at the end is the choice among all places, and, where every name is in the plan,
-- that among its campaigns.
use Rattle.std.specs.Prelude.{Option, Some, None}
use mathlib.Core.Path.{◌≡◌, refl, ap, sym, subst}
use mathlib.Core.Bool.{Bool, true, false, cond}
use Prim.Native.Nat.{ℕ, suc, ◌+◌, ◌≤◌, ◌<◌}
use native.Mathlib.Numerals.{add-one}
use lib.Dec.{ltb}
use Rattle.finite.proofs.Tests.{stands, never, both_left, both_right}
use Rattle.sets.specs.Set.{within}
use Rattle.sets.specs.Walk.{Next}
use Rattle.sets.proofs.Bounds.{within_not_member}
use Rattle.campaigns.specs.declared.Campaign.{Campaign}
use Rattle.campaigns.specs.declared.Plan.{Plan}
use Rattle.campaigns.specs.declared.View.{View}
use Rattle.choice.specs.declared.Candidate.{Candidate}
use Rattle.campaigns.specs.Choice.{Choice, best, against, ahead, choice}
use Rattle.campaigns.specs.Choice.Choice.{nobody, plays}
use Rattle.campaigns.specs.View.{names, pays, offer, figure, able, chosen_of}
use Rattle.campaigns.proofs.Choices.{Fits, best_fits}
use Rattle.choice.specs.Candidates.{as_candidate, displaced, compared, candidate_of}

-- a campaign against the choice so far, as candidates
module _ (x o : ℕ → ℕ) (i : ℕ) where
  abbrev tried : Candidate
  tried = record { campaign = i; paid = o i; score = x i }

  abbrev better : Option Candidate → Option Candidate
  better b = cond (displaced b (x i)) (Some tried) b

  meets : (ch : Choice) → as_candidate x o (against (ahead x) ch i) ≡ better (as_candidate x o ch)
  meets nobody = refl
  meets (plays m) = go (ltb (x m) (x i))
    where
      go : (b : Bool) → as_candidate x o (cond b (plays i) (plays m)) ≡ cond b (Some tried) (as_candidate x o (plays m))
      go true = refl
      go false = refl

  tries : (ch : Choice) (b : Bool) → as_candidate x o (cond b (against (ahead x) ch i) ch)
      ≡ cond b (better (as_candidate x o ch)) (as_candidate x o ch)
  tries ch true = meets ch
  tries ch false = refl

module _ (pl : Plan) (w : View) (f : ℕ → Campaign) where
  abbrev figures : ℕ → ℕ
  figures i = figure pl w i (f i)

  abbrev offered : ℕ → ℕ
  offered i = offer pl w i (f i)

  -- an unnamed campaign changes no choice
  choice_unnamed : (j : ℕ) → names w j ≡ false → chosen_of (suc j) pl w f ≡ chosen_of j pl w f
  unfolding choice best
  choice_unnamed j e = rw e

  pub candidate_gap : (a r : ℕ) → Next w.set a r → candidate_of pl w f r ≡ candidate_of pl w f a
  unfolding candidate_of
  candidate_gap a r n =
      stands (candidate_of pl w f) a r n.low
      (λ j p q. ap (as_candidate figures offered) (choice_unnamed j (n.gap j p q)))

  -- a named one is compared with the candidate
  pub candidate_named : (i : ℕ) → names w i ≡ true
      → candidate_of pl w f (i + 1) ≡ compared pl w (candidate_of pl w f i) i (f i)
  unfolding candidate_of compared choice best
  candidate_named i e = rw (add-one i, e) (tries figures offered i (chosen_of i pl w f) (pays pl w i (f i)))

  -- who is found is named and can pay
  abbrev Able : ℕ → ℕ → Type 0
  Able n m = (m < n) × (names w m ≡ true) × (pays pl w m (f m) ≡ true)

  pub candidate_able : (n : ℕ) (b : Candidate) → Some b ≡ candidate_of pl w f n → Able n b.campaign
  unfolding candidate_of choice
  candidate_able n b e = go (chosen_of n pl w f) (best_fits n (able pl w f) (ahead figures)) e
    where
      found : Option Candidate → Bool
      found None = false
      found (Some x) = true

      held : Option Candidate → ℕ
      held None = 0
      held (Some x) = x.campaign

      go : (ch : Choice) → Fits n (able pl w f) ch → Some b ≡ as_candidate figures offered ch → Able n b.campaign
      go nobody h x = absurd (never false refl (sym (ap found x)))
      go (plays m) h x =
          let p = pays pl w m (f m) in
          subst (Able n) (sym (ap held x)) (h.0, both_left (names w m) p h.1, both_right (names w m) p h.1)

  -- with every name below n, the choice among all 64 places is that among the first n
  pub choice_within : (n : ℕ) → n ≤ 64 → within n w.set ≡ true → chosen_of 64 pl w f ≡ chosen_of n pl w f
  choice_within n h e =
      stands (λ m. chosen_of m pl w f) n 64 h
      (λ j p q. choice_unnamed j (within_not_member n w.set j e p q))
