-- The walk along the members of a set, by the steps of the set's own walk: the members below the place are compared
-- and marked, the others are as they were (`along_steps`). So the walk gives the choice and the marks that stand over
-- all places (`walked_best`, `walked_marks`), and with the play of the best one the counts of rules 2 to 4.
use Rattle.std.specs.Prelude.{Option, Some, None}
use mathlib.Core.Path.{◌≡◌, refl, ap, ap₂, sym, ◌∙◌}
use mathlib.Core.Bool.{Bool, true, false, cond}
use mathlib.Core.List.{List}
use Prim.Native.Nat.{ℕ, ◌+◌, ◌≤◌, ◌<◌}
use native.Mathlib.Omega.{arith}
use lib.Dec.{eqb}
use borrow.Author.Tests.{le-ltb, eqb-true}
use Rattle.sets.specs.Set.{within}
use Rattle.sets.specs.Walk.{Next, Steps}
use Rattle.sets.specs.Walk.Steps.{end, step}
use Rattle.sets.proofs.Walk.{members_steps}
use Rattle.campaigns.specs.declared.Campaign.{Campaign}
use Rattle.campaigns.specs.declared.Plan.{Plan}
use Rattle.campaigns.specs.declared.View.{View}
use Rattle.campaigns.specs.Choice.{Choice, is, best, choice, role_of}
use Rattle.campaigns.specs.Choice.Choice.{nobody, plays}
use Rattle.campaigns.specs.Choice.Role.{chosen}
use Rattle.campaigns.specs.View.{names, pays, offer, figure, becomes, chosen_of, viewed}
use Rattle.choice.specs.declared.Candidate.{Candidate}
use Rattle.choice.specs.Candidates.{no_candidate, as_candidate, is_candidate, compared, candidate_of, after_view}
use Rattle.choice.specs.Walk.{Walked, passed_over, along, walked, with_play, SameChoices}
use Rattle.choice.specs.Walk as spec
use Rattle.choice.specs.Cited.{Counts}
use Rattle.choice.proofs.Candidates.{candidate_gap, candidate_named, candidate_able, choice_within}
use Rattle.choice.proofs.Marks.{marks, cut, cut_here, cut_gap, cut_step, cut_end, same_counts}

-- alike as far as the 64 places go
pub record Alike (x y : Walked) : Type 0 where
  pub best_alike : x.best ≡ y.best
  pub alike_at : (j : ℕ) → j < 64 → x.campaigns j ≡ y.campaigns j

pub alike_then : {x y z : Walked} → Alike x y → Alike y z → Alike x z
alike_then a b = record {
  best_alike = a.best_alike ∙ b.best_alike;
  alike_at = λ j l. a.alike_at j l ∙ b.alike_at j l;
}

module _ (pl : Plan) (w : View) where
  -- a step from what is alike gives what is alike
  pub step_alike : (x y : Walked) (i : ℕ) → i < 64 → Alike x y → Alike (spec.step pl w x i) (spec.step pl w y i)
  step_alike x y i h a = record {
    best_alike = ap₂ (λ (b : Option Candidate) (c : Campaign). compared pl w b i c) a.best_alike (a.alike_at i h);
    alike_at = λ j l. ap₂ (λ (c d : Campaign). cond (eqb j i) (passed_over pl w i c) d)
        (a.alike_at i h) (a.alike_at j l);
  }

  -- and so do the steps to the members of a set
  pub along_alike : {set a : ℕ} {rs : List ℕ} → Steps set a rs → (x y : Walked) → Alike x y
      → Alike (along pl w rs x) (along pl w rs y)
  unfolding along
  along_alike (end n) x y a = a
  along_alike (step {r = r} n l s) x y a =
      along_alike s (spec.step pl w x r) (spec.step pl w y r) (step_alike x y r l a)

  module _ (f : ℕ → Campaign) where
    -- the choice among the places below a, which are marked
    abbrev upto : ℕ → Walked
    upto a = record { best = candidate_of pl w f a; campaigns = cut pl w f a }

    upto_gap : (a r : ℕ) → Next w.set a r → Alike (upto a) (upto r)
    upto_gap a r n = record {
      best_alike = sym (candidate_gap pl w f a r n);
      alike_at = λ j _. cut_gap pl w f a r j n;
    }

    upto_step : (i : ℕ) → names w i ≡ true → Alike (spec.step pl w (upto i) i) (upto (i + 1))
    upto_step i e =
        let h = cut_here pl w f i in
        let m : passed_over pl w i (cut pl w f i i) ≡ marks pl w f i =
        ap (passed_over pl w i) h
        ∙ sym (ap (λ (t : Bool). becomes pl w i (role_of t (pays pl w i (f i)) false) (f i)) e) in
        record {
          best_alike = ap (compared pl w (candidate_of pl w f i) i) h ∙ sym (candidate_named pl w f i e);
          alike_at = λ j _. cut_step pl w f i j (passed_over pl w i (cut pl w f i i)) m;
        }

    along_steps : {a : ℕ} {rs : List ℕ} → Steps w.set a rs → Alike (along pl w rs (upto a)) (upto 64)
    unfolding along
    along_steps {a} (end n) = upto_gap a 64 n
    along_steps {a} (step {r = r} n l s) =
        alike_then
        (along_alike s (spec.step pl w (upto a) r) (upto (r + 1))
        (alike_then (step_alike (upto a) (upto r) r l (upto_gap a r n)) (upto_step r (n.here l))))
        (along_steps s)

    start : Alike (record { best = no_candidate; campaigns = f }) (upto 0)
    unfolding candidate_of choice best
    start = record { best_alike = refl; alike_at = λ j _. sym (rw (le-ltb j 0 (omega arith))) }

    walked_alike : Alike (walked pl w f) (upto 64)
    walked_alike =
        let s = members_steps w.set in
        alike_then (along_alike s (record { best = no_candidate; campaigns = f }) (upto 0) start) (along_steps s)

    -- the best of the walk is the choice among all places
    pub walked_best : (walked pl w f).best ≡ candidate_of pl w f 64
    walked_best = walked_alike.best_alike

    -- and every named campaign is marked
    pub walked_marks : (j : ℕ) → j < 64 → (walked pl w f).campaigns j ≡ marks pl w f j
    walked_marks j l = walked_alike.alike_at j l ∙ cut_end pl w f j l

    pub walked_counts : {t n : List ℕ} → Counts (walked pl w f).campaigns t n → Counts (marks pl w f) t n
    walked_counts m = same_counts walked_marks m

    -- with its play, the campaigns are those after the view
    pub walked_play : (j : ℕ) → j < 64 → with_play pl w f j ≡ after_view pl w (walked pl w f).best f j
    walked_play j l = go (walked pl w f).best refl
      where
        go : (o : Option Candidate) → (walked pl w f).best ≡ o
            → cond (is_candidate o j) (becomes pl w j chosen (f j)) ((walked pl w f).campaigns j)
            ≡ becomes pl w j (role_of (names w j) (pays pl w j (f j)) (is_candidate o j)) (f j)
        go None e = walked_marks j l
        go (Some b) e = at (eqb j b.campaign) refl
          where
            at : (x : Bool) → eqb j b.campaign ≡ x
                → cond x (becomes pl w j chosen (f j)) ((walked pl w f).campaigns j)
                ≡ becomes pl w j (role_of (names w j) (pays pl w j (f j)) x) (f j)
            at true x =
                let a = candidate_able pl w f 64 b (sym e ∙ walked_best) in
                let q = eqb-true j b.campaign x in
                sym
                (ap₂ (λ (n p : Bool). becomes pl w j (role_of n p true) (f j)) (ap (names w) q ∙ a.1)
                (ap (λ (k : ℕ). pays pl w k (f k)) q ∙ a.2))
            at false x = walked_marks j l

-- The same choice and the same counts as over all campaigns.

module _ (n : ℕ) (pl : Plan) (w : View) (f : ℕ → Campaign) where
  abbrev player : Choice → Option Candidate
  player ch = as_candidate (λ i. figure pl w i (f i)) (λ i. offer pl w i (f i)) ch

  -- a choice says as a candidate who plays
  roles : (ch : Choice) (i : ℕ) → after_view pl w (player ch) f i
      ≡ becomes pl w i (role_of (names w i) (pays pl w i (f i)) (is ch i)) (f i)
  roles nobody i = refl
  roles (plays m) i = refl

  within_candidate : n ≤ 64 → within n w.set ≡ true → (walked pl w f).best ≡ candidate_of pl w f n
  unfolding candidate_of
  within_candidate h e = walked_best pl w f ∙ ap player (choice_within pl w f n h e)

  within_counts : n ≤ 64 → within n w.set ≡ true → (i : ℕ) → i < 64
      → with_play pl w f i ≡ viewed n pl w f i
  unfolding candidate_of
  within_counts h e i l =
      walked_play pl w f i l ∙ ap (λ (b : Option Candidate). after_view pl w b f i) (within_candidate h e)
      ∙ roles (chosen_of n pl w f) i

pub same_choices : SameChoices
same_choices n pl w f h e = record {
  same_player = within_candidate n pl w f h e;
  same_counts = within_counts n pl w f h e;
}
