-- The invariant of the walk's loop, `Left`: what is left of the walk, done from here, gives the whole walk. A turn
-- takes one step off it (`turned`); where none is left, it has been walked (`ends`).
use Rattle.std.specs.Prelude.{Option}
use mathlib.Core.Path.{◌≡◌, refl, ap, ap₂, sym, subst, ◌∙◌}
use mathlib.Core.Bool.{Bool, true, false, cond}
use mathlib.Core.List.{List}
use Prim.Native.Nat.{ℕ, suc, ◌^◌, ◌<◌}
use native.Mathlib.Omega.{arith}
use lib.Dec.{ltb}
use lib.ListN.{length}
use borrow.Author.Tests.{ltb-true, ne_eqb}
use Rattle.finite.proofs.Tests.{both_left, both_right}
use Rattle.sets.specs.Set.{member, next, beyond}
use Rattle.sets.specs.Walk.{members}
use Rattle.sets.proofs.Algebra.{beyond_member, beyond_lt}
use Rattle.sets.proofs.Walk.{next_is, first_is, first_none, members_next, members_none, members_steps}
use Rattle.campaigns.specs.declared.Campaign.{Campaign}
use Rattle.campaigns.specs.declared.Plan.{Plan}
use Rattle.campaigns.specs.declared.View.{View}
use Rattle.campaigns.specs.Campaign.{priced, campaign_at}
use Rattle.campaigns.specs.Choice.{role_of}
use Rattle.campaigns.specs.View.{pays}
use Rattle.campaigns.specs.Cited.{Sized, FitsArrays}
use Rattle.choice.specs.declared.Candidate.{Candidate}
use Rattle.choice.specs.Candidates.{no_candidate, compared}
use Rattle.choice.specs.Walk.{Walked, passed_over, step, along, walked}
use Rattle.choice.specs.Cited.{put, Counts, InBounds}
use Rattle.choice.proofs.Marks.{becomes_grown, put_counts}
use Rattle.choice.proofs.Steps.{Alike, alike_then, along_alike}

-- the campaigns named by what is left of a set
abbrev only : ℕ → View
only left = record { set = left }

-- the walk as far as it is: a candidate, and the campaigns that the arrays hold
abbrev so_far : Option Candidate → (terms counts : List ℕ) → Walked
so_far b t n = record { best = b; campaigns = campaign_at t n }

pub record Left (pl : Plan) (w : View) (f : ℕ → Campaign) (t n : List ℕ) (b : Option Candidate) (left : ℕ) : Type 0 where
  pub small : left < 2 ^ 64
  pub room : Sized t n
  pub ready : InBounds pl (only left) (campaign_at t n)
  pub same : Alike (along pl w (members left) (so_far b t n)) (walked pl w f)

-- the member at hand
pub at_hand : (left : ℕ) → left < 2 ^ 64 → (left ≡ 0 → ⊥) → (next left 0 < 64) × (member left (next left 0) ≡ true)
at_hand left h e =
    let z = first_is left h e in
    let l : next left 0 < 64 = omega arith in
    (l, (next_is left 0 (omega arith)).here l)

-- one member fewer is left
pub fewer : (left : ℕ) → left < 2 ^ 64 → (left ≡ 0 → ⊥)
    → length (members left) ≡ suc (length (members (beyond left (next left 0))))
fewer left h e = ap length (members_next left (at_hand left h e).0)

-- before the first turn
pub begins : (pl : Plan) (w : View) (t n : List ℕ) → w.set < 2 ^ 64 → Sized t n → InBounds pl w (campaign_at t n)
    → Left pl w (campaign_at t n) t n no_candidate w.set
begins pl w t n h r z =
    record { small = h; room = r; ready = z; same = record { best_alike = refl; alike_at = λ j _. refl } }

-- the named ones stay ready where the step touches another
ready_on : (pl : Plan) (left i : ℕ) (g h : ℕ → Campaign) → InBounds pl (only left) g
    → ((j : ℕ) → j < 64 → (j ≡ i → ⊥) → h j ≡ g j) → InBounds pl (only (beyond left i)) h
ready_on pl left i g h z e = record {
  named_priced = λ j l m. ap priced (same j l m) ∙ z.named_priced j l (on j l m).0;
  named_young = λ j l m. omega (arith, ap (λ (c : Campaign). c.age) (same j l m), z.named_young j l (on j l m).0);
  shallow = z.shallow;
  named_few = λ j l m. omega (arith, ap (λ (c : Campaign). c.named) (same j l m), z.named_few j l (on j l m).0);
  turns_few = λ j l m. omega (arith, ap (λ (c : Campaign). c.turns) (same j l m), z.turns_few j l (on j l m).0);
  plays_few = λ j l m. omega (arith, ap (λ (c : Campaign). c.plays) (same j l m), z.plays_few j l (on j l m).0);
}
  where
    on : (j : ℕ) → j < 64 → member (beyond left i) j ≡ true → (member left j ≡ true) × (i < j)
    on j l m =
        let q = sym (beyond_member left i j l) ∙ m in
        (both_left (member left j) (ltb i j) q, ltb-true i j (both_right (member left j) (ltb i j) q))

    same : (j : ℕ) → j < 64 → member (beyond left i) j ≡ true → h j ≡ g j
    same j l m = e j l (λ q. omega (arith, (on j l m).1))

module _ (pl : Plan) (w : View) (f : ℕ → Campaign) (t n : List ℕ) (b : Option Candidate) (left : ℕ)
    (z : Left pl w f t n b left) (e : left ≡ 0 → ⊥) where
  abbrev i : ℕ
  i = next left 0

  abbrev c : Campaign
  c = campaign_at t n i

  below : i < 64
  below = (at_hand left z.small e).0

  named : member left i ≡ true
  named = (at_hand left z.small e).1

  pub is_priced : priced c ≡ true
  is_priced = z.ready.named_priced i below named

  pub is_young : c.age < pl.depth
  is_young = z.ready.named_young i below named

  -- what the step stores fits the arrays
  pub fits : FitsArrays c → FitsArrays (passed_over pl w i c)
  fits n =
      let g = becomes_grown pl w i (role_of true (pays pl w i c) false) c in
      record {
        price_u32 = omega (arith, g.price_same, n.price_u32);
        budget_u32 = omega (arith, g.budget_same, n.budget_u32);
        plays_u16 = omega (arith, g.plays_grown, z.ready.plays_few i below named);
        turns_u16 = omega (arith, g.turns_grown, z.ready.turns_few i below named);
        age_u16 = omega (arith, g.age_grown, is_young, z.ready.shallow);
        named_u16 = omega (arith, g.named_grown, z.ready.named_few i below named);
      }

  stored : Counts (step pl w (so_far b t n) i).campaigns t (put n i (passed_over pl w i c))
  stored =
      let g = becomes_grown pl w i (role_of true (pays pl w i c) false) c in
      put_counts (campaign_at t n) t n i (passed_over pl w i c) below (record { room = z.room; at = λ j _. refl })
      g.price_same g.budget_same

  -- the walk of what is left is this step and the walk of the rest
  split : along pl w (members left) (so_far b t n) ≡ along pl w (members (beyond left i)) (step pl w (so_far b t n) i)
  unfolding along
  split = ap (λ (is : List ℕ). along pl w is (so_far b t n)) (members_next left below)

  -- a turn of the loop
  turns : Left pl w f t (put n i (passed_over pl w i c)) (compared pl w b i c) (beyond left i)
  turns = record {
    small = beyond_lt left i;
    room = stored.room;
    ready = ready_on pl left i (campaign_at t n) (campaign_at t (put n i (passed_over pl w i c))) z.ready other;
    same = alike_then (along_alike pl w (members_steps (beyond left i)) _ _ next_alike) (subst Whole split z.same);
  }
    where
      other : (j : ℕ) → j < 64 → (j ≡ i → ⊥) → campaign_at t (put n i (passed_over pl w i c)) j ≡ campaign_at t n j
      other j l x =
          stored.at j l
          ∙ ap (λ (q : Bool). cond q (passed_over pl w i c) (campaign_at t n j)) (ne_eqb j i x)

      next_alike : Alike (so_far (compared pl w b i c) t (put n i (passed_over pl w i c)))
          (step pl w (so_far b t n) i)
      next_alike = record { best_alike = refl; alike_at = stored.at }

      Whole : Walked → Type 0
      Whole x = Alike x (walked pl w f)

  -- as the code has it
  pub turned : (at : ℕ) (x v : Campaign) (m : List ℕ) (d : Option Candidate) (rest : ℕ) → at ≡ i → x ≡ c
      → v ≡ passed_over pl w i c → m ≡ put n at v → d ≡ compared pl w b at x → rest ≡ beyond left i
      → Left pl w f t m d rest
  turned at x v m d rest ea ex ev em ed er =
      let m_is = em ∙ ap₂ (λ (k : ℕ) (y : Campaign). put n k y) ea ev in
      let d_is = ed ∙ ap₂ (λ (k : ℕ) (y : Campaign). compared pl w b k y) ea ex in
      subst (λ (k : ℕ). Left pl w f t m d k) (sym er)
      (subst (λ (y : Option Candidate). Left pl w f t m y (beyond left i)) (sym d_is)
      (subst (λ (k : List ℕ). Left pl w f t k (compared pl w b i c) (beyond left i)) (sym m_is) turns))

-- after the last turn
done : (pl : Plan) (w : View) (x : Walked) (left : ℕ) → left ≡ 0 → along pl w (members left) x ≡ x
unfolding along
done pl w x left e =
    ap (λ (is : List ℕ). along pl w is x) (members_none left (ap (λ (y : ℕ). next y 0) e ∙ first_none))

pub ends : (pl : Plan) (w : View) (f : ℕ → Campaign) (t n : List ℕ) (b : Option Candidate) (left : ℕ) → left ≡ 0
    → Left pl w f t n b left → (b ≡ (walked pl w f).best) × Counts (walked pl w f).campaigns t n
ends pl w f t n b left e z =
    let a = subst (λ (x : Walked). Alike x (walked pl w f)) (done pl w (so_far b t n) left e) z.same in
    (a.best_alike, record { room = z.room; at = a.alike_at })
