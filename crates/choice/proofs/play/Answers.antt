-- The walk has marked the player as passed over like the others; storing its play over that mark gives the campaigns
-- after the view. Where nobody is found, the marks are already those.
use Rattle.std.specs.Prelude.{Option, Some}
use mathlib.Core.Bool.{true, false}
use mathlib.Core.List.{List}
use mathlib.Core.Path.{◌≡◌, ap, sym, subst, ◌∙◌}
use Prim.Native.Nat.{ℕ, ◌<◌}
use native.Mathlib.Omega.{arith}
use Rattle.campaigns.specs.declared.Campaign.{Campaign}
use Rattle.campaigns.specs.declared.Plan.{Plan}
use Rattle.campaigns.specs.declared.View.{View}
use Rattle.campaigns.specs.Campaign.{campaign_at}
use Rattle.campaigns.specs.Choice.{role_of}
use Rattle.campaigns.specs.Cited.{FitsArrays, played}
use Rattle.campaigns.specs.View.{names, pays}
use Rattle.choice.specs.declared.Candidate.{Candidate}
use Rattle.choice.specs.Candidates.{after_view}
use Rattle.choice.specs.Walk.{walked}
use Rattle.choice.specs.Cited.{Counts, InBounds}
use Rattle.choice.proofs.Candidates.{candidate_able}
use Rattle.choice.proofs.Marks.{Grown, becomes_grown, played_grown, same_counts, put_counts, played_marks}
use Rattle.choice.proofs.Marks.{marks}
use Rattle.choice.proofs.Steps.{walked_best, walked_counts}
use Rattle.choice.proofs.play.Goals as goal

-- who plays is named and can pay
able : (pl : Plan) (w : View) (came : ℕ → Campaign) (b : Candidate) → Some b ≡ (walked pl w came).best
    → (b.campaign < 64) × (names w b.campaign ≡ true) × (pays pl w b.campaign (came b.campaign) ≡ true)
able pl w came b e = candidate_able pl w came 64 b (e ∙ walked_best pl w came)

-- and marked as passed over
marked : (pl : Plan) (w : View) (came : ℕ → Campaign) (t n : List ℕ) → Counts (walked pl w came).campaigns t n
    → (i : ℕ) → i < 64 → (x : Campaign) → x ≡ campaign_at t n i → x ≡ marks pl w came i
marked pl w came t n h i l x e = e ∙ (walked_counts pl w came h).at i l

-- the counts of the play fit the array
fits : (pl : Plan) (w : View) (came : ℕ → Campaign) → InBounds pl w came → (m : ℕ) → m < 64 → names w m ≡ true
    → (x : Campaign) → x ≡ marks pl w came m → FitsArrays x → (v : Campaign) → v ≡ played x → FitsArrays v
fits pl w came z m l k x e n v q =
    let r = role_of (names w m) (pays pl w m (came m)) false in
    let g = subst (λ (y : Campaign). Grown (came m) y) (sym e) (becomes_grown pl w m r (came m)) in
    let h = played_grown x in
    subst FitsArrays (sym q)
    (record {
      price_u32 = n.price_u32;
      budget_u32 = n.budget_u32;
      plays_u16 = omega (arith, h.plays_grown, g.plays_grown, z.plays_few m l k);
      turns_u16 = omega (arith, h.turns_grown, g.turns_grown, z.turns_few m l k);
      age_u16 = omega arith;
      named_u16 = n.named_u16;
    })

pub entry-c-requires : goal.entry-c-requires
entry-c-requires c =
    (able c.args.plan c.args.view _ c.in-Some.best (sym c.in-Some.is ∙ c.walk-chosen.ensures.value)).0

pub store-requires : goal.store-requires
store-requires c =
    let pl = c.args.plan in
    let w = c.args.view in
    let b = c.in-Some.best in
    let came = campaign_at c.args.terms.now c.args.counts.now in
    let a = able pl w came b (sym c.in-Some.is ∙ c.walk-chosen.ensures.value) in
    let x = c.entry-c.result in
    let e = marked pl w came c.args.terms.now c.walk-chosen.new.counts c.walk-chosen.ensures.counts b.campaign a.0 x
    c.entry-c.ensures.0 in
    (a.0, fits pl w came c.requires.in_bounds b.campaign a.0 a.1 x e c.entry-c.ensures.1 _ c.played.ensures)

pub returns-in-Some : goal.returns-in-Some
returns-in-Some c =
    let pl = c.args.plan in
    let w = c.args.view in
    let t = c.args.terms.now in
    let b = c.in-Some.best in
    let came = campaign_at t c.args.counts.now in
    let best = sym c.in-Some.is ∙ c.walk-chosen.ensures.value in
    let a = able pl w came b best in
    let v = c.played.result in
    let y = c.played.ensures
    ∙ ap played (marked pl w came t c.walk-chosen.new.counts c.walk-chosen.ensures.counts b.campaign a.0
    c.entry-c.result c.entry-c.ensures.0) in record {
      value = best ∙ walked_best pl w came;
      counts =
          subst (Counts (after_view pl w (Some b) came) t) (sym c.store.ensures)
          (same_counts (λ j _. played_marks pl w came b v y a.1 a.2 j)
          (put_counts (marks pl w came) t _ b.campaign v a.0
          (walked_counts pl w came c.walk-chosen.ensures.counts)
          (ap (λ (x : Campaign). x.price) y) (ap (λ (x : Campaign). x.budget) y)));
    }

pub returns-in_default : goal.returns-in_default
returns-in_default c =
    let pl = c.args.plan in
    let w = c.args.view in
    let came = campaign_at c.args.terms.now c.args.counts.now in record {
      value = c.walk-chosen.ensures.value ∙ walked_best pl w came;
      counts =
          subst (λ (o : Option Candidate). Counts (after_view pl w o came) c.args.terms.now c.walk-chosen.new.counts)
          (sym c.in_default.is) (walked_counts pl w came c.walk-chosen.ensures.counts);
    }
