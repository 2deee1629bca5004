use mathlib.Core.Path.{◌≡◌, ap, sym, subst, ◌∙◌}
use mathlib.Core.List.{List}
use Prim.Native.Nat.{ℕ, ◌^◌, ◌<◌}
use native.Mathlib.Omega.{arith}
use borrow.Author.Rules.{rules}
use Rattle.sets.specs.Set.{next}
use Rattle.campaigns.specs.declared.Campaign.{Campaign}
use Rattle.campaigns.specs.Campaign.{priced, campaign_at}
use Rattle.campaigns.specs.Cited.{FitsArrays}
use Rattle.campaigns.proofs.Laws.{price_least}
use Rattle.choice.specs.Walk.{passed_over}
use Rattle.sets.specs.declared.Members.{Members}
use Rattle.choice.specs.Candidates.{no_candidate}
use Rattle.choice.proofs.Turns.{Left, at_hand, begins, is_priced, is_young, fits, turned, ends}
use Rattle.choice.proofs.walk.Goals as goal

pub loop-i-init : goal.loop-i-init
loop-i-init c =
    let a = c.args in
    let fit : a.view.set < 2 ^ 64 = search rules in
    subst (λ (x : Members).
    Left a.plan a.view (campaign_at a.terms.now a.counts.now) a.terms.now a.counts.now no_candidate x.0)
    (sym c.into_iter-i-iterator.ensures.into_iter_gives)
    (begins a.plan a.view a.terms.now a.counts.now fit c.requires.sized c.requires.in_bounds)

-- the step goes to the least member left,
hand : (left first : ℕ) → left < 2 ^ 64 → (left ≡ 0 → ⊥) → first ≡ next left 0 → first < 64
hand left first h more e = subst (λ (x : ℕ). x < 64) (sym e) (at_hand left h more).0

-- which is read out of the arrays as they are
read : (t n : List ℕ) (left first : ℕ) (x : Campaign) → x ≡ campaign_at t n first → first ≡ next left 0
    → x ≡ campaign_at t n (next left 0)
read t n left first x e f = e ∙ ap (campaign_at t n) f

pub entry-c-requires : goal.entry-c-requires
entry-c-requires c =
    let l = c.loop-i in hand l.i-iterator.0 c.in-Some.i l.invariant.small c.in-Some.ensures.steps.0 c.in-Some.ensures.steps.1

pub compare-best-requires-clause-c_value : goal.compare-best-requires-clause-c_value
compare-best-requires-clause-c_value c =
    let l = c.loop-i in
    let more = c.in-Some.ensures.steps.0 in
    let e = read c.args.terms.now l.counts l.i-iterator.0 c.in-Some.i c.entry-c.result c.entry-c.ensures.0 c.in-Some.ensures.steps.1 in
    ap priced e ∙ is_priced c.args.plan c.args.view _ _ _ _ l.i-iterator.0 l.invariant more

pub compare-best-requires-clause-age_le_depth : goal.compare-best-requires-clause-age_le_depth
compare-best-requires-clause-age_le_depth c =
    let l = c.loop-i in
    let more = c.in-Some.ensures.steps.0 in
    let e = read c.args.terms.now l.counts l.i-iterator.0 c.in-Some.i c.entry-c.result c.entry-c.ensures.0 c.in-Some.ensures.steps.1 in
    omega (
      arith,
      ap (λ (x : Campaign). x.age) e,
      is_young c.args.plan c.args.view _ _ _ _ l.i-iterator.0 l.invariant more,
    )

pub passed_over-requires-clause-le_price : goal.passed_over-requires-clause-le_price
passed_over-requires-clause-le_price c =
    let l = c.loop-i in
    let more = c.in-Some.ensures.steps.0 in
    let e = read c.args.terms.now l.counts l.i-iterator.0 c.in-Some.i c.entry-c.result c.entry-c.ensures.0 c.in-Some.ensures.steps.1 in
    price_least c.entry-c.result (ap priced e ∙ is_priced c.args.plan c.args.view _ _ _ _ l.i-iterator.0 l.invariant more)

pub store-requires : goal.store-requires
store-requires c =
    let l = c.loop-i in
    let more = c.in-Some.ensures.steps.0 in
    let i = next l.i-iterator.0 0 in
    let e = read c.args.terms.now l.counts l.i-iterator.0 c.in-Some.i c.entry-c.result c.entry-c.ensures.0 c.in-Some.ensures.steps.1 in
    let marked : c.passed_over.result
    ≡ passed_over c.args.plan c.args.view i (campaign_at c.args.terms.now l.counts i) =
    c.passed_over.ensures ∙ ap (passed_over c.args.plan c.args.view i) e in (
      hand l.i-iterator.0 c.in-Some.i l.invariant.small more c.in-Some.ensures.steps.1,
      subst FitsArrays (sym marked)
          (fits c.args.plan c.args.view _ _ _ _ l.i-iterator.0 l.invariant more (subst FitsArrays e c.entry-c.ensures.1)),
    )

pub loop-i-preserved : goal.loop-i-preserved
loop-i-preserved c =
    let l = c.loop-i in
    let i = next l.i-iterator.0 0 in
    let e = read c.args.terms.now l.counts l.i-iterator.0 c.in-Some.i c.entry-c.result c.entry-c.ensures.0 c.in-Some.ensures.steps.1 in
    let marked : c.passed_over.result
    ≡ passed_over c.args.plan c.args.view i (campaign_at c.args.terms.now l.counts i) =
    c.passed_over.ensures ∙ ap (passed_over c.args.plan c.args.view i) e in
    turned c.args.plan c.args.view _ c.args.terms.now l.counts l.best l.i-iterator.0 l.invariant
    c.in-Some.ensures.steps.0 c.in-Some.i c.entry-c.result c.passed_over.result _
    c.compare-best.result c.next.new.self.0 c.in-Some.ensures.steps.1 e marked c.store.ensures
    (c.compare-best.ensures c.args.view) c.in-Some.ensures.steps.2

pub returns : goal.returns
returns c =
    let l = c.loop-i in
    let z = ends c.args.plan c.args.view _ c.args.terms.now l.counts l.best l.i-iterator.0 c.in-None.ensures.steps.0 l.invariant in
    record { value = z.0; counts = z.1 }
