-- The loop keeps: the sum so far is that of the first i campaigns, at most i × 2^32. That it is at most the budgets'
-- limit is known of the whole sum.
use mathlib.Core.Path.{◌≡◌, refl, ap, subst, sym, ◌∙◌}
use Prim.Native.Nat.{ℕ, ◌*◌, ◌≤◌, ◌<◌}
use native.Mathlib.Omega.{arith}
use Rattle.finite.specs.Finite.{sum}
use Rattle.finite.proofs.Sums.{sum_next}
use Rattle.campaigns.specs.declared.Campaign.{Campaign}
use Rattle.campaigns.specs.Limits.{max_budget}
use Rattle.campaigns.proofs.Laws.{plan_sized}
use Rattle.day.specs.declared.Day.{Day}
use Rattle.day.specs.Day.{state_of, campaign}
use Rattle.day.proofs.State.{sound_facts}
use Rattle.noon.specs.Noon.{due, total_due}
use Rattle.noon.proofs.Dues.{total_within, read_price, read_fits}
use Rattle.noon.proofs.total_due.Goals as goal
use Rattle.noon.proofs.total_due.Goals.{After-entry-c, After-due}

abbrev term : Day → ℕ → ℕ
term s i = (campaign s i).price * due s.plan.depth (campaign s i)

pub loop-i-init : goal.loop-i-init
unfolding sum
loop-i-init c = (omega arith, refl, omega arith)

pub entry-c-requires : goal.entry-c-requires
entry-c-requires c =
    let s = state_of c.args.head c.args.terms.now c.args.counts.now in
    omega (arith, (sound_facts s c.requires.is_sound).few)

price_read : (c : After-entry-c) → 1 ≤ c.entry-c.result.price
price_read c =
    let s = state_of c.args.head c.args.terms.now c.args.counts.now in
    read_price s c.requires.is_sound c.loop-i.i (omega arith) c.entry-c.result c.entry-c.ensures.0

pub due-requires : goal.due-requires
due-requires c =
    let s = state_of c.args.head c.args.terms.now c.args.counts.now in
    record {
      le_price = price_read c;
      le_depth = (plan_sized c.args.head.plan (sound_facts s c.requires.is_sound).plan_sound).deep;
    }

fits : (c : After-due) → c.entry-c.result.price * c.due.result < 4_294_967_296
fits c =
    read_fits c.args.head.plan.depth c.entry-c.result c.due.result (price_read c.before) c.entry-c.ensures.1 c.due.ensures

pub overflow_mul-all : goal.overflow_mul-all
overflow_mul-all c = omega (arith, fits c.before)

pub overflow_add-all : goal.overflow_add-all
overflow_add-all c =
    let s = state_of c.args.head c.args.terms.now c.args.counts.now in
    omega (arith, fits c.before, c.loop-i.invariant.2, (sound_facts s c.requires.is_sound).few)

pub loop-i-preserved : goal.loop-i-preserved
loop-i-preserved c =
    let s = state_of c.args.head c.args.terms.now c.args.counts.now in
    let l = c.loop-i in
    let entry = c.entry-c in
    let here : entry.result.price * c.due.result ≡ term s l.i =
    ap (λ (x : ℕ). entry.result.price * x) c.due.ensures
    ∙ ap (λ (x : Campaign). x.price * due s.plan.depth x) entry.ensures.0 in (
      omega arith,
      omega (arith, sum_next l.i (term s), l.invariant.1, here),
      omega (arith, fits c.before, l.invariant.2),
    )

pub returns : goal.returns
unfolding total_due
returns c =
    let s = state_of c.args.head c.args.terms.now c.args.counts.now in
    let e : c.loop-i.i ≡ s.count = omega arith in
    let whole : c.loop-i.all ≡ total_due s = c.loop-i.invariant.1 ∙ ap (λ (m : ℕ). sum m (term s)) e in
    (whole, subst (λ (x : ℕ). x ≤ max_budget) (sym whole) (total_within s c.requires.is_sound))
