-- The loop keeps: `power` is d^i, the entries below i are weights, and those from i to the depth are still powers of
-- d − 1. No product overflows, since no weight is above d^k.
use Rattle.finite.proofs.Tests.{one_more}
use Rattle.campaigns.proofs.Laws.{weight_top, plan_sized}
use Rattle.powers.specs.Power.{weight}
use native.Mathlib.Omega.{arith}
use lib.ListN.{get_or, set, length, length-set}
use lib.Seq.{get_or-set_same, get_or-set_other}
use Prim.Native.Nat.{ℕ, ◌+◌, ◌-◌, ◌*◌, ◌^◌, ◌≤◌, ◌<◌}
use native.Mathlib.Numerals.{add-one}
use native.Mathlib.Nat.{pow-zero, pow-suc, pow-le-pow_right, le_trans, mul_comm, mul-le-mul}
use mathlib.Core.List.{List}
use mathlib.Core.Path.{◌≡◌, ap, ap₂, sym, ◌∙◌}
use Rattle.campaigns.proofs.weights.raise.Goals as goal

-- the entry at hand becomes its weight
product : (k d i x p : ℕ) → x ≡ (d - 1) ^ (k - i) → p ≡ d ^ i → x * p ≡ weight k d i
unfolding weight
product k d i x p entry power = ap₂ (λ (x y : ℕ). x * y) entry power ∙ mul_comm ((d - 1) ^ (k - i)) (d ^ i)

-- with it stored, the entries up to i are weights
stored : (k d i p : ℕ) (l : List ℕ) → i < length l → ((a : ℕ) → a < i → a ≤ k → get_or l a 0 ≡ weight k d a)
    → get_or l i 0 * p ≡ weight k d i
    → (a : ℕ) → a < i + 1 → a ≤ k → get_or (set l i (get_or l i 0 * p)) a 0 ≡ weight k d a
stored k d i p l inside below here a h g =
    let x = get_or l i 0 * p in
    one_more (λ a. a ≤ k → get_or (set l i x) a 0 ≡ weight k d a) i
    (λ a h g. get_or-set_other l i a x 0 (λ e. omega arith) ∙ below a h g)
    (λ g. get_or-set_same l i x 0 inside ∙ here) a (omega arith) g

pub loop-i-init : goal.loop-i-init
loop-i-init c = (
  omega arith,
  sym (pow-zero c.args.plan.width),
  λ a h. absurd
      (omega arith),
  λ a _ h. c.requires.falls a h,
  c.requires.full_length,
)

pub offset_bounds-list-i : goal.offset_bounds-list-i
offset_bounds-list-i c = let z = plan_sized c.args.plan c.requires.plan_fits in
    omega (arith, z.shallow)

pub bounds-list-i : goal.bounds-list-i
bounds-list-i c = let z = plan_sized c.args.plan c.requires.plan_fits in
    omega (arith, z.shallow)

pub overflow_mul-list : goal.overflow_mul-list
overflow_mul-list c = let z =
    plan_sized c.args.plan c.requires.plan_fits in
    record {
      fits = omega (
        arith,
        product _ _ c.loop-i.i _ _ (c.loop-i.invariant.3 c.loop-i.i (omega arith) (omega arith)) c.loop-i.invariant.1,
        weight_top c.args.plan c.requires.plan_fits
            c.loop-i.i (omega (arith, c.loop-i-test.true)),
      );
    }

pub bounds-list-i-in-loop-i : goal.bounds-list-i-in-loop-i
bounds-list-i-in-loop-i c =
    let z = plan_sized c.args.plan c.requires.plan_fits in
    omega (arith, z.shallow)

pub overflow_mul-power : goal.overflow_mul-power
overflow_mul-power c =
    let s = c.before.before.before in
    let z = plan_sized s.args.plan s.requires.plan_fits in
    let h : c.loop-i.i ≤ s.args.plan.depth = omega (arith, c.loop-i-test.true) in
    let x : c.loop-i.power ≤ 4_294_967_296 =
    omega (arith, c.loop-i.invariant.1, le_trans (pow-le-pow_right z.wide h) z.top) in
    record { fits = omega (arith, mul-le-mul x z.narrow) }

pub overflow_step-i : goal.overflow_step-i
overflow_step-i c = let z = plan_sized c.args.plan c.requires.plan_fits in
    omega (arith, z.shallow)

pub loop-i-preserved : goal.loop-i-preserved
loop-i-preserved c = let l = c.loop-i in
    let k = c.args.plan.depth in
    let d = c.args.plan.width in
    let z = plan_sized c.args.plan c.requires.plan_fits in
    let x = get_or l.list l.i 0 * l.power in (
      omega arith,
      ap (λ (x : ℕ). x * d) l.invariant.1 ∙ sym (pow-suc d l.i) ∙ ap (λ (x : ℕ). d ^ x) (sym (add-one l.i)),
      stored k d l.i l.power l.list (omega (arith, l.invariant.4, z.shallow)) l.invariant.2
          (product k d l.i _ _ (l.invariant.3 l.i (omega arith) (omega arith)) l.invariant.1),
      λ a h g. get_or-set_other l.list l.i a x 0 (λ e. omega arith) ∙ l.invariant.3 a (omega arith) g,
      length-set l.list l.i x ∙ l.invariant.4,
    )

pub returns : goal.returns
returns c = record { plan_sound = c.requires.plan_fits; weigh_is = λ a h. c.loop-i.invariant.2 a (omega arith) h }

pub returns-2 : goal.returns-2
returns-2 c = let l = c.loop-i in
    let k = c.args.plan.depth in
    let d = c.args.plan.width in
    let z = plan_sized c.args.plan c.requires.plan_fits in record {
      plan_sound = c.requires.plan_fits;
      weigh_is =
          λ a h. stored k d l.i l.power l.list (omega (arith, l.invariant.4, z.shallow)) l.invariant.2
          (product k d l.i _ _ (l.invariant.3 l.i (omega arith) (omega arith)) l.invariant.1) a
          (omega arith) h;
    }
