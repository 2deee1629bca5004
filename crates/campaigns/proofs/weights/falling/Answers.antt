-- The loop keeps: `power` is (d − 1)^i, and the last i entries up to the depth are the powers of d − 1 from 0 on. No
-- power overflows, since d^k is at most 2^32.
use Rattle.finite.proofs.Tests.{one_more}
use Rattle.campaigns.proofs.Laws.{plan_sized}
use native.Mathlib.Omega.{arith}
use native.Mathlib.Nat.{pow-zero, pow-suc, pow-le-pow_left, pow-le-pow_right, sub-le, le_trans, mul-le-mul}
use native.Mathlib.Numerals.{add-one}
use lib.ListN.{get_or, set, length-set}
use lib.Seq.{get_or-set_same, get_or-set_other}
use Prim.Native.Nat.{ℕ, ◌-◌, ◌*◌, ◌^◌, ◌≤◌}
use mathlib.Core.Path.{◌≡◌, refl, ap, sym, subst, ◌∙◌}
use mathlib.Core.Bool.{true}
use Rattle.campaigns.specs.declared.Plan.{Plan}
use Rattle.campaigns.specs.Campaign.{sound_plan}
use Rattle.campaigns.proofs.weights.falling.Goals as goal

-- a power of d − 1 up to the depth is at most 2^32
small : (pl : Plan) → sound_plan pl ≡ true → (i : ℕ) → i ≤ pl.depth → (pl.width - 1) ^ i ≤ 4_294_967_296
small pl e i h =
    let z = plan_sized pl e in
    le_trans (pow-le-pow_left (sub-le pl.width 1) i) (le_trans (pow-le-pow_right z.wide h) z.top)

pub overflow_sub-base : goal.overflow_sub-base
overflow_sub-base c = let z = plan_sized c.args.plan c.requires in omega (arith, z.wide)

pub loop-i-init : goal.loop-i-init
loop-i-init c = (omega arith, sym (pow-zero (c.args.plan.width - 1)), λ j h. absurd (omega arith), refl)

pub offset_bounds-list-depth : goal.offset_bounds-list-depth
offset_bounds-list-depth c = let z = plan_sized c.args.plan c.requires in
    omega (arith, z.shallow)

pub bounds-list-depth : goal.bounds-list-depth
bounds-list-depth c = let z = plan_sized c.args.plan c.requires in
    omega (arith, z.shallow)

pub overflow_mul-power : goal.overflow_mul-power
overflow_mul-power c =
    let z = plan_sized c.args.plan c.requires in
    let x : c.loop-i.power ≤ 4_294_967_296 =
    omega (arith, c.loop-i.invariant.1, small c.args.plan c.requires c.loop-i.i (omega arith)) in
    let y : c.args.plan.width - 1 ≤ 16 = omega (arith, z.narrow) in
    record { fits = omega (arith, mul-le-mul x y) }

pub overflow_step-i : goal.overflow_step-i
overflow_step-i c = let z = plan_sized c.args.plan c.requires in
    omega (arith, z.shallow)

pub loop-i-preserved : goal.loop-i-preserved
loop-i-preserved c = let l = c.loop-i in
    let k = c.args.plan.depth in
    let b = c.args.plan.width - 1 in
    let z = plan_sized c.args.plan c.requires in (
      omega arith,
      ap (λ (x : ℕ). x * b) l.invariant.1 ∙ sym (pow-suc b l.i) ∙ ap (λ (x : ℕ). b ^ x) (sym (add-one l.i)),
      λ j h. one_more (λ j. get_or (set l.list (k - l.i) l.power) (k - j) 0 ≡ b ^ j) l.i
          (λ j g. get_or-set_other l.list (k - l.i) (k - j) l.power 0 (λ e. omega arith) ∙ l.invariant.2 j g)
          (get_or-set_same l.list (k - l.i) l.power 0 (omega (arith, l.invariant.3, z.shallow)) ∙ l.invariant.1) j
          (omega arith),
      length-set l.list (k - l.i) l.power ∙ l.invariant.3,
    )

pub returns : goal.returns
returns c = let l = c.loop-i in
    let k = c.args.plan.depth in
    record {
      plan_fits = c.requires;
      full_length = l.invariant.3;
      falls =
          λ a h. subst (λ (x : ℕ). get_or l.list x 0 ≡ (c.args.plan.width - 1) ^ (k - a))
          (let e : k - (k - a) ≡ a = omega arith in e) (l.invariant.2 (k - a) (omega arith));
    }
