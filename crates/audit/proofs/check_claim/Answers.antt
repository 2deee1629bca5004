-- The total claim against full, without overflow: full is at most 2^32 × 2,000,000,000, so that a claim which does not
-- fit 64 bits is above it.
use Rattle.audit.proofs.Claims.{high_is, share_is, low_below, unchecked, checked}
use Rattle.audit.specs.declared.Audit.{Audit}
use Rattle.audit.specs.declared.sums.Sums.{Sums}
use Rattle.audit.specs.Cited.{claim_checked}
use Rattle.audit.specs.Sound.{not_sound}
use Rattle.campaigns.specs.declared.Plan.{Plan}
use Rattle.campaigns.specs.Campaign.{sound_plan}
use Rattle.powers.specs.Power.{weight}
use Rattle.std.specs.Prelude.{Option, Some}
use native.Mathlib.Omega.{arith}
use native.Mathlib.Nat.{mul-le-mul}
use Prim.Native.Nat.{ℕ, ◌+◌, ◌-◌, ◌*◌, ◌≤◌, ◌<◌}
use mathlib.Core.Bool.{true}
use mathlib.Core.Path.{◌≡◌, ap, ap₂, sym, subst₂, ◌∙◌}
use Rattle.audit.proofs.check_claim.Goals as goal

pub overflow_sub-share : goal.overflow_sub-share
overflow_sub-share c =
    let gap = low_below c.args.plan c.requires.weights.plan_sound c.weigh-high.result c.weigh.result
    c.weigh-high.ensures.0 c.weigh.ensures.0 in
    omega arith

-- by the top weight h and the lowest l, as the code has them
module _ (pl : Plan) (s : Sums) (sound : sound_plan pl ≡ true) (h l : ℕ) (high : h ≡ weight pl.depth pl.width pl.depth)
    (low : l ≡ weight pl.depth pl.width 0) where
  over : h * s.takings < s.turned * (h - l) + s.waited → not_sound ≡ claim_checked pl s
  over m = sym (unchecked pl s
      (subst₂ (λ (x y : ℕ). x * s.takings < s.turned * y + s.waited) (high_is pl sound h l high low)
      (share_is pl sound h l high low) m))

  abbrev given : (x y : ℕ) → Option Audit
  given x y = Some (record {
    budgets = s.budgets;
    takings = s.takings;
    claim = s.turned * y + s.waited;
    full = x * s.takings;
  })

  under : s.turned * (h - l) + s.waited ≤ h * s.takings → given h (h - l) ≡ claim_checked pl s
  under m =
      let top = high_is pl sound h l high low in
      let span = share_is pl sound h l high low in
      ap₂ given top span
      ∙ sym (checked pl s (subst₂ (λ (x y : ℕ). s.turned * y + s.waited ≤ x * s.takings) top span m))

-- full is at most 2^32 × 2,000,000,000
full_most : (x t : ℕ) → x ≤ 4_294_967_296 → t ≤ 2_000_000_000 → x * t ≤ 8_589_934_592_000_000_000
full_most x t h k = mul-le-mul h k

pub returns-in_err-checked_mul : goal.returns-in_err-checked_mul
returns-in_err-checked_mul c =
    let h = c.weigh-high in
    let l = c.weigh in
    let m = full_most h.result c.args.sums.takings h.ensures.1 c.requires.bounded.takings_bound in
    c.from_residual.ensures
    ∙ over c.args.plan c.args.sums c.requires.weights.plan_sound h.result l.result h.ensures.0 l.ensures.0
    (omega (arith, c.in_err-checked_mul.ensures))

pub returns-in_err-claim : goal.returns-in_err-claim
returns-in_err-claim c =
    let h = c.weigh-high in
    let l = c.weigh in
    let m = full_most h.result c.args.sums.takings h.ensures.1 c.requires.bounded.takings_bound in
    c.from_residual-in_err-claim.ensures
    ∙ over c.args.plan c.args.sums c.requires.weights.plan_sound h.result l.result h.ensures.0 l.ensures.0
    (omega (arith, c.in_ok-checked_mul.ensures, c.in_err-claim.ensures))

pub returns-then-full-claim : goal.returns-then-full-claim
returns-then-full-claim c =
    let h = c.weigh-high in
    let l = c.weigh in
    over c.args.plan c.args.sums c.requires.weights.plan_sound h.result l.result h.ensures.0 l.ensures.0
    (omega (arith, c.in_ok-checked_mul.ensures, c.in_ok-claim.ensures))

pub returns : goal.returns
returns c =
    let s = c.args.sums in
    let h = c.weigh-high in
    let l = c.weigh in
    let told : c.in_ok-claim.claim ≡ s.turned * (h.result - l.result) + s.waited =
    omega (arith, c.in_ok-checked_mul.ensures, c.in_ok-claim.ensures) in
    let figures : ℕ → Option Audit = λ x. Some (record {
      budgets = s.budgets;
      takings = s.takings;
      claim = x;
      full = h.result * s.takings;
    }) in
    ap figures told
    ∙ under c.args.plan s c.requires.weights.plan_sound h.result l.result h.ensures.0 l.ensures.0 (omega arith)
