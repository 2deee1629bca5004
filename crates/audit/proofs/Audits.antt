-- Soundness by its tests in the order of the code: the limits, then what `tested` has, then the total claim as two
-- sums. So the audit of a record within its limits is `claim_checked` where `tested` passes, and fails where it does
-- not.
use mathlib.Core.Path.{◌≡◌, refl, ap, ◌∙◌}
use mathlib.Core.Bool.{Bool, true, false, ◌&&◌, and_assoc, and-true}
use Prim.Native.Nat.{ℕ, ◌+◌, ◌-◌, ◌*◌, ◌≤◌, ◌<◌}
use native.Mathlib.Omega.{arith}
use lib.Dec.{leb}
use Rattle.std.specs.Prelude.{Option, Some, None, is_some, cond}
use borrow.Author.Tests.{leb-true}
use Rattle.finite.specs.Finite.{every}
use Rattle.finite.proofs.Tests.{both_left, both_right, every_cut, never}
use Rattle.finite.proofs.Sums.{sum_eq, sum_add, sum_mul}
use Rattle.powers.specs.Power.{weight, share}
use Rattle.powers.proofs.Weight.{weight_mono}
use Rattle.campaigns.specs.declared.Campaign.{Campaign}
use Rattle.campaigns.specs.declared.Head.{Head}
use Rattle.campaigns.specs.declared.Plan.{Plan}
use Rattle.campaigns.specs.Limits.{max_campaigns, max_budget, max_views}
use Rattle.campaigns.specs.Campaign.{claim, sound_plan, sound_campaign, empty}
use Rattle.campaigns.specs.Phase.{phase_holds}
use Rattle.campaigns.specs.View.{budgets, takings, claims, full}
use Rattle.campaigns.proofs.Laws.{plan_sized}
use Rattle.audit.specs.declared.Audit.{Audit}
use Rattle.audit.specs.Sound.{marks_hold, sound_record, not_sound, sound_figures, audit_of}
use Rattle.audit.specs.Cited.{limits_hold, waiting, sums_of, empty_from, claim_sum, claim_checked}
use Rattle.audit.proofs.Totals.{held}
use Rattle.audit.proofs.Claims.{tested, each, some_given, none_given}

-- soundness in the order of the code
regroup : (a b c m x y e f g : Bool)
    → (a && (b && (c && (m && ((x && y) && (e && (f && (g && true)))))))) ≡
    ((a && b && c && m) && ((x && y && e && f) && g))
regroup a b c m x y e f g = simp (and_assoc, and-true)

-- the claims of n campaigns that are not past the depth
claims_sum : (pl : Plan) → sound_plan pl ≡ true → (n : ℕ) (f : ℕ → Campaign)
    → ((i : ℕ) → i < n → (f i).age < pl.depth) → claims pl n f ≡ claim_sum pl (sums_of pl n f)
unfolding claim sums_of
claims_sum pl e n f h =
    let k = pl.depth in
    let d = pl.width in
    let z = plan_sized pl e in
    sum_eq n (λ i. claim k d (f i)) (λ i. share k d * ((f i).price * (f i).turns) + (f i).price * waiting pl (f i))
    (λ i l.
    let m = weight_mono k d z.wide (f i).age (omega (arith, h i l)) in
    let q : (f i).turns * share k d + weight k d (f i).age - weight k d 0 ≡ (f i).turns * share k d + waiting pl (f i) =
    omega arith in
    omega (arith, ap (λ (x : ℕ). (f i).price * x) q))
    ∙ sum_add n (λ i. share k d * ((f i).price * (f i).turns)) (λ i. (f i).price * waiting pl (f i))
    ∙ omega (arith, sum_mul n (share k d) (λ i. (f i).price * (f i).turns))

module _ (h : Head) (f : ℕ → Campaign) where
  abbrev pub rest : Bool
  rest = tested h.phase h.plan h.accepted h.count f

  abbrev covered : Bool
  covered = leb (claims h.plan h.count f) (full h.plan (takings h.plan h.count f))

  sound_parts : h.count ≤ max_campaigns → sound_record h f ≡ (limits_hold h && (rest && covered))
  unfolding sound_record empty_from
  sound_parts few =
      let sound_at : ℕ → Bool = λ i. sound_campaign h.phase h.plan h.accepted (f i) in
      rw (every_cut 64 h.count sound_at (λ i. empty (f i)) few)
      (regroup (sound_plan h.plan) (leb h.count max_campaigns) (leb h.accepted max_views) (marks_hold h)
      (every h.count sound_at) (empty_from h.count f) (leb (budgets h.count f) max_budget)
      (phase_holds h.phase h.accepted (takings h.plan h.count f)) covered)

  -- a record outside the limits is not sound
  pub outside : limits_hold h ≡ false → sound_record h f ≡ false
  unfolding sound_record
  outside e = go (sound_plan h.plan) (leb h.count max_campaigns) (leb h.accepted max_views) (marks_hold h) _ e
    where
      go : (a b c m d : Bool) → (a && b && c && m) ≡ false → (a && (b && (c && (m && d)))) ≡ false
      go false b c m d e = refl
      go true false c m d e = refl
      go true true false m d e = refl
      go true true true false d e = refl
      go true true true true d e = absurd (let z : ◌≡◌ {A = ℕ} 0 1 = cc in omega arith)

  pub sound_within : sound_record h f ≡ true → limits_hold h ≡ true
  sound_within s = go (limits_hold h) refl
    where
      go : (b : Bool) → limits_hold h ≡ b → limits_hold h ≡ true
      go true e = e
      go false e = absurd (never (sound_record h f) (outside e) s)

  pub audit_outside : limits_hold h ≡ false → audit_of h f ≡ not_sound
  unfolding audit_of
  audit_outside e = rw (outside e)

  -- what the audit tells
  pub audit_some : {a : Audit} → Some a ≡ audit_of h f → (sound_record h f ≡ true) × (a ≡ sound_figures h f)
  unfolding audit_of
  audit_some e = some_given e

  pub audit_sound : (a : Option Audit) → a ≡ audit_of h f → is_some a ≡ sound_record h f
  unfolding audit_of
  audit_sound a e = rw e (go (sound_record h f))
    where
      go : (b : Bool) → is_some (cond b (Some (sound_figures h f)) not_sound) ≡ b
      go true = refl
      go false = refl

  pub audit_figures : sound_record h f ≡ true → audit_of h f ≡ Some (sound_figures h f)
  unfolding audit_of
  audit_figures s = rw s

  pub audit_none : None ≡ audit_of h f → sound_record h f ≡ false
  unfolding audit_of
  audit_none e = none_given _ e

  -- within the limits
  module _ (e : limits_hold h ≡ true) where
    numbers : (sound_plan h.plan && leb h.count max_campaigns && leb h.accepted max_views) ≡ true
    numbers = both_left (sound_plan h.plan && leb h.count max_campaigns && leb h.accepted max_views)
        (marks_hold h) e

    pub plan_of : sound_plan h.plan ≡ true
    plan_of = both_left (sound_plan h.plan) (leb h.count max_campaigns)
        (both_left (sound_plan h.plan && leb h.count max_campaigns) (leb h.accepted max_views) numbers)

    pub few_of : h.count ≤ max_campaigns
    few_of = leb-true h.count max_campaigns (both_right (sound_plan h.plan) (leb h.count max_campaigns)
        (both_left (sound_plan h.plan && leb h.count max_campaigns) (leb h.accepted max_views) numbers))

    pub views_of : h.accepted ≤ max_views
    views_of = leb-true h.accepted max_views
        (both_right (sound_plan h.plan && leb h.count max_campaigns) (leb h.accepted max_views) numbers)

    pub audit_failed : rest ≡ false → audit_of h f ≡ not_sound
    unfolding audit_of
    audit_failed t = rw (sound_parts few_of, e, t)

    pub audit_checked : rest ≡ true → audit_of h f ≡ claim_checked h.plan (sums_of h.plan h.count f)
    unfolding audit_of claim_checked sums_of
    audit_checked t =
        let young : (i : ℕ) → i < h.count → (f i).age < h.plan.depth =
        λ i l. (held h.phase h.plan h.accepted h.count f
        (each h.phase h.plan h.accepted h.count f t) i l).young in
        rw (sound_parts few_of, e, t, claims_sum h.plan plan_of h.count f young)
