-- The tests of soundness pass exactly if the state is sound by the sentences of `specs/Door`, clause by clause: what
-- the tests give is `Sound`, what gives them `Whole`.
use mathlib.Core.Path.{◌≡◌, refl, sym, ap, ◌∙◌, subst}
use mathlib.Core.Bool.{true, false, not, ◌&&◌, ◌||◌, or-true, or-false}
use mathlib.Core.Logic.{◌↔◌}
use Prim.Native.Nat.{ℕ, ◌*◌, ◌<◌}
use lib.Dec.{eqb}
use Rattle.std.specs.Prelude.{Option, Some, None, IfSome}
use borrow.Author.Tests.{leb-true, le-leb, eqb-true, eq-eqb}
use Rattle.finite.proofs.Tests.{never, both_right}
use Rattle.finite.proofs.Meanings.{both_means}
use Rattle.powers.specs.Power.{weight, share}
use Rattle.sets.specs.Set.{member}
use Rattle.sets.proofs.Bounds.{within_means}
use Rattle.campaigns.specs.declared.Campaign.{Campaign}
use Rattle.campaigns.specs.declared.Phase.{Phase}
use Rattle.campaigns.specs.declared.Phase.TheVariants.{Filling, Running, Closed}
use Rattle.campaigns.specs.declared.Plan.{Plan}
use Rattle.campaigns.specs.Phase.{is_filling, is_closed, phase_holds}
use Rattle.campaigns.specs.Campaign.{whole, claim, sound_plan, priced, counted, untouched, sound_campaign}
use Rattle.campaigns.proofs.Laws.{plays_within, spending_within}
use Rattle.campaigns.proofs.Meanings.{uncounted_means, empty_means}
use Rattle.audit.specs.declared.Audit.{Audit}
use Rattle.audit.specs.Sound.{marks_hold, sound_figures, audit_of}
use Rattle.audit.proofs.Audits.{audit_sound, audit_some}
use Rattle.audit.proofs.Totals.{Held}
use Rattle.day.specs.declared.Day.{Day}
use Rattle.day.specs.Day.{head_of, campaign, sound, audited}
use Rattle.day.specs.Day as states
use Rattle.day.proofs.State.{sound_facts, sound_at, held_at, empty_at}
use Rattle.demands.specs.Door.{DepthFits, WidthFits, PowerFits, PriceFits, BudgetFits, takings, total_budgets}
use Rattle.demands.specs.Door.{total_claim, full}
use Rattle.demands.specs.Door.{CampaignSound, new_campaign, IsSound, SumsAre, SoundMeans, AlwaysAudited}
use Rattle.demands.proofs.Meanings.{depth_means, width_means, power_means, price_means, budget_means}
use Rattle.demands.proofs.SoundCampaign.{campaign_sound}
use Rattle.demands.proofs.Sound.{whole_sound}

plan_means : (pl : Plan) → (sound_plan pl ≡ true) ↔ ((DepthFits pl × WidthFits pl) × PowerFits pl)
unfolding sound_plan
plan_means pl = both_means (both_means (depth_means pl) (width_means pl)) (power_means pl)

priced_means : (c : Campaign) → (priced c ≡ true) ↔ (PriceFits c.price × BudgetFits c.price c.budget)
unfolding priced
priced_means c = both_means (price_means c.price) (budget_means c.price c.budget)

-- one campaign of the state s
module _ (s : Day) (c : Campaign) where
  campaign_holds : Held s.plan s.accepted c → CampaignSound s c
  campaign_holds k =
      let fits = (priced_means c).0 k.is_priced in
      record {
        price_fits = fits.0;
        budget_fits = fits.1;
        age_below = k.young;
        plays_paid = spending_within c k.price_least k.within_whole;
        plays_turns = k.plays_turns;
        turns_named = k.turns_named;
        named_accepted = k.named_accepted;
      }

  untouched_of : (p : Phase) → (p ≡ Filling → c ≡ new_campaign c.price c.budget) → untouched p c ≡ true
  untouched_of Filling h = (uncounted_means c).1 (h refl)
  untouched_of Running h = refl
  untouched_of (Closed t) h = refl

  campaign_passes : (p : Phase) → CampaignSound s c → (p ≡ Filling → c ≡ new_campaign c.price c.budget)
      → sound_campaign p s.plan s.accepted c ≡ true
  campaign_passes p k h =
      campaign_sound p s.plan s.accepted c ((priced_means c).1 (k.price_fits, k.budget_fits)) k.age_below
      (leb-true c.plays (whole c)
      (sym (plays_within c k.price_fits.0) ∙ le-leb (c.price * c.plays) c.budget k.plays_paid))
      k.plays_turns k.turns_named k.named_accepted (untouched_of p h)

-- what a phase holds
phase_means : (p : Phase) (n t : ℕ)
    → (phase_holds p n t ≡ true) ↔ ((p ≡ Filling → n ≡ 0) × ((x : ℕ) → p ≡ Closed x → x ≡ t))
phase_means Filling n t = (
  λ e. (λ z. eqb-true n 0 e, λ x z. absurd (never false refl (ap is_closed z))),
  λ h. eq-eqb n 0 (h.0 refl),
)
phase_means Running n t = (
  λ e. (λ z. absurd (never false refl (ap is_filling z)), λ x z. absurd (never false refl (ap is_closed z))),
  λ h. refl,
)
phase_means (Closed y) n t = (
  λ e. (λ z. absurd (never false refl (ap is_filling z)), λ x z. sym (ap held z) ∙ eqb-true y t e),
  λ h. eq-eqb y t (h.1 y refl),
)
  where
    held : Phase → ℕ
    held Filling = 0
    held Running = 0
    held (Closed x) = x

-- in Filling no mark
clear_means : (p : Phase) (m : ℕ) → ((eqb m 0 || not (is_filling p)) ≡ true) ↔ (p ≡ Filling → m ≡ 0)
clear_means Filling m = (λ e z. eqb-true m 0 (sym (or-false (eqb m 0)) ∙ e), λ h. rw (h refl))
clear_means Running m = (λ e z. absurd (never false refl (ap is_filling z)), λ h. or-true (eqb m 0))
clear_means (Closed t) m = (λ e z. absurd (never false refl (ap is_filling z)), λ h. or-true (eqb m 0))

marks_mean : (s : Day) → (marks_hold (head_of s) ≡ true) ↔
    (((i : ℕ) → i < 64 → member s.paused i ≡ true → i < s.count) × (s.phase ≡ Filling → s.paused ≡ 0))
marks_mean s = both_means (within_means s.count s.paused) (clear_means s.phase s.paused)

sound_holds : (s : Day) → sound s ≡ true → IsSound s
unfolding sound_campaign states.total_takings states.total_budgets states.total_claim claim share weight
sound_holds s e =
    let h = sound_facts s e in
    let plan = (plan_means s.plan).0 h.plan_sound in
    let phased = (phase_means s.phase s.accepted (takings s)).0 h.phased in
    let marks = (marks_mean s).0 h.marks in
    record {
      depth_fits = plan.0.0;
      width_fits = plan.0.1;
      power_fits = plan.1;
      few_campaigns = h.few;
      few_views = h.views;
      campaigns_sound = λ i l. campaign_holds s (campaign s i) (held_at s h i l);
      budgets_fit = h.budgets;
      zero_past = λ i l m. (empty_means (campaign s i)).0 (empty_at s h i l m);
      filling_counts = λ z i l.
          let c = campaign s i in
          let u : untouched s.phase c ≡ true =
          both_right (priced c && counted s.plan s.accepted c) (untouched s.phase c) (sound_at s h i l) in
          (uncounted_means c).0 (subst (λ (p : Phase). untouched p c ≡ true) z u);
      filling_views = phased.0;
      closed_holds = phased.1;
      claim_covered = h.covered;
      marks_within = marks.0;
      filling_marks = marks.1;
    }

sound_passes : (s : Day) → IsSound s → sound s ≡ true
unfolding claim share weight
sound_passes s h = whole_sound s (record {
  plan_sound = (plan_means s.plan).1 ((h.depth_fits, h.width_fits), h.power_fits);
  few = h.few_campaigns;
  views = h.few_views;
  marks = (marks_mean s).1 (h.marks_within, h.filling_marks);
  entry = λ i l. campaign_passes s (campaign s i) s.phase (h.campaigns_sound i l) (λ z. h.filling_counts z i l);
  past = λ i l m. (empty_means (campaign s i)).1 (h.zero_past i l m);
  budgets = h.budgets_fit;
  phased = (phase_means s.phase s.accepted (takings s)).1 (h.filling_views, h.closed_holds);
  covered = h.claim_covered;
})

pub sums_are : SumsAre
unfolding states.total_takings states.total_budgets states.total_claim claim share weight
sums_are s = (refl, refl, refl)

pub sound_means : SoundMeans
sound_means s = (sound_holds s, sound_passes s)

-- what holds of a sound state's figures holds of its audit, if there is one
of_figures : (s : Day) (P : Audit → Type 0) → P (sound_figures (head_of s) (campaign s)) → IfSome (audited s) P
unfolding audited
of_figures s P p = go (audit_of (head_of s) (campaign s)) refl
  where
    go : (a : Option Audit) → a ≡ audit_of (head_of s) (campaign s) → IfSome a P
    go None e = tt
    go (Some a) e = subst P (sym (audit_some (head_of s) (campaign s) e).1) p

pub always_audited : AlwaysAudited
unfolding audited sound claim share weight
always_audited s =
    let told = audit_sound (head_of s) (campaign s) (audited s) refl in
    record {
      sound_is = (λ e. sound_holds s (sym told ∙ e), λ g. told ∙ sound_passes s g);
      budgets_are = of_figures s (λ a. a.budgets ≡ total_budgets s) refl;
      takings_are = of_figures s (λ a. a.takings ≡ takings s) refl;
      claim_is = of_figures s (λ a. a.claim ≡ total_claim s) refl;
      full_is = of_figures s (λ a. a.full ≡ full s) refl;
    }
