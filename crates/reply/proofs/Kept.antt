-- What every call and every line keep of a state whose arrays are lent: full arrays, soundness, and the weights of its
-- plan.
use mathlib.Core.Path.{◌≡◌, refl, ap, sym, subst, ◌∙◌}
use mathlib.Core.Bool.{Bool, true, false}
use mathlib.Core.List.{List}
use Prim.Native.Nat.{ℕ}
use Rattle.campaigns.specs.declared.Head.{Head}
use Rattle.campaigns.specs.declared.Phase.TheVariants.{Filling}
use Rattle.campaigns.specs.declared.Plan.{Plan}
use Rattle.campaigns.specs.Campaign.{sound_plan, fresh}
use Rattle.campaigns.specs.Cited.{Sized, Weights}
use Rattle.day.specs.declared.Day.{Day}
use Rattle.day.specs.declared.Outcome.{Outcome}
use Rattle.day.specs.declared.Step.{Step}
use Rattle.day.specs.Day.{head_of, state_of, empty_plan, no_terms}
use Rattle.day.specs.Day.{sound}
use Rattle.day.specs.Calls.{Call, with_campaign, head_joined, head_shown, shown, result, questions, refused, call}
use Rattle.day.specs.Calls.Call.{open_plan, add_campaign, start_day, show_view, ask_tally, close_day, mark_campaign}
use Rattle.day.specs.InPlace.{outcome_of}
use Rattle.day.specs.Cited.{refusing, Kept, Ready}
use Rattle.day.proofs.State.{sound_facts, holding_room}
use Rattle.day.proofs.Questions.{Yes, call_elim, unsound_refused}
use Rattle.demands.proofs.Sound.{sound_kept}
use Rattle.reply.specs.Reply.{Request, executed}
use Rattle.reply.specs.Reply.Request.{makes, fails}
use Rattle.reply.specs.Cited.{unsound_number}

-- every call leaves the arrays full
call_room : (s : Day) (c : Call) → Sized s.terms s.counts → Sized (call s c).day.terms (call s c).day.counts
call_room s c h = call_elim (λ (o : Outcome). Sized o.day.terms o.day.counts) s c (λ q. h) (go c)
  where
    go : (c : Call) → Yes (questions s c) → Sized (result s c).day.terms (result s c).day.counts
    go (open_plan pl) y = holding_room (head_of (empty_plan Filling pl)) (λ i. fresh no_terms)
    go (add_campaign t) y = holding_room (head_joined s) (with_campaign s t)
    go start_day y = h
    go (show_view w) y = holding_room (head_shown s) (shown s w)
    go (ask_tally i) y = h
    go close_day y = h
    go (mark_campaign b i) y = h

-- only an opening changes the plan
abbrev pub KeepsPlan : Call → Type 0
KeepsPlan (open_plan pl) = ⊥
KeepsPlan (add_campaign t) = Unit {0}
KeepsPlan start_day = Unit {0}
KeepsPlan (show_view w) = Unit {0}
KeepsPlan (ask_tally i) = Unit {0}
KeepsPlan close_day = Unit {0}
KeepsPlan (mark_campaign b i) = Unit {0}

pub same_plan : (s : Day) (c : Call) → KeepsPlan c → (call s c).day.plan ≡ s.plan
same_plan s c k = call_elim (λ (o : Outcome). o.day.plan ≡ s.plan) s c (λ q. refl) (go c k)
  where
    go : (c : Call) → KeepsPlan c → Yes (questions s c) → (result s c).day.plan ≡ s.plan
    go (open_plan pl) k y = absurd k
    go (add_campaign t) k y = refl
    go start_day k y = refl
    go (show_view w) k y = refl
    go (ask_tally i) k y = refl
    go close_day k y = refl
    go (mark_campaign b i) k y = refl

-- so its weights stay
pub same_weights : (s : Day) (c : Call) (w : List ℕ) {o : Outcome} → KeepsPlan c → o ≡ call s c → Weights s.plan w
    → Weights o.day.plan w
same_weights s c w {o} k e h = subst (λ (p : Plan). Weights p w)
    (sym (ap (λ (x : Outcome). x.day.plan) e ∙ same_plan s c k)) h

-- the plan of a sound state is sound
pub plan_kept : (h : Head) (t n : List ℕ) → Kept h t n → sound_plan h.plan ≡ true
plan_kept h t n k = (sound_facts (state_of h t n) k.is_sound).plan_sound

-- what a call of a sound state hands back is kept
call_kept : (h : Head) (t n : List ℕ) (c : Call) → Kept h t n → (r : Step) (t' n' : List ℕ) → outcome_of r t' n'
    ≡ call (state_of h t n) c → Kept r.head t' n'
call_kept h t n c k r t' n' e = record {
  room = subst (λ (o : Outcome). Sized o.day.terms o.day.counts) (sym e)
      (call_room (state_of h t n) c k.room);
  is_sound = ap (λ (o : Outcome). sound o.day) e ∙ sound_kept (state_of h t n) c k.is_sound;
}

pub opened_sound : (h : Head) (t n : List ℕ) (c : Call) → Kept h t n → (r : Step) (t' n' : List ℕ) → outcome_of r t' n'
    ≡ call (state_of h t n) c → sound_plan r.head.plan ≡ true
opened_sound h t n c k r t' n' e = plan_kept r.head t' n' (call_kept h t n c k r t' n' e)

-- A request, of a state that is sound and of one that is not.

module _ {b : Bool} {h : Head} {w t n : List ℕ} (k : Ready b h w t n) where
  pub kept_ready : b ≡ true → Kept h t n
  kept_ready e = record { room = k.room; is_sound = k.sound_is ∙ e }

  pub ready_executed : (q : Request) (r : Step) (w' t' n' : List ℕ) → b ≡ true → outcome_of r t' n'
      ≡ executed (state_of h t n) q → Weights r.head.plan w' → Ready b r.head w' t' n'
  ready_executed q r w' t' n' e p v = record {
    room = (go q p).room;
    sound_is = (go q p).is_sound ∙ sym e;
    weights_are =
        λ z. v;
  }
    where
      go : (q : Request) → outcome_of r t' n' ≡ executed (state_of h t n) q → Kept r.head t' n'
      go (makes c) p = call_kept h t n c (kept_ready e) r t' n' p
      go (fails q) p = record {
        room = subst (λ (o : Outcome). Sized o.day.terms o.day.counts) (sym p) k.room;
        is_sound = ap (λ (o : Outcome). sound o.day) p ∙ k.sound_is ∙ e;
      }

  -- a state that is not sound refuses every request
  pub unsound_executed : (q : Request) → b ≡ false → refused (state_of h t n) (unsound_number q)
      ≡ executed (state_of h t n) q
  unsound_executed (makes c) e = unsound_refused (state_of h t n) c (k.sound_is ∙ e)
  unsound_executed (fails q) e = refl

-- a refusal keeps what was ready
pub refused_ready : {b : Bool} {h : Head} {w t n : List ℕ} (r : Step) (q : ℕ) → r ≡ refusing h q → Ready b h w t n
    → Ready b r.head w t n
refused_ready {b} {h} {w} {t} {n} r q e k = subst (λ (x : Step). Ready b x.head w t n) (sym e) k

pub refused_weights : (h : Head) (w : List ℕ) (r : Step) (q : ℕ) → r ≡ refusing h q → Weights h.plan w
    → Weights r.head.plan w
refused_weights h w r q e k = subst (λ (x : Step). Weights x.head.plan w) (sym e) k
