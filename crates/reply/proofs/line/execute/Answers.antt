-- An input record runs its operation and is what the record asks for; an output record is refused with 17. Only an
-- opening changes the plan, so that otherwise the list keeps the weights of the plan.
use mathlib.Core.Path.{◌≡◌, refl, ap, sym, ◌∙◌}
use mathlib.Core.Bool.{true, false}
use mathlib.Core.List.{List}
use Prim.Native.Nat.{ℕ}
use Rattle.day.specs.declared.Step.{Step}
use Rattle.day.specs.Day.{state_of}
use Rattle.lines.specs.declared.Record.{Record}
use Rattle.lines.specs.declared.Record.TheVariants.{Plan, Campaign, Start, View, Close}
use Rattle.lines.specs.declared.Record.TheVariants.{Done, Play, Nobody, Refused, Closed}
use Rattle.lines.specs.declared.Record.TheVariants.{Tally, Pause, Resume}
use Rattle.day.specs.Calls.Call.{add_campaign, start_day, show_view, close_day, mark_campaign}
use Rattle.day.specs.Calls.{Call, call}
use Rattle.day.specs.InPlace.{outcome_of}
use Rattle.campaigns.specs.Cited.{Weights}
use Rattle.reply.specs.Reply.{request, executed}
use Rattle.reply.specs.Reply.Request.{makes, fails}
use Rattle.campaigns.specs.declared.Head.{Head}
use Rattle.reply.proofs.Kept.{KeepsPlan, same_weights, refused_weights}
use Rattle.reply.proofs.line.execute.Goals as goal

-- a call of the record r, which is u, that keeps the plan
made : (h : Head) (t n w : List ℕ) {r u : Record} (c : Call) (x : Step) {t' n' : List ℕ} → KeepsPlan c → r ≡ u
    → request u ≡ makes c → Weights h.plan w → outcome_of x t' n' ≡ call (state_of h t n) c
    → (outcome_of x t' n' ≡ executed (state_of h t n) (request r)) × Weights x.head.plan w
made h t n w {r} {u} c x k e f v p = (
  p ∙ sym (ap (λ (y : Record). executed (state_of h t n) (request y)) e ∙ ap (executed (state_of h t n)) f),
  same_weights (state_of h t n) c w k p v,
)

pub returns-in-Plan : goal.returns-in-Plan
returns-in-Plan c =
    let a = c.args in
    let before = state_of a.head a.terms.now a.counts.now in
    let x = c.open_plan.ensures in
    record {
      counts_after = x.counts_after ∙ sym (ap (λ (r : Record). executed before (request r)) c.in-Plan.is);
      weights = x.weights;
    }

pub returns-in-Campaign : goal.returns-in-Campaign
returns-in-Campaign c =
    let a = c.args in
    let x = c.add_sound in
    let m = made a.head a.terms.now a.counts.now a.list.now (add_campaign _) x.result tt c.in-Campaign.is refl
    c.requires.0 x.ensures in
    record { counts_after = m.0; weights = m.1 }

pub returns-in-Start : goal.returns-in-Start
returns-in-Start c =
    let a = c.args in
    let x = c.start_sound in
    let m = made a.head a.terms.now a.counts.now a.list.now start_day x.result tt c.in-Start.is refl
    c.requires.0 x.ensures in
    record { counts_after = m.0; weights = m.1 }

pub returns-in-View : goal.returns-in-View
returns-in-View c =
    let a = c.args in
    let x = c.show_sound in
    let m = made a.head a.terms.now a.counts.now a.list.now (show_view _) x.result tt c.in-View.is refl
    c.requires.0 x.ensures in
    record { counts_after = m.0; weights = m.1 }

pub returns-in-Close : goal.returns-in-Close
returns-in-Close c =
    let a = c.args in
    let x = c.close_sound in
    let m = made a.head a.terms.now a.counts.now a.list.now close_day x.result tt c.in-Close.is refl
    c.requires.0 x.ensures in
    record { counts_after = m.0; weights = m.1 }

pub returns-in-Pause : goal.returns-in-Pause
returns-in-Pause c =
    let a = c.args in
    let x = c.mark_sound in
    let m = made a.head a.terms.now a.counts.now a.list.now (mark_campaign true _) x.result tt c.in-Pause.is refl
    c.requires.0 x.ensures in
    record { counts_after = m.0; weights = m.1 }

pub returns-in-Resume : goal.returns-in-Resume
returns-in-Resume c =
    let a = c.args in
    let x = c.mark_sound-in-Resume in
    let m = made a.head a.terms.now a.counts.now a.list.now (mark_campaign false _) x.result tt c.in-Resume.is refl
    c.requires.0 x.ensures in
    record { counts_after = m.0; weights = m.1 }

-- a record that is none of the calls
no_call : (r : Record) → ((d w : ℕ) → r ≡ Plan d w → ⊥) → ((p b : ℕ) → r ≡ Campaign p b → ⊥) → (r ≡ Start → ⊥)
    → ((v : ℕ) → r ≡ View v → ⊥) → (r ≡ Close → ⊥) → ((i : ℕ) → r ≡ Pause i → ⊥) → ((i : ℕ) → r ≡ Resume i → ⊥)
    → request r ≡ fails 17
no_call (Plan d w) f g h k l m n = absurd (f d w refl)
no_call (Campaign p b) f g h k l m n = absurd (g p b refl)
no_call Start f g h k l m n = absurd (h refl)
no_call (View v) f g h k l m n = absurd (k v refl)
no_call Close f g h k l m n = absurd (l refl)
no_call Done f g h k l m n = refl
no_call (Play i p) f g h k l m n = refl
no_call Nobody f g h k l m n = refl
no_call (Refused q) f g h k l m n = refl
no_call (Closed t c u) f g h k l m n = refl
no_call (Tally i p t a u) f g h k l m n = refl
no_call (Pause i) f g h k l m n = absurd (m i refl)
no_call (Resume i) f g h k l m n = absurd (n i refl)

-- a record that is no call is refused, and the weights stay
pub returns-in_default : goal.returns-in_default
returns-in_default c =
    let a = c.args in
    let d = c.in_default in
    let none = no_call a.input d.not-Plan d.not-Campaign d.not-Start d.not-View d.not-Close d.not-Pause d.not-Resume in
    record {
      counts_after =
          ap (λ (x : Step). outcome_of x a.terms.now a.counts.now) c.refused.ensures
          ∙ ap (executed (state_of a.head a.terms.now a.counts.now)) (sym none);
      weights = refused_weights a.head a.list.now c.refused.result 17 c.refused.ensures c.requires.0;
    }
