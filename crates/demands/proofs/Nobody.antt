-- A view that finds nobody: each question is answered yes, no campaign is able, and to each campaign it is absent.
use mathlib.Core.Path.{◌≡◌, ap, sym, ◌∙◌}
use mathlib.Core.Bool.{Bool, true, false, ◌&&◌, not}
use Prim.Native.Nat.{ℕ, ◌≤◌, ◌<◌}
use native.Mathlib.Omega.{arith}
use lib.ListN.{length}
use borrow.Author.Tests.{lt-ltb, le-leb}
use Rattle.finite.proofs.Tests.{never}
use Rattle.sets.specs.Set.{member, size, within, without}
use Rattle.sets.proofs.Algebra.{empty_member, same_members, without_member, collect_lt}
use Rattle.sets.proofs.Bounds.{within_of}
use Rattle.sets.proofs.Walk.{first_none, members_count, members_none}
use Rattle.campaigns.specs.declared.View.{View}
use Rattle.campaigns.specs.declared.Phase.TheVariants.{Running}
use Rattle.campaigns.specs.Limits.{max_views}
use Rattle.campaigns.specs.Phase.{is_running}
use Rattle.campaigns.specs.Choice.Choice.{nobody}
use Rattle.campaigns.specs.View.{names}
use Rattle.questions.specs.Questions.{first_failed, width_holds}
use Rattle.day.specs.declared.Day.{Day}
use Rattle.day.specs.declared.Outcome.{Outcome}
use Rattle.day.specs.Day.{head_of, campaign, sound}
use Rattle.day.specs.Calls.{questions, found, player, offers, shown, view_answer, head_shown, result, call}
use Rattle.day.specs.Calls.Call.{show_view}
use Rattle.day.proofs.State.{campaign_of_state}
use Rattle.demands.specs.Demands.{NobodyFound, NobodyNamed}
use Rattle.demands.proofs.Choice.{player_only}
use Rattle.demands.proofs.Refusals.{call_number, accepted_result}

none_counted : size 0 ≡ 0
none_counted = sym (members_count 0) ∙ ap length (members_none 0 first_none)

module _ (s : Day) (w : View) (none : (found s w).set ≡ 0) where
  unnamed : (i : ℕ) → names (found s w) i ≡ false
  unnamed i = ap (λ (x : ℕ). member x i) none ∙ empty_member i

  nobody_plays : nobody ≡ player s w
  nobody_plays = player_only s w nobody (λ i l. rw (unnamed i))

  stays : (i : ℕ) → shown s w i ≡ campaign s i
  stays i = rw (unnamed i)

  all_yes : sound s ≡ true → s.phase ≡ Running → s.accepted < max_views → within s.count w.set ≡ true
      → first_failed (questions s (show_view w)) ≡ 0
  unfolding first_failed width_holds
  all_yes ok running few inside =
      let fits : size (found s w).set ≤ s.plan.width = omega (arith, ap size none, none_counted) in
      rw (
        ok,
        ap is_running running,
        lt-ltb s.accepted max_views few,
        inside,
        le-leb (size (found s w).set) s.plan.width fits,
      )

  taken : sound s ≡ true → s.phase ≡ Running → s.accepted < max_views → within s.count w.set ≡ true
      → call s (show_view w) ≡ result s (show_view w)
  taken ok running few inside =
      accepted_result s (show_view w) (call_number s (show_view w) ∙ all_yes ok running few inside)

pub nobody_found : NobodyFound
nobody_found s w ok running few inside none =
    let e = taken s w none ok running few inside in
    record {
      answer_is =
          ap (λ (o : Outcome). o.answer) e
          ∙ ap (view_answer (offers s w)) (sym (nobody_plays s w none));
      head_is = ap (λ (o : Outcome). head_of o.day) e;
      campaigns_stay = λ i l.
          ap (λ (o : Outcome). campaign o.day i) e
          ∙ campaign_of_state (head_shown s) (shown s w) i l
          ∙ stays s w none i;
    }

nothing_left : (out : ℕ) → without 0 out ≡ 0
unfolding without
nothing_left out =
    same_members (without 0 out) 0 (collect_lt 64 (λ i. member 0 i && not (member out i))) (omega arith)
    (λ i l. without_member 0 out i l ∙ ap (λ (b : Bool). b && not (member out i)) (empty_member i)
    ∙ sym (empty_member i))

-- nothing is within any plan, and nothing is left of it
pub nobody_named : NobodyNamed
nobody_named s ok running few =
    let w : View = record { set = 0 } in
    nobody_found s w ok running few
    (within_of s.count 0 (λ i l e. absurd (never (member 0 i) (empty_member i) e)))
    (nothing_left s.paused)
