-- What holds of every day: an induction on the list of calls. Refused calls change neither the state nor the day.
use mathlib.Core.Path.{◌≡◌}
use mathlib.Core.Bool.{true, false}
use mathlib.Core.List.{List, [], ◌∷◌}
use Prim.Native.Nat.{ℕ, suc}
use native.Mathlib.Omega.{arith}
use borrow.Author.Tests.{eq-eqb, ne_eqb}
use Rattle.finite.proofs.Tests.{never}
use Rattle.campaigns.specs.declared.Phase.TheVariants.{Filling}
use Rattle.campaigns.specs.declared.Plan.{Plan}
use Rattle.day.specs.declared.Answer.TheVariants.{Refused}
use Rattle.day.specs.declared.Day.{Day}
use Rattle.day.specs.declared.Outcome.{Outcome}
use Rattle.day.specs.Day.{empty_plan, blank_plan, blank}
use Rattle.day.specs.Calls.{number, Call, questions, result, call}
use Rattle.day.specs.Calls.Call.{open_plan}
use Rattle.day.proofs.Questions.{Yes, call_elim}
use Rattle.demands.specs.Transcript.{transcript, final}
use Rattle.demands.proofs.Refusals.{result_number}
use Rattle.floor.specs.History.{accepted, Starts, AnyListStarts, History, opening, with_call, entered}
use Rattle.floor.specs.History.{continued, history}
use Rattle.floor.specs.History.Starts.{from_blank, from_opening}

refused_not : (q : ℕ) → accepted (Refused (suc q)) ≡ false
refused_not q = ne_eqb (suc q) 0 (λ z. omega arith)

pub any_list_starts : AnyListStarts
any_list_starts = record {
  at_blank = from_blank;
  at_opening = λ s pl cs e. from_opening s pl cs (eq-eqb (number (call s (open_plan pl)).answer) 0 e);
}

-- P holds of the blank state, and accepted calls keep it; an accepted opening gives it whatever was before
module _ (P : Day → History → Type 0) (at_blank : P blank (opening blank_plan))
    (opened : (s : Day) (pl : Plan) → Yes (questions s (open_plan pl)) → P (empty_plan Filling pl) (opening pl))
    (kept : (s : Day) (h : History) → P s h → (c : Call) → Yes (questions s c)
    → P (result s c).day (with_call h c (result s c).answer)) where
  -- what the day becomes by an outcome
  abbrev Becomes : History → Call → Outcome → Type 0
  Becomes h c o = P o.day (entered h (record { made = c; answer = o.answer }))

  call_keeps : (s : Day) (h : History) → P s h → (c : Call) → Becomes h c (call s c)
  call_keeps s h p c =
      call_elim (Becomes h c) s c (λ q. rw (refused_not q) p)
      (λ y. rw (eq-eqb (number (result s c).answer) 0 (result_number s c)) (kept s h p c y))

  calls_keep : (cs : List Call) (s : Day) (h : History) → P s h → P (final s cs) (continued h (transcript s cs))
  unfolding final transcript continued
  calls_keep [] s h p = p
  calls_keep (c ∷ cs) s h p =
      calls_keep cs (call s c).day (entered h (record { made = c; answer = (call s c).answer })) (call_keeps s h p c)

  opening_gives : (s : Day) (pl : Plan) → accepted (call s (open_plan pl)).answer ≡ true
      → Becomes (opening blank_plan) (open_plan pl) (call s (open_plan pl))
  opening_gives s pl =
      call_elim (λ (o : Outcome). accepted o.answer ≡ true → Becomes (opening blank_plan) (open_plan pl) o) s
      (open_plan pl) (λ q z. absurd (never (accepted (Refused (suc q))) (refused_not q) z)) (λ y z. opened s pl y)

  -- it holds at the end of every list
  pub of_every_day : (s : Day) (cs : List Call) → Starts s cs → P (final s cs) (history (transcript s cs))
  unfolding final transcript continued
  of_every_day _ _ (from_blank cs) = calls_keep cs blank (opening blank_plan) at_blank
  of_every_day _ _ (from_opening s pl cs e) =
      calls_keep cs (call s (open_plan pl)).day
      (entered (opening blank_plan) (record { made = open_plan pl; answer = (call s (open_plan pl)).answer }))
      (opening_gives s pl e)
