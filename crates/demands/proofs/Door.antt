-- The questions of every call, asked as the sentences of `specs/Door`: each test has its meaning.
use mathlib.Core.Path.{◌≡◌, ap, subst, subst⁻¹}
use mathlib.Core.Bool.{true}
use mathlib.Core.Logic.{◌↔◌}
use Prim.Native.Nat.{ℕ, ◌+◌, ◌≤◌}
use lib.Dec.{leb}
use Rattle.finite.specs.Finite.{count, one_if}
use Rattle.finite.proofs.Meanings.{leb_means, ltb_means}
use Rattle.finite.proofs.Sums.{sum_eq}
use Rattle.sets.specs.Set.{size, without}
use Rattle.sets.proofs.Algebra.{without_member}
use Rattle.sets.proofs.Bounds.{within_means}
use Rattle.campaigns.specs.declared.View.{View}
use Rattle.campaigns.proofs.Meanings.{filling_means, running_means, closed_means}
use Rattle.questions.specs.Questions.{width_holds, asks}
use Rattle.questions.proofs.Asks.{NumberedBy, asking, accepting}
use Rattle.day.specs.declared.Day.{Day}
use Rattle.day.specs.Day.{head_of}
use Rattle.day.specs.Day as states
use Rattle.day.specs.Calls.{Call, own_questions, found}
use Rattle.day.specs.Calls.Call.{open_plan, add_campaign, start_day, show_view, ask_tally, close_day, mark_campaign}
use Rattle.demands.specs.Door.{IsSound, total_budgets, unpaused, own_door, AlwaysAsks}
use Rattle.demands.proofs.Meanings.{depth_means, width_means, power_means, price_means, budget_means}
use Rattle.demands.proofs.IsSound.{sound_means}
use Rattle.demands.proofs.Refusals.{call_number}

-- how many names are not paused
found_size : (s : Day) (set : ℕ) → size (without set s.paused) ≡ unpaused s set
unfolding size count
found_size s set = sum_eq 64 _ _ (λ i l. ap one_if (without_member set s.paused i l))

unpaused_means : (s : Day) (w : View)
    → (width_holds (head_of s) (found s w) ≡ true) ↔ (unpaused s w.set ≤ s.plan.width)
unfolding width_holds
unpaused_means s w =
    let n = size (without w.set s.paused) in
    subst (λ (m : ℕ). (leb n s.plan.width ≡ true) ↔ (m ≤ s.plan.width)) (found_size s w.set)
    (leb_means n s.plan.width)

own_numbered : (s : Day) (c : Call) → NumberedBy (own_questions s c) (own_door s c)
unfolding states.total_budgets
own_numbered s (open_plan pl) =
    asking 2 (closed_means s.phase)
    (asking 3 (depth_means pl) (asking 4 (width_means pl) (asking 5 (power_means pl) accepting)))
own_numbered s (add_campaign t) =
    asking 6 (filling_means s.phase)
    (asking 7 (ltb_means s.count 64)
    (asking 8 (price_means t.price)
    (asking 9 (budget_means t.price t.budget)
    (asking 10 (leb_means (total_budgets s + t.budget) 2_000_000_000) accepting))))
own_numbered s start_day = asking 6 (filling_means s.phase) accepting
own_numbered s (show_view w) =
    asking 11 (running_means s.phase)
    (asking 12 (ltb_means s.accepted 4_096)
    (asking 13 (within_means s.count w.set)
    (asking 14 (unpaused_means s w) accepting)))
own_numbered s (ask_tally i) = asking 15 (ltb_means i s.count) accepting
own_numbered s close_day = asking 11 (running_means s.phase) accepting
own_numbered s (mark_campaign b i) = asking 11 (running_means s.phase) (asking 15 (ltb_means i s.count) accepting)

pub always_asks : AlwaysAsks
always_asks s c =
    subst⁻¹ (asks 1 (IsSound s) (own_door s c)) (call_number s c) (asking 1 (sound_means s) (own_numbered s c)).is
