-- What is due to a sound state's campaigns is at most their budgets, since a campaign's whole plays are; so the floor's
-- figure fits. And what the audit finds is what the figures of the state are.
use mathlib.Core.Path.{◌≡◌, subst⁻¹}
use mathlib.Core.Bool.{true, false}
use Prim.Native.Nat.{ℕ, ◌*◌, ◌/◌, ◌≤◌, ◌<◌}
use native.Mathlib.Nat.{le_trans, le-div_iff_mul-le}
use native.Mathlib.Omega.{arith}
use Rattle.finite.proofs.Sums.{sum_le}
use Rattle.campaigns.specs.declared.Campaign.{Campaign}
use Rattle.campaigns.specs.Limits.{max_budget}
use Rattle.campaigns.specs.Campaign.{whole}
use Rattle.campaigns.specs.Cited.{FitsArrays}
use Rattle.day.specs.declared.Day.{Day}
use Rattle.day.specs.Day.{campaign, total_budgets, sound}
use Rattle.questions.specs.Questions.{first_failed}
use Rattle.day.proofs.State.{sound_facts, held_at}
use Rattle.refusal.specs.Refusal.{refusal}
use Rattle.std.specs.Prelude.{Ok, Err}
use Rattle.noon.specs.Noon.{due, total_due, figures_of, at_noon}

-- price × what is due is at most the budget
pub due_within : (k : ℕ) (c : Campaign) → 1 ≤ c.price → c.price * due k c ≤ c.budget
unfolding due whole
due_within k c l =
    let least : due k c ≤ c.budget / c.price = omega arith in
    let paid : due k c * c.price ≤ c.budget = (le-div_iff_mul-le l).0 least in
    omega arith

pub total_within : (s : Day) → sound s ≡ true → total_due s ≤ max_budget
unfolding total_due total_budgets
total_within s e =
    let f = sound_facts s e in
    le_trans
    (sum_le s.count (λ i. (campaign s i).price * due s.plan.depth (campaign s i)) (λ i. (campaign s i).budget)
    (λ i l. due_within s.plan.depth (campaign s i) (held_at s f i l).price_least))
    f.budgets

-- a campaign as it is read out of the arrays: what is due to it can be divided out and fits
pub read_price : (s : Day) → sound s ≡ true → (i : ℕ) → i < s.count → (c : Campaign) → c ≡ campaign s i → 1 ≤ c.price
read_price s e i l c q = subst⁻¹ (λ (x : Campaign). 1 ≤ x.price) q (held_at s (sound_facts s e) i l).price_least

pub read_fits : (k : ℕ) (c : Campaign) (n : ℕ) → 1 ≤ c.price → FitsArrays c → n ≡ due k c
    → c.price * n < 4_294_967_296
read_fits k c n l w e =
    let within : c.price * due k c ≤ c.budget = due_within k c l in
    subst⁻¹ (λ (x : ℕ). c.price * x < 4_294_967_296) e (omega (arith, within, w.budget_u32))

-- the answer, by question 1
pub noon_unsound : (s : Day) → sound s ≡ false → at_noon s ≡ Err (refusal 1)
unfolding at_noon first_failed
noon_unsound s e = rw e

pub noon_sound : (s : Day) → sound s ≡ true → at_noon s ≡ Ok (figures_of s)
unfolding at_noon first_failed
noon_sound s e = rw e
