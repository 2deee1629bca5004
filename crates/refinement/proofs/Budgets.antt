-- The budget, and the budget without the cents left over, buy the same whole plays: either may stand for B_i.
use mathlib.Core.Path.{◌≡◌, refl, sym, ◌∙◌}
use Prim.Native.Nat.{ℕ, zero, suc, ◌*◌, ◌/◌}
use native.Mathlib.Nat.{div-zero, mul-div_cancel_left, zero-lt-suc}
use Rattle.refinement.specs.Correspondence.{BuysAlike, spendable, BudgetsBuyAlike}

pub budget_buys : BuysAlike (λ t. t.budget)
budget_buys t = refl

pub spendable_buys : BuysAlike spendable
spendable_buys t = go t.price t.budget
  where
    go : (p b : ℕ) → p * (b / p) / p ≡ b / p
    go zero b = div-zero _ ∙ sym (div-zero b)
    go (suc p) b = mul-div_cancel_left (b / suc p) (zero-lt-suc p)

pub budgets_buy_alike : BudgetsBuyAlike
budgets_buy_alike = (budget_buys, spendable_buys)
