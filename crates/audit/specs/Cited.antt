-- Names for the contracts of the audit: what the tests by columns, the sums and the last test find.
use Rattle.std.specs.Prelude.{Bool, true, cond, ◌&&◌, ℕ, ◌+◌, ◌-◌, ◌*◌, ◌≤◌, ◌<◌, leb, ltb, eqb}
use Rattle.std.specs.Prelude.{Option, Some, None}
use Rattle.finite.specs.Finite.{sum, every}
use Rattle.powers.specs.Power.{weight, share}
use Rattle.campaigns.specs.declared.Campaign.{Campaign}
use Rattle.campaigns.specs.declared.Head.{Head}
use Rattle.campaigns.specs.declared.Phase.{Phase}
use Rattle.campaigns.specs.declared.Phase.TheVariants.{Filling, Running, Closed}
use Rattle.campaigns.specs.declared.Plan.{Plan}
use Rattle.campaigns.specs.Limits.{max_campaigns, max_price, max_budget, max_views}
use Rattle.campaigns.specs.Cited.{max_column}
use Rattle.campaigns.specs.Campaign.{spending, sound_plan, priced, uncounted, empty}
use Rattle.campaigns.specs.View.{budgets, takings, full}
use Rattle.audit.specs.declared.Audit.{Audit}
use Rattle.audit.specs.declared.sums.Spent.{Spent}
use Rattle.audit.specs.declared.sums.Sums.{Sums}
use Rattle.audit.specs.Sound.{marks_hold, not_sound}

-- the first tests of soundness: the plan's, the limits of campaigns and views, and the paused marks
abbrev pub limits_hold : Head → Bool
limits_hold h = sound_plan h.plan && leb h.count max_campaigns && leb h.accepted max_views && marks_hold h

-- the tests of soundness on the first n campaigns, by columns
unfoldable pub priced_columns : ℕ → (ℕ → Campaign) → Bool
priced_columns n f = every n (λ i. priced (f i))

unfoldable pub ordered_columns : (depth accepted n : ℕ) → (ℕ → Campaign) → Bool
ordered_columns k a n f = every n (λ i. ltb (f i).age k && leb (f i).plays (f i).turns &&
    leb (f i).turns (f i).named && leb (f i).named a)

-- and one that is made as the sums are formed: price × plays ≤ budget, at most the whole plays
abbrev pub paid_columns : ℕ → (ℕ → Campaign) → Bool
paid_columns n f = every n (λ i. leb (spending (f i)) (f i).budget)

-- the sums over the first n campaigns
abbrev pub waiting : Plan → Campaign → ℕ
waiting pl c = weight pl.depth pl.width c.age - weight pl.depth pl.width 0

unfoldable pub sums_of : Plan → ℕ → (ℕ → Campaign) → Sums
sums_of pl n f = record {
  budgets = budgets n f;
  takings = takings pl n f;
  turned = sum n (λ i. (f i).price * (f i).turns);
  waited = sum n (λ i. (f i).price * waiting pl (f i));
}

-- the part of them that no weight enters, where each campaign has paid at most its budget
abbrev pub spendings : ℕ → (ℕ → Campaign) → Spent
spendings n f = record {
  budgets = budgets n f;
  takings = sum n (λ i. spending (f i));
  turned = sum n (λ i. (f i).price * (f i).turns);
}

unfoldable pub spent_of : ℕ → (ℕ → Campaign) → Option Spent
spent_of n f = cond (paid_columns n f) (Some (spendings n f)) None

-- the part of the weights, and the bounds under which it fits
unfoldable pub waited_of : Plan → ℕ → (ℕ → Campaign) → ℕ
waited_of pl n f = sum n (λ i. (f i).price * waiting pl (f i))

pub record EntriesBounded (pl : Plan) (n : ℕ) (f : ℕ → Campaign) : Type 0 where
  pub price_most : (i : ℕ) → i < n → (f i).price ≤ max_price
  pub age_most : (i : ℕ) → i < n → (f i).age ≤ pl.depth

-- all of them, where each campaign has paid at most its budget
unfoldable pub summed : Plan → ℕ → (ℕ → Campaign) → Option Sums
summed pl n f = cond (paid_columns n f) (Some (sums_of pl n f)) None

-- of the first m entries, those from n on have no terms, no counts, or neither
unfoldable pub no_terms_from : ℕ → (ℕ → Campaign) → ℕ → Bool
no_terms_from n f m = every m (λ i. cond (ltb i n) true (eqb (f i).price 0 && eqb (f i).budget 0))

unfoldable pub no_counts_in : ℕ → (ℕ → Campaign) → ℕ → Bool
no_counts_in n f m = every m (λ i. cond (ltb i n) true (uncounted (f i)))

abbrev pub untouched_columns : Phase → ℕ → (ℕ → Campaign) → Bool
untouched_columns Filling n f = no_counts_in 0 f n
untouched_columns Running n f = true
untouched_columns (Closed x) n f = true

unfoldable pub empty_from : ℕ → (ℕ → Campaign) → Bool
empty_from n f = every max_campaigns (λ i. cond (ltb i n) true (empty (f i)))

-- all tests by columns
abbrev pub columns_hold : Phase → Plan → (accepted n : ℕ) → (ℕ → Campaign) → Bool
columns_hold p pl a n f = priced_columns n f && ordered_columns pl.depth a n f && untouched_columns p n f &&
    empty_from n f

-- the bounds under which the figures fit
pub record Bounded (s : Sums) : Type 0 where
  pub takings_bound : s.takings ≤ max_budget
  pub turned_bound : s.turned ≤ max_campaigns * (max_price * max_views)
  pub waited_bound : s.waited ≤ max_column * max_price

-- the total claim of the sums, against full
abbrev pub claim_sum : Plan → Sums → ℕ
claim_sum pl s = s.turned * share pl.depth pl.width + s.waited

abbrev pub claim_figures : Plan → Sums → Audit
claim_figures pl s = record {
  budgets = s.budgets;
  takings = s.takings;
  claim = claim_sum pl s;
  full = full pl s.takings;
}

unfoldable pub claim_checked : Plan → Sums → Option Audit
claim_checked pl s = cond (leb (claim_sum pl s) (full pl s.takings)) (Some (claim_figures pl s)) not_sound
