-- The floor is met exactly: the day of each row is read off, and the tests that make it one are computed.
use mathlib.Core.Path.{◌≡◌, refl, ap, subst⁻¹}
use mathlib.Core.Bool.{Bool, true, not}
use mathlib.Core.List.{List, [], ◌∷◌, map}
use Prim.Native.Nat.{ℕ, ◌+◌, ◌*◌}
use lib.Dec.{leb, ltb, eqb}
use lib.ListN.{get_or, length}
use borrow.Author.Tests.{leb-true, le-leb, ltb-true, eqb-true, not-true}
use Rattle.finite.specs.Finite.{sum, count, every, all, table, total}
use Rattle.finite.proofs.Tests.{never, all_parts, every_at}
use Rattle.sets.specs.Set.{member, size, within, collect, without, including}
use Rattle.powers.specs.Power.{weight, share}
use Rattle.allotments.specs.Allotment.{times, nobody, takings, entry_fits}
use Rattle.allotments.proofs.Takings.{entry_given}
use Rattle.campaigns.specs.Choice.{best, choice}
use Rattle.campaigns.specs.Campaign.{whole, claim, sound_plan, priced, counted, uncounted, empty, sound_campaign}
use Rattle.campaigns.specs.View.{full}
use Rattle.audit.specs.Sound.{sound_record}
use Rattle.day.specs.Day.{blank, total_takings, total_claim, total_budgets}
use Rattle.day.specs.Day.{sound}
use Rattle.questions.specs.Questions.{first_failed, width_holds}
use Rattle.day.specs.Calls.{marked, call}
use Rattle.demands.specs.Transcript.{transcript}
use Rattle.floor.specs.History.{History, day_takings, continued, history}
use Rattle.floor.specs.History.Starts.{from_blank}
use Rattle.floor.specs.Floor.{price_of, whole_of, falls_short, names_at, Allotted, takings_of}
use Rattle.floor.specs.Tight.{Met, Exact, exact_days, exact_calls, answers_of, Tight, ExactDaysTight}

-- the tests that a computed day passes
abbrev met_tests : History → (ℕ → ℕ) → List Bool
met_tests h to =
    every (length h.terms) (λ i. not (falls_short h i)) ∷ ltb 0 (day_takings h) ∷ every (length h.views)
    (λ j. entry_fits (names_at h j) (to j)) ∷
    every (length h.terms) (λ i. leb (times (length h.views) to i) (whole_of h i)) ∷
    eqb (share h.plan.depth h.plan.width * takings_of h (price_of h) to)
    (full h.plan (day_takings h)) ∷
    not (leb (share h.plan.depth h.plan.width * (takings_of h (price_of h) to + 1))
    (full h.plan (day_takings h))) ∷ []

-- an allotment, by two tests
pub allotted_of : (h : History) (to : ℕ → ℕ)
    → every (length h.views) (λ j. entry_fits (names_at h j) (to j)) ≡ true
    → every (length h.terms) (λ i. leb (times (length h.views) to i) (whole_of h i)) ≡ true → Allotted h to
allotted_of h to g b = record {
  given =
      λ j l.
      entry_given (names_at h j) (to j)
      (every_at (length h.views) (λ j. entry_fits (names_at h j) (to j)) g j l);
  bought =
      λ i l.
      leb-true (times (length h.views) to i) (whole_of h i)
      (every_at (length h.terms) (λ i. leb (times (length h.views) to i) (whole_of h i)) b i l);
}

met_of : (h : History) (to : ℕ → ℕ) → all (met_tests h to) ≡ true → Met h to
met_of h to e =
    let p = all_parts (met_tests h to) e in
    record {
      none_short =
          λ i l. not-true (falls_short h i) (every_at (length h.terms) (λ i. not (falls_short h i)) p.0 i l);
      paying = ltb-true 0 (day_takings h) p.1.0;
      allotted = allotted_of h to p.1.1.0 p.1.1.1.0;
      equal = eqb-true _ _ p.1.1.1.1.0;
      not_more = λ l. never _ (not-true _ p.1.1.1.1.1.0) (le-leb _ _ l);
    }

-- the day of a row, read off the row
day_of : Exact → History
day_of x = record {
  plan = record { depth = x.depth; width = x.width };
  terms = table x.campaigns (λ i. record { price = 1; budget = 1 });
  paused = 0;
  views = map (λ v. record { set = v }) x.views;
  answers = answers_of x;
}

abbrev Computed : List Exact → Type 0
Computed [] = Unit {0}
Computed (x ∷ xs) =
    ((history (transcript blank (exact_calls x)) ≡ day_of x)
    × (all (met_tests (day_of x) (λ j. get_or x.to j nobody)) ≡ true)) × Computed xs

tight_of : (xs : List Exact) → Computed xs → Tight xs
unfolding day_of
tight_of [] c = tt
tight_of (x ∷ xs) c = (
  (
    from_blank (exact_calls x),
    ap (λ (h : History). h.answers) c.0.0,
    subst⁻¹ (λ (h : History). Met h (λ j. get_or x.to j nobody)) c.0.0
        (met_of (day_of x) (λ j. get_or x.to j nobody) c.0.1),
  ),
  tight_of xs c.1,
)

pub tight : ExactDaysTight
unfolding day_of transcript continued call first_failed sound sound_record blank sum count every table total within
    size member width_holds weight share whole claim total_takings total_claim total_budgets sound_plan priced counted
    uncounted empty sound_campaign best choice times takings collect without including marked
tight = tight_of exact_days
    ((refl, refl), ((refl, refl), ((refl, refl), ((refl, refl), ((refl, refl), ((refl, refl), tt))))))
