-- An accepted adding: question 7 leaves room for the entry, 8 and 9 make its terms fit 32 bits, and the two writes are
-- the campaigns with one more.
use mathlib.Core.Path.{◌≡◌, ap, sym, ◌∙◌}
use mathlib.Core.List.{List}
use native.Mathlib.Omega.{arith}
use Prim.Native.Nat.{ℕ, ◌+◌, ◌<◌, ◌≤◌}
use lib.Dec.{leb}
use lib.ListN.{set}
use borrow.Author.Tests.{leb-true, ltb-true}
use Rattle.std.specs.Prelude.{Result}
use Rattle.refusal.specs.declared.Refusal.{Refusal}
use Rattle.campaigns.specs.declared.Phase.{Phase}
use Rattle.campaigns.specs.declared.Terms.{Terms}
use Rattle.campaigns.specs.Campaign.{campaign_at}
use Rattle.campaigns.specs.Limits.{max_price, max_budget}
use Rattle.campaigns.specs.View.{budgets}
use Rattle.campaigns.proofs.Meanings.{filling_means}
use Rattle.finite.proofs.Tests.{both_right}
use Rattle.questions.specs.Questions.{first_failed, verdict, add_questions}
use Rattle.day.specs.declared.Answer.TheVariants.{Done}
use Rattle.day.specs.declared.Day.{Day}
use Rattle.day.specs.declared.Outcome.{Outcome}
use Rattle.day.specs.Day.{state_of, head_of, total_budgets}
use Rattle.day.specs.Calls.{own_questions, questions}
use Rattle.day.specs.Calls.Call.{add_campaign}
use Rattle.day.proofs.State.{sound_facts, joined_is}
use Rattle.day.proofs.Questions.{Yes, call_yes}
use Rattle.day.proofs.Steps.{verdict_refused, verdict_yes}
use Rattle.day.proofs.ops.add_sound.Goals as goal
use Rattle.day.proofs.ops.add_sound.Goals.{In_default}

-- the questions of the state, by the sum of the budgets that was added up
asked : (s : Day) (t : Terms) {o : Result Unit Refusal} {b : ℕ} → b ≡ budgets s.count (campaign_at s.terms s.counts)
    → o ≡ verdict (first_failed (add_questions (head_of s) t b))
    → o ≡ verdict (first_failed (own_questions s (add_campaign t)))
unfolding total_budgets
asked s t b e = e ∙ ap (λ (x : ℕ). verdict (first_failed (add_questions (head_of s) t x))) b

yes : (c : In_default) → let a = c.args in
    Yes (questions (state_of a.head a.terms.now a.counts.now) (add_campaign a.t))
yes c =
    let a = c.args in
    verdict_yes a.head a.terms.now a.counts.now (add_campaign a.t) c.requires.is_sound
    (asked (state_of a.head a.terms.now a.counts.now) a.t c.total_budgets-budgets.ensures.0 c.add_question.ensures)
    c.in_default.is

-- what they leave for the two writes
record Room (count price budget : ℕ) : Type 0 where
  below : count < 64
  price_narrow : price ≤ max_price
  budget_narrow : budget ≤ max_budget

room : (c : In_default) → Room c.args.head.count c.args.t.price c.args.t.budget
room c =
    let t = c.args.t in
    let y = yes c in
    record {
      below = ltb-true c.args.head.count 64 y.1.1.0;
      price_narrow = leb-true t.price max_price (both_right (leb 1 t.price) (leb t.price max_price) y.1.1.1.0);
      budget_narrow =
          leb-true t.budget max_budget (both_right (leb t.price t.budget) (leb t.budget max_budget) y.1.1.1.1.0);
    }

pub total_budgets-budgets-requires : goal.total_budgets-budgets-requires
total_budgets-budgets-requires c =
    (sound_facts (state_of c.args.head c.args.terms.now c.args.counts.now) c.requires.is_sound).few

pub add_question-requires : goal.add_question-requires
add_question-requires c = c.total_budgets-budgets.ensures.1

pub returns-in-Err : goal.returns-in-Err
returns-in-Err c =
    let a = c.args in
    verdict_refused a.head a.terms.now a.counts.now (add_campaign a.t) c.requires.is_sound
    (asked (state_of a.head a.terms.now a.counts.now) a.t c.total_budgets-budgets.ensures.0 c.add_question.ensures)
    c.in-Err.is c.refused.ensures

pub overflow_cast-terms : goal.overflow_cast-terms
overflow_cast-terms c = omega (arith, (room c.before).price_narrow)

pub offset_bounds-terms-at : goal.offset_bounds-terms-at
offset_bounds-terms-at c = omega (arith, (room c.before).below)

pub bounds-terms-at : goal.bounds-terms-at
bounds-terms-at c = omega (arith, (room c.before.before).below)

pub overflow_cast-terms-2 : goal.overflow_cast-terms-2
overflow_cast-terms-2 c = omega (arith, (room c.before.before.before).budget_narrow)

pub overflow_add-terms : goal.overflow_add-terms
overflow_add-terms c = omega (arith, (room c.before.before.before).below)

pub offset_bounds-terms-at-2 : goal.offset_bounds-terms-at-2
offset_bounds-terms-at-2 c = omega (arith, (room c.before.before.before).below)

pub bounds-terms-at-2 : goal.bounds-terms-at-2
bounds-terms-at-2 c = omega (arith, (room c.before.before.before).below)

pub overflow_add-result : goal.overflow_add-result
overflow_add-result c = omega (arith, (room c.before.before.before.before).below)

-- the outcome in the phase p, with the terms l
abbrev joined : Day → List ℕ → Phase → Outcome
joined s l p = record {
  day = record {
    phase = p;
    plan = s.plan;
    count = s.count + 1;
    accepted = s.accepted;
    paused = s.paused;
    terms = l;
    counts = s.counts;
  };
  answer = Done;
}

pub returns : goal.returns
returns c =
    let past = c.before.before.before.before.before in
    let a = c.args in
    let s = state_of a.head a.terms.now a.counts.now in
    ap (joined s (set (set s.terms s.count a.t.price) (s.count + 64) a.t.budget))
    ((filling_means a.head.phase).0 (yes past).1.0)
    ∙ ap (λ (d : Day). record { day = d; answer = Done })
    (joined_is s a.t c.requires.room (sound_facts s c.requires.is_sound) (room past).below)
    ∙ sym (call_yes s (add_campaign a.t) (yes past))
