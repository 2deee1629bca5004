-- What is promised of every page. The figures of a sound state fit because its limits are below what the columns hold:
-- a campaign has paid at most its budget, and all have paid at most the budgets' sum.
use mathlib.Core.Path.{◌≡◌, refl, sym, ap, ◌∙◌, subst}
use mathlib.Core.Bool.{Bool, true, false, cond}
use mathlib.Core.List.{List, [], ◌∷◌}
use Prim.Native.Nat.{ℕ, zero, suc, ◌+◌, ◌*◌, ◌≤◌, ◌<◌}
use native.Mathlib.Omega.{arith}
use lib.Dec.{leb, eqb}
use lib.ListN.{length, drop}
use lib.Seq.{take_at, drop_at}
use borrow.Author.Tests.{leb-true, eqb-true, le-leb, lt-leb}
use Rattle.finite.specs.Finite.{table}
use Rattle.finite.proofs.Sums.{sum_le}
use Rattle.finite.proofs.Tables.{get_or_table, length_table}
use Rattle.finite.proofs.Tests.{both_right}
use Rattle.campaigns.specs.declared.Campaign.{Campaign}
use Rattle.campaigns.specs.Campaign.{spending, priced, price_fits, budget_fits}
use Rattle.campaigns.proofs.Laws.{spending_within}
use Rattle.day.specs.declared.Day.{Day}
use Rattle.day.specs.Day.{campaign, total_takings, total_budgets}
use Rattle.day.specs.Day.{sound}
use Rattle.questions.specs.Questions.{first_failed}
use Rattle.day.proofs.State.{Sound, sound_facts, held_at}
use Rattle.refusal.specs.Refusal.{refusal}
use Rattle.std.specs.Prelude.{Ok, Err}
use Rattle.page.specs.Page.{Row, RowFits, AllFit, FiguresFit, line_length, page, read_page}
use Rattle.page.specs.Figures.{page_row, figures}
use Rattle.page.specs.Printing.{page_of, page_question, printing, printed, number, values, Tells}
use Rattle.page.specs.Promises.{TotalShows, PageShows, Promises}
use Rattle.page.proofs.ReadBack.{RowShows, no_row, page_length, page_back, page_row_shows, page_total_shows}
use Rattle.page.proofs.ReadBack.{page_ended}

-- the budget of a priced campaign
priced_budget : (c : Campaign) → priced c ≡ true → c.budget ≤ 2_000_000_000
unfolding priced
priced_budget c e =
    let fits = both_right (price_fits c.price) (budget_fits c.price c.budget) e in
    leb-true c.budget 2_000_000_000 (both_right (leb c.price c.budget) (leb c.budget 2_000_000_000) fits)

-- the rows of a table fit where each does
pub table_fits : (n : ℕ) (f : ℕ → Row) → ((i : ℕ) → i < n → RowFits (f i)) → AllFit (table n f)
unfolding table
table_fits zero f h = tt
table_fits (suc n) f h = (h 0 (omega arith), table_fits n (λ i. f (suc i)) (λ i l. h (suc i) (omega arith)))

module _ (s : Day) (h : Sound s) where
  -- of each campaign
  pub row_fits : (i : ℕ) → i < s.count → RowFits (page_row (campaign s i))
  row_fits i l =
      let c = campaign s i in
      let k = held_at s h i l in
      let budget = priced_budget c k.is_priced in
      record {
        plays_fit = omega (arith, k.plays_turns, k.turns_named, k.named_accepted, h.views);
        price_fits = omega (arith, k.price_most);
        paid_fits = omega (arith, spending_within c k.price_least k.within_whole, budget);
        named_fit = omega (arith, k.named_accepted, h.views);
      }

  -- and of all
  pub takings_fit : total_takings s ≤ 2_000_000_000
  unfolding total_takings total_budgets
  takings_fit =
      omega (
        arith,
        h.budgets,
        sum_le s.count (λ i. spending (campaign s i)) (λ i. (campaign s i).budget)
            (λ i l. let k = held_at s h i l in spending_within (campaign s i) k.price_least k.within_whole),
      )

pub sound_fits : (s : Day) → sound s ≡ true → FiguresFit (figures s)
unfolding figures
sound_fits s e =
    let h = sound_facts s e in
    record {
      few = omega (arith, length_table s.count (λ i. page_row (campaign s i)), h.few);
      rows_fit = table_fits s.count (λ i. page_row (campaign s i)) (row_fits s h);
      takings_fit = omega (arith, takings_fit s h);
    }

-- line i of a sound state's page shows campaign i
line_shows : (s : Day) → sound s ≡ true → (i : ℕ) → i < s.count
    → RowShows i (page_row (campaign s i)) (drop (line_length * i) (page_of s))
unfolding figures
line_shows s e i l =
    let f = figures s in
    let row : ℕ → Row = λ j. page_row (campaign s j) in
    let n : i < length f.rows = omega (arith, length_table s.count row, l) in
    subst (λ (r : Row). RowShows i r (drop (line_length * i) (page f))) (get_or_table s.count row no_row i l)
    (page_row_shows f (sound_fits s e) i n)

shows : (s : Day) → sound s ≡ true → PageShows s (page_of s)
unfolding figures
shows s e =
    let f = figures s in
    let fits = sound_fits s e in
    let n : length f.rows ≡ s.count = length_table s.count (λ i. page_row (campaign s i)) in
    record {
      length_is = page_length f fits ∙ ap (λ (k : ℕ). line_length * (k + 1)) n;
      campaigns_are = line_shows s e;
      total_is =
          subst (λ (k : ℕ). TotalShows f.takings (drop (line_length * k) (page f))) n (page_total_shows f fits);
    }

tells : (s : Day) (d : List ℕ) → Tells s d
unfolding printing printed page_question first_failed
tells s d = record {
  number_is = numbered (eqb q 0) refl;
  values_are = valued (eqb q 0);
  unsound = λ e. (rw e, rw e);
  no_room = λ e l. let f = lt-leb (length (page_of s)) (length d) l in (rw (e, f), rw (e, f));
  fills = λ e l.
      let n = length (page_of s) in
      let f = le-leb n (length d) l in
      (rw (e, f), rw (e, f) (take_at (page_of s) (drop n d) n refl), rw (e, f) (drop_at (page_of s) (drop n d) n refl));
}
  where
    q : ℕ
    q = page_question s d

    numbered : (t : Bool) → eqb q 0 ≡ t → number (cond t (Ok (length (page_of s))) (Err (refusal q))) ≡ q
    numbered true e = sym (eqb-true q 0 e)
    numbered false e = refl

    valued : (t : Bool) → values (cond t (Ok (length (page_of s))) (Err (refusal q)))
        ≡ cond t (length (page_of s) ∷ []) (q ∷ [])
    valued true = refl
    valued false = refl

pub promises : Promises
promises = record {
  shows = shows;
  none_overflows = sound_fits;
  lines_are = page_length;
  ends_are = page_ended;
  reads_back = page_back;
  prints_once = λ f g h k e. sym (page_back f h) ∙ ap read_page e ∙ page_back g k;
  tells = tells;
}
