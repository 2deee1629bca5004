-- The lines of the campaigns, from the last to the first. The loop's invariant: those from i on stand over spaces.
use mathlib.Core.Path.{◌≡◌, sym, ap, ◌∙◌, subst}
use mathlib.Core.List.{List, [], ◌∷◌, ◌++◌}
use Prim.Native.Nat.{ℕ, suc, ◌+◌, ◌*◌, ◌-◌, ◌<◌}
use native.Mathlib.Omega.{arith}
use lib.ListN.{drop}
use Rattle.finite.specs.Finite.{table}
use Rattle.campaigns.specs.declared.Campaign.{Campaign}
use Rattle.campaigns.specs.Campaign.{campaign_at}
use Rattle.page.specs.Page.{Row, RowFits, line_length, row_text, row_lines}
use Rattle.page.specs.Figures.{page_row}
use Rattle.page.specs.Cited.{Lays}
use Rattle.page.proofs.Lays.{lays_none, lays_before, rows_none, rows_before}
use Rattle.page.proofs.put_rows.Invariants.{rows_of}
use Rattle.page.proofs.put_rows.Goals as goal

pub loop-i-init : goal.loop-i-init
loop-i-init c =
    let a = c.args in
    let f : ℕ → Row = λ i. page_row (campaign_at a.terms.now a.counts.now i) in
    subst (Lays a.out.now a.out.now (line_length * a.n) (line_length * a.n)) (rows_none a.n f)
    (lays_none a.out.now (line_length * a.n))

pub put_row-requires : goal.put_row-requires
put_row-requires c =
    let o = c.loop-i in
    let fits = c.requires.all_fit (o.i - 1) (omega arith) in (
      (omega arith, omega (arith, o.invariant.same, c.requires.room)),
      omega (arith, c.requires.few),
      subst (λ (x : Campaign). RowFits (page_row x)) (sym c.entry.ensures.0) fits,
    )

-- the line of campaign j before those from i on
one_more : {d e g : List ℕ} (n : ℕ) (f : ℕ → Row) (j i : ℕ) {r : Row} → j < n → i ≡ suc j
    → Lays d e (line_length * i) (line_length * n) (row_lines i (drop i (table n f))) → r ≡ f j
    → Lays e g (line_length * i - line_length) (line_length * i) (row_text j r ++ (10 ∷ []))
    → Lays d g (line_length * j) (line_length * n) (row_lines j (drop j (table n f)))
one_more {d} {e} {g} n f j i {r} h s p q l =
    let at : line_length * i - line_length ≡ line_length * j = omega arith in
    let all = lays_before p l in
    let text : (row_text j r ++ (10 ∷ [])) ++ row_lines i (drop i (table n f)) ≡ row_lines j (drop j (table n f)) =
    ap (λ (x : Row). (row_text j x ++ (10 ∷ [])) ++ row_lines i (drop i (table n f))) q
    ∙ ap (λ (k : ℕ). (row_text j (f j) ++ (10 ∷ [])) ++ row_lines k (drop k (table n f))) s
    ∙ rows_before n f j h in
    subst (λ (k : ℕ). Lays d g k (line_length * n) (row_lines j (drop j (table n f)))) at
    (subst (Lays d g (line_length * i - line_length) (line_length * n)) text all)

pub loop-i-preserved : goal.loop-i-preserved
loop-i-preserved c =
    let a = c.args in
    let o = c.loop-i in
    let f : ℕ → Row = λ i. page_row (campaign_at a.terms.now a.counts.now i) in
    let s : o.i ≡ suc (o.i - 1) = omega arith in
    let k : o.i - 1 + 1 ≡ o.i = omega arith in
    one_more a.n f (o.i - 1) o.i (omega arith) s o.invariant (ap page_row c.entry.ensures.0) (rw k at c.put_row.ensures)

pub returns : goal.returns
returns c =
    let a = c.args in
    let o = c.loop-i in
    let e : o.i ≡ 0 = omega arith in
    subst (λ (k : ℕ). Lays a.out.now o.out (line_length * k) (line_length * a.n)
    (row_lines k (drop k (rows_of a.n a.terms.now a.counts.now)))) e o.invariant
