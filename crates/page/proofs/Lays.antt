-- Lines over spaces: the columns of a line, put from the last to the first, make the line, and a line goes before those
-- that stand.
use mathlib.Core.Path.{◌≡◌, refl, sym, ap, ◌∙◌, subst}
use mathlib.Core.List.{List, [], ◌∷◌, ◌++◌, append_assoc}
use Prim.Native.Nat.{ℕ, suc, ◌+◌, ◌-◌, ◌/◌, ◌%◌, ◌^◌, ◌≤◌, ◌<◌}
use native.Mathlib.Omega.{arith}
use lib.ListN.{length, drop, replicate, set, length-set, length-replicate}
use lib.ListN.{length-append, length-drop, drop_of_length-le}
use lib.Seq.{drop-cons}
use Rattle.finite.specs.Finite.{table}
use Rattle.finite.proofs.Tables.{get_or_table, length_table}
use Rattle.buffer.specs.Buffer.{Put}
use Rattle.buffer.proofs.Puts.{put_none, put_byte, put_before}
use Rattle.lines.specs.Numeral.{numeral}
use Rattle.lines.specs.Form.{bytes}
use Rattle.page.specs.Page.{Row, RowFits, line_length, flush, cents, row_text, total_text, row_lines}
use Rattle.page.specs.Cited.{Spaced, Lays, LineRoom}
use Rattle.page.proofs.Texts.{number_3, number_6, cents_11, cents_14}
use Rattle.page.proofs.Spaces.{spaced_gap, spaced_flush, spaced_byte}

pub cleared_length : {e : List ℕ} (d : List ℕ) (n : ℕ) → n ≤ length d → e ≡ replicate n 32 ++ drop n d
    → length e ≡ length d
cleared_length d n h p =
    omega (
      arith,
      ap length p,
      length-append (replicate {A = ℕ} n 32) (drop n d),
      length-replicate {A = ℕ} n 32,
      length-drop n d,
    )

-- An amount: two decimals, a point and the units.

pub cents_put : {d e : List ℕ} {r to : ℕ} (n : ℕ) → 3 ≤ to → to ≤ length d
    → Put (set (set (set d (to - 1) (48 + n % 100 % 10)) (to - 2) (48 + n % 100 / 10)) (to - 3) 46) e r (to - 3)
    (numeral (n / 100)) → Put d e r to (cents n)
unfolding cents
cents_put {d} {e} {r} {to} n h l p =
    let f₁ : n % 100 % 10 ≡ n % 10 = omega arith in
    let f₂ : n % 100 / 10 ≡ n / 10 % 10 = omega arith in
    let f₃ : to - 2 ≡ to - 1 - 1 = omega arith in
    let f₄ : to - 3 ≡ to - 1 - 1 - 1 = omega arith in
    let ones = put_byte (48 + n % 10) (put_none d to) (omega arith) l in
    let tens = put_byte (48 + n / 10 % 10) ones (omega arith) (omega arith) in
    let point = put_byte 46 tens (omega arith) (omega arith) in
    put_before point (rw (f₁, f₂, f₃, f₄) at p)

-- The columns of a line.

module _ {d : List ℕ} {to : ℕ} (room : LineRoom d to) where
  pub row_laid : {d₁ d₂ d₃ d₄ d₅ : List ℕ} {a₁ a₂ a₃ a₄ a₅ : ℕ} (i : ℕ) (r : Row) → i < 10 ^ 3 → RowFits r
      → Put (set d (to - 1) 10) d₁ a₁ (to - 1) (numeral r.named) → Put d₁ d₂ a₂ (to - 7) (cents r.paid)
      → Put d₂ d₃ a₃ (to - 21) (cents r.price) → Put d₃ d₄ a₄ (to - 32) (numeral r.plays)
      → Put d₄ d₅ a₅ (to - 38) (numeral i) → Lays d d₅ (to - line_length) to (row_text i r ++ (10 ∷ []))
  unfolding row_text
  row_laid i r k h p₁ p₂ p₃ p₄ p₅ = record {
    same = p₅.same ∙ p₄.same ∙ p₃.same ∙ p₂.same ∙ p₁.same ∙ length-set d (to - 1) 10;
    lays = λ w s.
        let end = spaced_byte 10 (omega arith) room.1 s in
        let named = spaced_flush (to - 7) 35 40 (omega arith) (number_6 r.named h.named_fit) p₁ end in
        let paid = spaced_flush (to - 21) 21 34 (omega arith) (cents_14 r.paid h.paid_fits) p₂ named in
        let price = spaced_flush (to - 32) 10 20 (omega arith) (cents_11 r.price h.price_fits) p₃ paid in
        let plays = spaced_flush (to - 38) 4 9 (omega arith) (number_6 r.plays h.plays_fit) p₄ price in
        let number = spaced_flush (to - line_length) 1 3 (omega arith) (number_3 i k) p₅ plays in
        record { is = number.is ∙ simp append_assoc };
  }

  pub total_laid : {d₁ d₂ : List ℕ} {a₁ a₂ : ℕ} (t : ℕ) → t < 10 ^ 13
      → Put (set d (to - 1) 10) d₁ a₁ (to - 7) (cents t) → Put d₁ d₂ a₂ (to - 36) (bytes "total")
      → Lays d d₂ (to - line_length) to (total_text t ++ (10 ∷ []))
  unfolding total_text flush
  total_laid t h p₁ p₂ = record {
    same = p₂.same ∙ p₁.same ∙ length-set d (to - 1) 10;
    lays = λ w s.
        let end = spaced_byte 10 (omega arith) room.1 s in
        let right = spaced_gap (to - 7) 6 (omega arith) end in
        let amount = spaced_flush (to - 21) 21 34 (omega arith) (cents_14 t h) p₁ right in
        let left = spaced_gap (to - 36) 15 (omega arith) amount in
        let word = spaced_flush (to - line_length) 1 5 (omega arith) (omega arith) p₂ left in
        record { is = word.is ∙ simp append_assoc };
  }

-- One line before others.

pub lays_none : (d : List ℕ) (to : ℕ) → Lays d d to to []
lays_none d to = record { same = refl; lays = λ w s. s }

pub lays_before : {d e f : List ℕ} {at mid to : ℕ} {l u : List ℕ}
    → Lays d e mid to l → Lays e f at mid u → Lays d f at to (u ++ l)
lays_before {d} {e} {f} {at} {mid} {to} {l} {u} p q = record {
  same = q.same ∙ p.same;
  lays = λ w s.
      subst (Spaced f at) (sym (append_assoc u l w)) (q.lays (l ++ w) (p.lays w s));
}

-- the rows from i on: none, and one more
pub rows_none : (n : ℕ) (f : ℕ → Row) → [] ≡ row_lines n (drop n (table n f))
unfolding row_lines
rows_none n f =
    ap (row_lines n) (sym (drop_of_length-le (table n f) {i = n} (omega (arith, length_table n f))))

pub rows_before : (n : ℕ) (f : ℕ → Row) (j : ℕ) → j < n
    → (row_text j (f j) ++ (10 ∷ [])) ++ row_lines (suc j) (drop (suc j) (table n f)) ≡ row_lines j (drop j (table n f))
unfolding row_lines
rows_before n f j h =
    let rs = table n f in
    append_assoc (row_text j (f j)) (10 ∷ []) (row_lines (suc j) (drop (suc j) rs))
    ∙ ap (λ (r : Row). row_text j r ++ (10 ∷ row_lines (suc j) (drop (suc j) rs))) (sym (get_or_table n f (f 0) j h))
    ∙ ap (row_lines j) (sym (drop-cons rs j (f 0) (omega (arith, length_table n f))))
