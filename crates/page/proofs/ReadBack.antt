-- The figures and the campaign numbers stand flush right in their columns and are read back from the bytes of a page,
-- those of line i from that line alone, and byte 10 ends each line and stands nowhere else. All go line by line from
-- the front: a line has 41 bytes, and its columns stand at fixed places.
use mathlib.Core.Path.{◌≡◌, refl, sym, ap, ap₂, ◌∙◌, subst}
use mathlib.Core.Bool.{Bool, true, false}
use mathlib.Core.List.{List, [], ◌∷◌, ◌++◌, append_assoc}
use Prim.Native.Nat.{ℕ, zero, suc, ◌+◌, ◌*◌, ◌-◌, ◌/◌, ◌%◌, ◌^◌, ◌≤◌, ◌<◌}
use native.Mathlib.Omega.{arith}
use lib.Dec.{ltb, eqb}
use lib.ListN.{length, take, drop, get_or, length-append, get_or-append}
use lib.Seq.{take_at, drop_at, drop-cons, drop-drop, get_or_at, get_or-append-add}
use borrow.Author.Tests.{ltb-true, ltb-false, eqb-true, eqb-false, eq-eqb, ne_eqb}
use Rattle.lines.specs.Numeral.{numeral}
use Rattle.lines.specs.Form.{bytes}
use Rattle.lines.proofs.Plain.{plain, plain_at}
use Rattle.page.specs.Page.{Row, Figures, line_length, flush, spaces, cents, row_text, total_text, row_lines}
use Rattle.page.specs.Page.{page, RowFits, AllFit, FiguresFit, text_in}
use Rattle.page.specs.Page.{read_row, with_row, read_lines, read_page}
use Rattle.page.specs.Promises.{LineShows, TotalShows}
use Rattle.page.proofs.Texts.{flush_length, number_3, number_6, cents_11, cents_14, row_length, total_length}
use Rattle.page.proofs.Texts.{row_plain, total_plain, shows_number, shows_amount}

-- the bytes t behind p
column_at : (p t q : List ℕ) (k w : ℕ) → length p ≡ k → length t ≡ w → take w (drop k (p ++ (t ++ q))) ≡ t
column_at p t q k w e f = ap (take w) (drop_at p (t ++ q) k e) ∙ take_at t q w f

-- A line of a campaign.

-- the line at the front of l shows the row r of campaign i
abbrev pub RowShows : ℕ → Row → List ℕ → Type 0
RowShows i r l = LineShows i r.plays r.price r.paid r.named l

same_row : (r : Row) {a b c d : ℕ} → a ≡ r.plays → b ≡ r.price → c ≡ r.paid → d ≡ r.named
    → record { plays = a; price = b; paid = c; named = d } ≡ r
same_row r e f g h = rw (e, f, g, h)

module _ (i : ℕ) (r : Row) (k : i < 10 ^ 3) (h : RowFits r) (m : List ℕ) where
  row_shows : RowShows i r (row_text i r ++ m)
  unfolding row_text
  row_shows =
      let number = flush 1 3 (numeral i) in
      let plays = flush 4 9 (numeral r.plays) in
      let price = flush 10 20 (cents r.price) in
      let paid = flush 21 34 (cents r.paid) in
      let named = flush 35 40 (numeral r.named) in
      let l₁ = flush_length 1 3 (numeral i) (number_3 i k) in
      let l₂ = flush_length 4 9 (numeral r.plays) (number_6 r.plays h.plays_fit) in
      let l₃ = flush_length 10 20 (cents r.price) (cents_11 r.price h.price_fits) in
      let l₄ = flush_length 21 34 (cents r.paid) (cents_14 r.paid h.paid_fits) in
      let l₅ = flush_length 35 40 (numeral r.named) (number_6 r.named h.named_fit) in
      let n₂ : length (number ++ plays) ≡ 9 = omega (arith, length-append number plays) in
      let n₃ : length ((number ++ plays) ++ price) ≡ 20 = omega (arith, n₂, length-append (number ++ plays) price) in
      let n₄ : length (((number ++ plays) ++ price) ++ paid) ≡ 34 =
      omega (arith, n₃, length-append ((number ++ plays) ++ price) paid) in
      let e₁ : row_text i r ++ m ≡ number ++ (plays ++ (price ++ (paid ++ (named ++ m)))) = simp append_assoc in
      let e₃ : row_text i r ++ m ≡ (number ++ plays) ++ (price ++ (paid ++ (named ++ m))) = simp append_assoc in
      let e₄ : row_text i r ++ m ≡ ((number ++ plays) ++ price) ++ (paid ++ (named ++ m)) = simp append_assoc in
      let e₅ : row_text i r ++ m ≡ (((number ++ plays) ++ price) ++ paid) ++ (named ++ m) = simp append_assoc in
      let c₁ = ap (text_in 1 3) e₁ ∙ column_at [] number (plays ++ (price ++ (paid ++ (named ++ m)))) 0 3 refl l₁ in
      let c₂ = ap (text_in 4 9) e₁ ∙ column_at number plays (price ++ (paid ++ (named ++ m))) 3 6 l₁ l₂ in
      let c₃ = ap (text_in 10 20) e₃ ∙ column_at (number ++ plays) price (paid ++ (named ++ m)) 9 11 n₂ l₃ in
      let c₄ = ap (text_in 21 34) e₄ ∙ column_at ((number ++ plays) ++ price) paid (named ++ m) 20 14 n₃ l₄ in
      let c₅ = ap (text_in 35 40) e₅ ∙ column_at (((number ++ plays) ++ price) ++ paid) named m 34 6 n₄ l₅ in
      record {
        number_is = shows_number 1 3 i (omega arith) c₁;
        plays_are = shows_number 4 9 r.plays (omega (arith, h.plays_fit)) c₂;
        price_is = shows_amount 10 20 r.price (omega (arith, h.price_fits)) c₃;
        paid_is = shows_amount 21 34 r.paid (omega (arith, h.paid_fits)) c₄;
        named_are = shows_number 35 40 r.named (omega (arith, h.named_fit)) c₅;
      }

  read_back : read_row (row_text i r ++ m) ≡ r
  read_back =
      let s = row_shows in
      same_row r s.plays_are.figure_is s.price_is.figure_is s.paid_is.figure_is s.named_are.figure_is

-- The last line.

total_shows : (t : ℕ) (m : List ℕ) → t < 10 ^ 13 → TotalShows t (total_text t ++ m)
unfolding total_text
total_shows t m h =
    let front = bytes "total" ++ spaces 6 20 in
    let amount = flush 21 34 (cents t) in
    let l = flush_length 21 34 (cents t) (cents_14 t h) in
    let n : length (front ++ amount) ≡ 34 = omega (arith, length-append front amount) in
    let e : total_text t ++ m ≡ front ++ (amount ++ (spaces 35 40 ++ m)) = simp append_assoc in
    let f : total_text t ++ m ≡ (front ++ amount) ++ (spaces 35 40 ++ m) = simp append_assoc in
    record {
      word_is = refl;
      takings_are =
          shows_amount 21 34 t (omega arith)
          (ap (text_in 21 34) e ∙ column_at front amount (spaces 35 40 ++ m) 20 14 refl l);
      spaces_are = (refl, ap (text_in 35 40) f ∙ column_at (front ++ amount) (spaces 35 40) m 34 6 n refl);
    }

-- All lines.

-- a line and what follows it
line_then : (t : List ℕ) (m : List ℕ) → length t ≡ 40 → drop line_length (t ++ (10 ∷ m)) ≡ m
line_then t m e =
    ap (drop line_length) (sym (append_assoc t (10 ∷ []) m))
    ∙ drop_at (t ++ (10 ∷ [])) m line_length (omega (arith, length-append t (10 ∷ [])))

rows_then : (i : ℕ) (r : Row) (rs : List Row) (m : List ℕ)
    → row_lines i (r ∷ rs) ++ m ≡ row_text i r ++ (10 ∷ (row_lines (suc i) rs ++ m))
unfolding row_lines
rows_then i r rs m = append_assoc (row_text i r) (10 ∷ row_lines (suc i) rs) m

rows_next : (i : ℕ) (r : Row) (rs : List Row) (m : List ℕ) → i < 10 ^ 3 → RowFits r
    → drop line_length (row_lines i (r ∷ rs) ++ m) ≡ row_lines (suc i) rs ++ m
rows_next i r rs m k h =
    ap (drop line_length) (rows_then i r rs m)
    ∙ line_then (row_text i r) (row_lines (suc i) rs ++ m) (row_length i r k h)

lines_back : (i : ℕ) (rs : List Row) (t : ℕ) (m : List ℕ) → i + length rs ≤ 10 ^ 3 → AllFit rs → t < 10 ^ 13
    → read_lines (length rs) (row_lines i rs ++ (total_text t ++ m)) ≡ record { rows = rs; takings = t }
unfolding read_lines row_lines
lines_back i [] t m k h b =
    ap (λ (x : ℕ). record { rows = []; takings = x }) (total_shows t m b).takings_are.figure_is
lines_back i (r ∷ rs) t m k h b =
    let tail = total_text t ++ m in
    let i_fits : i < 10 ^ 3 = omega arith in
    let ih = lines_back (suc i) rs t m (omega arith) h.1 b in
    let first = ap read_row (rows_then i r rs tail)
    ∙ read_back i r i_fits h.0 (10 ∷ (row_lines (suc i) rs ++ tail)) in
    ap₂ with_row first (ap (read_lines (length rs)) (rows_next i r rs tail i_fits h.0) ∙ ih)

-- from line j on stand the rows from j on
rows_from : (i : ℕ) (rs : List Row) (m : List ℕ) → i + length rs ≤ 10 ^ 3 → AllFit rs → (j : ℕ) → j ≤ length rs
    → drop (line_length * j) (row_lines i rs ++ m) ≡ row_lines (i + j) (drop j rs) ++ m
rows_from i rs m k h zero b = let s : i ≡ i + 0 = omega arith in ap (λ (x : ℕ). row_lines x rs ++ m) s
rows_from i [] m k h (suc j) b = absurd (omega arith)
rows_from i (r ∷ rs) m k h (suc j) b =
    let all = row_lines i (r ∷ rs) ++ m in
    let n : line_length * suc j ≡ line_length + line_length * j = omega arith in
    let s : suc i + j ≡ i + suc j = omega arith in
    ap (λ (x : ℕ). drop x all) n ∙ sym (drop-drop (line_length * j) line_length all)
    ∙ ap (drop (line_length * j)) (rows_next i r rs m (omega arith) h.0)
    ∙ rows_from (suc i) rs m (omega arith) h.1 j (omega arith)
    ∙ ap (λ (x : ℕ). row_lines x (drop j rs) ++ m) s

rows_length : (i : ℕ) (rs : List Row) → i + length rs ≤ 10 ^ 3 → AllFit rs
    → length (row_lines i rs) ≡ line_length * length rs
unfolding row_lines
rows_length i [] k h = refl
rows_length i (r ∷ rs) k h =
    omega (
      arith,
      length-append (row_text i r) (10 ∷ row_lines (suc i) rs),
      row_length i r (omega arith) h.0,
      rows_length (suc i) rs (omega arith) h.1,
    )

pub page_length : (f : Figures) → FiguresFit f → length (page f) ≡ line_length * (length f.rows + 1)
unfolding page
page_length f h =
    omega (
      arith,
      length-append (row_lines 0 f.rows) (total_text f.takings ++ (10 ∷ [])),
      length-append (total_text f.takings) (10 ∷ []),
      rows_length 0 f.rows (omega (arith, h.few)) h.rows_fit,
      total_length f.takings h.takings_fit,
    )

pub page_back : (f : Figures) → FiguresFit f → read_page (page f) ≡ f
unfolding page read_page
page_back f h =
    let n : length (page f) / line_length - 1 ≡ length f.rows = omega (arith, page_length f h) in
    ap (λ (k : ℕ). read_lines k (page f)) n
    ∙ lines_back 0 f.rows f.takings (10 ∷ []) (omega (arith, h.few)) h.rows_fit h.takings_fit

-- Line i of a page.

abbrev pub no_row : Row
no_row = record { plays = 0; price = 0; paid = 0; named = 0 }

fits_at : (rs : List Row) → AllFit rs → (j : ℕ) → j < length rs → RowFits (get_or rs j no_row)
fits_at [] h j b = absurd (omega arith)
fits_at (r ∷ rs) h zero b = h.0
fits_at (r ∷ rs) h (suc j) b = fits_at rs h.1 j (omega arith)

module _ (f : Figures) (h : FiguresFit f) (i : ℕ) (b : i < length f.rows) where
  i_fits : i < 10 ^ 3
  i_fits = omega (arith, h.few)

  row_fits : RowFits (get_or f.rows i no_row)
  row_fits = fits_at f.rows h.rows_fit i b

  -- what follows its 40 characters
  abbrev behind : List ℕ
  behind = 10 ∷ (row_lines (suc i) (drop (suc i) f.rows) ++ (total_text f.takings ++ (10 ∷ [])))

  line_is : drop (line_length * i) (page f) ≡ row_text i (get_or f.rows i no_row) ++ behind
  unfolding page
  line_is =
      let tail = total_text f.takings ++ (10 ∷ []) in
      let e : 0 + i ≡ i = omega arith in
      rows_from 0 f.rows tail (omega (arith, h.few)) h.rows_fit i (omega arith)
      ∙ ap (λ (x : ℕ). row_lines x (drop i f.rows) ++ tail) e
      ∙ ap (λ (rs : List Row). row_lines i rs ++ tail) (drop-cons f.rows i no_row b)
      ∙ rows_then i (get_or f.rows i no_row) (drop (suc i) f.rows) tail

  pub page_row_shows : RowShows i (get_or f.rows i no_row) (drop (line_length * i) (page f))
  page_row_shows =
      subst (RowShows i (get_or f.rows i no_row)) (sym line_is)
      (row_shows i (get_or f.rows i no_row) i_fits row_fits behind)

-- The last line of a page.

last_is : (f : Figures) → FiguresFit f
    → drop (line_length * length f.rows) (page f) ≡ total_text f.takings ++ (10 ∷ [])
unfolding page
last_is f h =
    drop_at (row_lines 0 f.rows) (total_text f.takings ++ (10 ∷ [])) (line_length * length f.rows)
    (rows_length 0 f.rows (omega (arith, h.few)) h.rows_fit)

pub page_total_shows : (f : Figures) → FiguresFit f
    → TotalShows f.takings (drop (line_length * length f.rows) (page f))
page_total_shows f h =
    subst (TotalShows f.takings) (sym (last_is f h)) (total_shows f.takings (10 ∷ []) h.takings_fit)

-- Byte 10.

-- byte 10 is the last of each line of l, and stands nowhere else
abbrev Ended : List ℕ → Type 0
Ended l = (i : ℕ) → i < length l → eqb (get_or l i 0) 10 ≡ eqb (i % line_length) 40

ended_line : (t m : List ℕ) → length t ≡ 40 → plain t ≡ true → Ended m → Ended (t ++ (10 ∷ m))
ended_line t m e p h i b = go (ltb i 40) (eqb i 40) refl refl
  where
    go : (x y : Bool) → ltb i 40 ≡ x → eqb i 40 ≡ y
        → eqb (get_or (t ++ (10 ∷ m)) i 0) 10 ≡ eqb (i % line_length) 40
    go true y u v =
        let s : i < 40 = ltb-true i 40 u in
        let z = get_or-append t (10 ∷ m) 0 i (omega arith) in
        ne_eqb (get_or (t ++ (10 ∷ m)) i 0) 10 (λ q. plain_at t i p (sym z ∙ q))
        ∙ sym (ne_eqb (i % line_length) 40 (λ q. omega arith))
    go false true u v =
        let s : i ≡ 40 = eqb-true i 40 v in
        eq-eqb (get_or (t ++ (10 ∷ m)) i 0) 10 (ap (λ (k : ℕ). get_or (t ++ (10 ∷ m)) k 0) s ∙ get_or_at t 10 m 0 40 e)
        ∙ sym (eq-eqb (i % line_length) 40 (omega arith))
    go false false u v =
        let past : line_length ≤ i = omega (arith, ltb-false i 40 u, eqb-false i 40 v) in
        let l : length (t ++ (10 ∷ [])) ≡ line_length = omega (arith, length-append t (10 ∷ [])) in
        let j = i - line_length in
        let s : i ≡ length (t ++ (10 ∷ [])) + j = omega arith in
        let z : get_or (t ++ (10 ∷ m)) i 0 ≡ get_or m j 0 =
        ap (λ (k : ℕ). get_or (t ++ (10 ∷ m)) k 0) s
        ∙ ap (λ (x : List ℕ). get_or x (length (t ++ (10 ∷ [])) + j) 0) (sym (append_assoc t (10 ∷ []) m))
        ∙ get_or-append-add (t ++ (10 ∷ [])) m j 0 in
        let w : j % line_length ≡ i % line_length = omega arith in
        ap (λ (x : ℕ). eqb x 10) z ∙ h j (omega (arith, length-append t (10 ∷ m)))
        ∙ ap (λ (x : ℕ). eqb x 40) w

rows_ended : (i : ℕ) (rs : List Row) (m : List ℕ) → i + length rs ≤ 10 ^ 3 → AllFit rs → Ended m
    → Ended (row_lines i rs ++ m)
unfolding row_lines
rows_ended i [] m k h e = e
rows_ended i (r ∷ rs) m k h e =
    let rest = rows_ended (suc i) rs m (omega arith) h.1 e in
    let s = rows_then i r rs m in
    let all = ended_line (row_text i r) (row_lines (suc i) rs ++ m) (row_length i r (omega arith) h.0)
    (row_plain i r) rest in
    subst Ended (sym s) all

none_ended : Ended []
none_ended i h = absurd (omega arith)

pub page_ended : (f : Figures) → FiguresFit f → (i : ℕ) → i < length (page f)
    → eqb (get_or (page f) i 0) 10 ≡ eqb (i % line_length) 40
unfolding page
page_ended f h =
    rows_ended 0 f.rows (total_text f.takings ++ (10 ∷ [])) (omega (arith, h.few)) h.rows_fit
    (ended_line (total_text f.takings) [] (total_length f.takings h.takings_fit) (total_plain f.takings)
    none_ended)
