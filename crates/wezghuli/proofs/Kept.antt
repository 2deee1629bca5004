-- A status that is not 0 leaves what was lent to write to: an answer that is a refusal stores nothing, and words that
-- are no head or no record reach no answer.
use mathlib.Core.Path.{◌≡◌, refl, ◌∙◌}
use mathlib.Core.Bool.{Bool, true, false, cond}
use mathlib.Core.List.{List}
use Rattle.std.specs.Prelude.{Result, Ok, Err}
use Prim.Native.Nat.{ℕ}
use borrow.Author.Tests.{ne_eqb}
use Rattle.day.specs.declared.Day.{Day}
use Rattle.refusal.specs.declared.Refusal.{Refusal}
use Rattle.std.specs.Prelude.{Result, Ok, Err}
use Rattle.noon.specs.declared.Figures.{Figures}
use Rattle.noon.specs.Noon as noon
use Rattle.lines.specs.declared.Record.{Record}
use Rattle.lines.specs.OneText as read
use Rattle.lines.specs.Reading as lines
use Rattle.refusal.specs.declared.Refusal.{Refusal}
use Rattle.writer.specs.Writing as writer
use Rattle.writer.proofs.Numbers as writers
use Rattle.page.specs.Printing as page
use Rattle.page.proofs.Promises as pages
use Rattle.std.specs.Prelude.{Result, Ok, Err}
use Rattle.refusal.specs.declared.Refusal.{Refusal}
use Rattle.optimum.specs.Optimum.{failed, number}
use Rattle.optimum.proofs.Greatest.{tells}
use Rattle.encoding.specs.Encoding.{no_head, no_form, is_head, is_form, record_of}
use Rattle.wezghuli.specs.Library.{lent_state, noon_in, noon_status, figures_into, figures_after}
use Rattle.wezghuli.specs.Library.{read_status, read_into, record_after}
use Rattle.wezghuli.specs.Library.{write_status, line_after, length_told, length_after}
use Rattle.wezghuli.specs.Library.{page_status, page_after, page_length_told, page_length_after}
use Rattle.wezghuli.specs.Search.{search_status, SearchLeaves, takings_in, takings_status, takings_into}
use Rattle.wezghuli.specs.Search.{takings_after}

-- what stays where the answer of status q is a refusal, stays where there is no answer as well
kept : (b : Bool) (q misuse : ℕ) (after before : List ℕ) → ((q ≡ 0 → ⊥) → after ≡ before)
    → (cond b q misuse ≡ 0 → ⊥) → cond b after before ≡ before
kept true q misuse after before stays h = stays h
kept false q misuse after before stays h = refl

-- the figures at noon
figures_stay : (x : Result Figures Refusal) (l : List ℕ) → (noon.number x ≡ 0 → ⊥) → figures_into x l ≡ l
figures_stay (Err q) l h = refl
figures_stay (Ok f) l h = absurd (h refl)

pub noon_keeps : (h t n l : List ℕ) → (noon_status h t n ≡ 0 → ⊥) → figures_after h t n l ≡ l
noon_keeps h t n l =
    let x = noon_in h t n in
    kept (is_head h) (noon.number x) no_head (figures_into x l) l (figures_stay x l)

-- reading and writing a line
words_stay : (x : Result Record Refusal) (w : List ℕ) → (read.number x ≡ 0 → ⊥) → read_into x w ≡ w
words_stay (Ok r) w h = absurd (h refl)
words_stay (Err e) w h = refl

pub read_keeps : (l w : List ℕ) → (read_status l ≡ 0 → ⊥) → record_after l w ≡ w
read_keeps l w = words_stay (lines.reading l) w

line_stays : (r : Record) (d : List ℕ) → (writer.number (writer.writing r d) ≡ 0 → ⊥) → writer.written r d ≡ d
unfolding writer.written
line_stays r d h = rw (ne_eqb (writer.write_question r d) 0 (λ z. h ((writers.tells r d).number_is ∙ z)))

length_stays : (x : Result ℕ Refusal) (l : List ℕ) → (writer.number x ≡ 0 → ⊥) → length_told x l ≡ l
length_stays (Ok n) l h = absurd (h refl)
length_stays (Err q) l h = refl

pub write_keeps : (w d l : List ℕ) → (write_status w d ≡ 0 → ⊥) → (line_after w d ≡ d) × (length_after w d l ≡ l)
write_keeps w d l e =
    let r = record_of w in
    let x = writer.writing r d in (
      kept (is_form w) (writer.number x) no_form (writer.written r d) d (line_stays r d) e,
      kept (is_form w) (writer.number x) no_form (length_told x l) l (length_stays x l) e,
    )

-- printing a page
page_stays : (s : Day) (d : List ℕ) → (page.number (page.printing s d) ≡ 0 → ⊥) → page.printed s d ≡ d
unfolding page.printed
page_stays s d h = rw (ne_eqb (page.page_question s d) 0 (λ z. h (((pages.promises).tells s d).number_is ∙ z)))

page_length_stays : (x : Result ℕ Refusal) (l : List ℕ) → (page.number x ≡ 0 → ⊥) → page_length_told x l ≡ l
page_length_stays (Ok n) l h = absurd (h refl)
page_length_stays (Err q) l h = refl

pub page_keeps : (h t n d l : List ℕ) → (page_status h t n d ≡ 0 → ⊥)
    → (page_after h t n d ≡ d) × (page_length_after h t n d l ≡ l)
page_keeps h t n d l e =
    let s = lent_state h t n in
    let x = page.printing s d in (
      kept (is_head h) (page.number x) no_head (page.printed s d) d (page_stays s d) e,
      kept (is_head h) (page.number x) no_head (page_length_told x l) l (page_length_stays x l) e,
    )

-- the search
pub search_keeps : (h t n views a a' u u' v v' : List ℕ) → (search_status h t n views a u v ≡ 0 → ⊥)
    → SearchLeaves h t n views a a' u u' v v' → (a' ≡ a) × (u' ≡ u) × (v' ≡ v)
unfolding search_status
search_keeps h t n views a a' u u' v v' e left = go (is_head h) refl
  where
    s : Day
    s = lent_state h t n

    go : (b : Bool) → is_head h ≡ b → (a' ≡ a) × (u' ≡ u) × (v' ≡ v)
    go false p = left.no_state p
    go true p =
        let refused : failed s views a u v ≡ 0 → ⊥ = λ z. e (rw p ((tells s views a u v).search_number ∙ z)) in
        let done = left.searched p in
        (done.in_allotment.refused refused, done.in_surplus.refused refused, done.in_worth.refused refused)

-- the takings of an allotment
takings_stay : (x : Result ℕ Refusal) (l : List ℕ) → (number x ≡ 0 → ⊥) → takings_into x l ≡ l
takings_stay (Err r) l h = refl
takings_stay (Ok t) l h = absurd (h refl)

pub takings_keeps : (h t n a l : List ℕ) → (takings_status h t n a ≡ 0 → ⊥) → takings_after h t n a l ≡ l
takings_keeps h t n a l =
    let x = takings_in h t n a in
    kept (is_head h) (number x) no_head (takings_into x l) l (takings_stay x l)
