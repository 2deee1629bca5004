-- What stands in lent memory where what is asked for is given: each by its definition.
use mathlib.Core.Path.{◌≡◌, ap}
use mathlib.Core.Bool.{true}
use mathlib.Core.List.{List, [], ◌∷◌}
use Prim.Native.Nat.{ℕ, ◌≤◌}
use lib.ListN.{length}
use borrow.Author.Tests.{eq-eqb}
use Rattle.std.specs.Prelude.{Result, Ok}
use Rattle.refusal.specs.declared.Refusal.{Refusal}
use Rattle.campaigns.specs.View.{full}
use Rattle.day.specs.Calls.{Call, call}
use Rattle.day.specs.Day as states
use Rattle.questions.specs.Questions.{first_failed}
use Rattle.noon.specs.Noon as noon
use Rattle.lines.specs.declared.Record.{Record}
use Rattle.lines.specs.Reading.{reading}
use Rattle.writer.specs.Writing as writer
use Rattle.page.specs.Printing as page
use Rattle.allotments.specs.Allotment.{at}
use Rattle.std.specs.Prelude.{Result, Ok}
use Rattle.refusal.specs.declared.Refusal.{Refusal}
use Rattle.optimum.specs.Optimum.{takings_answer}
use Rattle.encoding.specs.Encoding.{answer_after, is_head, is_form, record_of, record_words}
use Rattle.wezghuli.specs.Library.{Memory, state, memory_after, lent_state, figures_after, line_after}
use Rattle.wezghuli.specs.Library.{read_into, record_after, length_after, page_after, page_length_after}
use Rattle.wezghuli.specs.Search.{SearchLeaves, takings_into, takings_after}

pub answer_is : (k : Call) (m : Memory) → is_head m.head ≡ true
    → (memory_after k m).answer ≡ answer_after (call (state m) k).answer m.answer
unfolding memory_after
answer_is k m e = rw e

pub noon_is : (h t n l : List ℕ) → is_head h ≡ true → let s = lent_state h t n in states.sound s ≡ true
    → figures_after h t n l
    ≡ full s.plan (states.total_takings s) ∷ states.total_claim s ∷ noon.floor_figure s ∷ []
unfolding noon.at_noon first_failed
noon_is h t n l e q = rw (e, q)

pub read_is : (l w : List ℕ) (r : Record) → reading l ≡ Ok r → record_after l w ≡ record_words r
read_is l w r e = ap (λ (x : Result Record Refusal). read_into x w) e

pub write_is : (w d l : List ℕ) → is_form w ≡ true → writer.write_question (record_of w) d ≡ 0
    → (line_after w d ≡ writer.written (record_of w) d)
    × (length_after w d l ≡ length (writer.line (record_of w)) ∷ [])
unfolding writer.writing
write_is w d l e q = (rw e, rw (e, eq-eqb (writer.write_question (record_of w) d) 0 q))

pub page_is : (h t n d l : List ℕ) → is_head h ≡ true → let s = lent_state h t n in page.page_question s d ≡ 0
    → (page_after h t n d ≡ page.printed s d) × (page_length_after h t n d l ≡ length (page.page_of s) ∷ [])
unfolding page.printing
page_is h t n d l e q = (rw e, rw (e, eq-eqb (page.page_question (lent_state h t n) d) 0 q))

pub takings_is : (h t n a l : List ℕ) (x : ℕ) → is_head h ≡ true → takings_answer (lent_state h t n) a ≡ Ok x
    → takings_after h t n a l ≡ x ∷ []
takings_is h t n a l x e q = rw e (ap (λ (r : Result ℕ Refusal). takings_into r l) q)

pub search_beyond : (h t n views a a' u u' v v' : List ℕ) → is_head h ≡ true
    → SearchLeaves h t n views a a' u u' v v' → (j : ℕ)
    → (length views ≤ j → (at a' j ≡ at a j) × (at v' j ≡ at v j))
    × ((lent_state h t n).count ≤ j → at u' j ≡ at u j)
search_beyond h t n views a a' u u' v v' e left j =
    let done = left.searched e in
    ((λ l. (done.in_allotment.beyond j l, done.in_worth.beyond j l)), done.in_surplus.beyond j)
