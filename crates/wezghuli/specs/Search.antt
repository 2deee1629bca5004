-- What the exported search and check, and the takings of an allotment, leave in the lent memory, and their statuses.
use Rattle.std.specs.Prelude.{◌≡◌, Bool, true, false, cond, List, [], ◌∷◌, ℕ, Result, Ok, Err}
use Rattle.refusal.specs.declared.Refusal.{Refusal}
use Rattle.optimum.specs.Optimum.{number, search_answer, Searched, takings_answer, checked}
use Rattle.encoding.specs.Encoding.{no_head, no_fit, is_head}
use Rattle.wezghuli.specs.Library.{lent_state}

-- the search: 0, the number of the question that failed, or 100
unfoldable pub search_status : (head terms counts views allotment surplus worth : List ℕ) → ℕ
search_status h t n views a u v = cond (is_head h) (number (search_answer (lent_state h t n) views a u v)) no_head

-- words that are no head leave all as it was; else it is the search of `crates/optimum/specs/Optimum.antt`
pub record SearchLeaves (h t n views a a' u u' v v' : List ℕ) : Type 0 where
  pub no_state : is_head h ≡ false → (a' ≡ a) × (u' ≡ u) × (v' ≡ v)
  pub searched : is_head h ≡ true
      → Searched (lent_state h t n) views a a' u u' v v' (search_answer (lent_state h t n) views a u v)

-- the check: 0 where it accepts, 104 where it rejects, the number of the question that failed, or 100
abbrev pub verdict_status : Result Bool Refusal → ℕ
verdict_status (Err r) = r.question
verdict_status (Ok true) = 0
verdict_status (Ok false) = no_fit

unfoldable pub check_status : (head terms counts views allotment surplus worth : List ℕ) → ℕ
check_status h t n views a u v = cond (is_head h) (verdict_status (checked (lent_state h t n) views a u v)) no_head

-- the takings of an allotment: 0 with the takings; the number of the question that failed, or 100, with them as they
-- were
abbrev pub takings_in : (head terms counts allotment : List ℕ) → Result ℕ Refusal
takings_in h t n a = takings_answer (lent_state h t n) a

abbrev pub takings_status : (head terms counts allotment : List ℕ) → ℕ
takings_status h t n a = cond (is_head h) (number (takings_in h t n a)) no_head

abbrev pub takings_into : Result ℕ Refusal → List ℕ → List ℕ
takings_into (Err r) l = l
takings_into (Ok x) l = x ∷ []

abbrev pub takings_after : (head terms counts allotment takings : List ℕ) → List ℕ
takings_after h t n a l = cond (is_head h) (takings_into (takings_in h t n a) l) l
