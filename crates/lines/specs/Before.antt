-- Document 01's own lines, as they were before request 5 of document 02 made the numerals of input lines longer; and
-- what of them stays.
use Rattle.std.specs.Prelude.{◌≡◌, Bool, true, false, cond, not, ◌&&◌, ◌||◌, List, [], ◌∷◌, ℕ, leb, eqb, get_or, Ok}
use Rattle.lines.specs.Limits.{max_question}
use Rattle.lines.specs.Form.{output_slot, campaign_slot, refusal_slot, is_slot, bytes, numbers, is_output}
use Rattle.lines.specs.Form.{numbers_after, filled, text, in_range}
use Rattle.lines.specs.Reading.{reading}
use Rattle.lines.specs.declared.Record.{Record}
use Rattle.lines.specs.declared.Record.TheVariants.{Plan, Campaign, Start, View, Close, Done, Play, Nobody}
use Rattle.lines.specs.declared.Record.TheVariants.{Refused, Closed, Tally, Pause, Resume}

-- its forms: N is any numeral that has no range of its own
unfoldable pub old_template : Record → List ℕ
old_template (Plan _ _) = bytes "(plan (depth N) (width N))"
old_template (Campaign _ _) = bytes "(campaign (price N) (budget N))"
old_template Start = bytes "(start)"
old_template (View _) = bytes "(viewS)"
old_template Close = bytes "(close)"
old_template Done = bytes "(ok)"
old_template (Play _ _) = bytes "(play C (paid N))"
old_template Nobody = bytes "(nobody)"
old_template (Refused _) = bytes "(refused R)"
old_template (Closed _ _ _) = bytes "(closed (takings M) (claim M) (full M))"
old_template (Tally _ _ _ _ _) = bytes "(tally C (plays N) (turns N) (age N) (named N))"
old_template (Pause _) = []
old_template (Resume _) = []

-- whether it has a form for the record: it has none for a pause and its end
abbrev pub has_form : Record → Bool
has_form (Plan _ _) = true
has_form (Campaign _ _) = true
has_form Start = true
has_form (View _) = true
has_form Close = true
has_form Done = true
has_form (Play _ _) = true
has_form Nobody = true
has_form (Refused _) = true
has_form (Closed _ _ _) = true
has_form (Tally _ _ _ _ _) = true
has_form (Pause _) = false
has_form (Resume _) = false

-- its ranges: a numeral is at most 4,294,967,295; a refusal number runs to the highest that the papers give
abbrev pub old_max : ℕ → ℕ
old_max slot =
    cond (eqb slot output_slot) 4294967295
    (cond (eqb slot campaign_slot) 63
    (cond (eqb slot refusal_slot) max_question
    18446744073709551615))

unfoldable pub in_old_slot : ℕ → ℕ → Bool
in_old_slot slot n = (not (eqb slot refusal_slot) || leb 1 n) && leb n (old_max slot)

unfoldable pub in_old_slots : List ℕ → List ℕ → Bool
in_old_slots [] ns = true
in_old_slots (b ∷ t) ns = cond (is_slot b) (in_old_slot b (get_or ns 0 0)) true && in_old_slots t (numbers_after b ns)

unfoldable pub in_old_range : Record → Bool
in_old_range r = has_form r && in_old_slots (old_template r) (numbers r)

unfoldable pub old_text : Record → List ℕ
old_text r = filled (old_template r) (numbers r)

-- document 01 reads l as r
abbrev pub Was : List ℕ → Record → Type 0
Was l r = (in_old_range r ≡ true) × (l ≡ old_text r)

pub record AsBefore : Type 0 where
  -- every line that document 01 reads gives the same record
  pub same_record : (l : List ℕ) (r : Record) → Was l r → reading l ≡ Ok r
  -- an output line is read where document 01 reads it, and nowhere else
  pub same_outputs : (l : List ℕ) (r : Record) → is_output r ≡ true → reading l ≡ Ok r → Was l r
  -- and the writer, which asks for the range and writes the text, finds both as they were
  pub same_text : (r : Record) → has_form r ≡ true → text r ≡ old_text r
  pub same_range : (r : Record) → is_output r ≡ true → in_range r ≡ in_old_range r
  -- a line that is read now and was not before has a new form, or a number that is out of document 01's range
  pub only_longer : (l : List ℕ) (r : Record) → reading l ≡ Ok r → in_old_range r ≡ true → Was l r

-- a line with such a number: document 01 reads it as no record ("A budget of 4294967296 in a line gives 17"), and now
-- it is read
abbrev pub longer_budget : List ℕ
longer_budget = bytes "(campaign (price 5) (budget 4294967296))"

pub record LongerBudget : Type 0 where
  pub refused_before : (r : Record) → Was longer_budget r → ⊥
  pub read_now : reading longer_budget ≡ Ok (Campaign 5 4294967296)
