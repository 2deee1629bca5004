-- What reading a line answers: the record whose text it is, 16 or 17. Each form is tried in turn; OneText says that
-- this is the inverse of `text`.
use Rattle.std.specs.Prelude.{ℕ, zero, suc, ◌+◌, ◌*◌, ◌-◌, ◌^◌, Bool, true, false, cond, ◌&&◌, List, [], ◌∷◌, ltb}
use Rattle.std.specs.Prelude.{leb, eqb, length, get_or, Result, Ok, Err}
use Rattle.refusal.specs.declared.Refusal.{Refusal}
use Rattle.refusal.specs.Refusal.{refusal}
use Rattle.lines.specs.Limits.{max_line, set_bits}
use Rattle.lines.specs.Form.{campaign_slot, names_slot, is_slot, template, in_slot}
use Rattle.lines.specs.declared.Record.{Record}
use Rattle.lines.specs.declared.Record.TheVariants.{Plan, Campaign, Start, View, Close, Done, Play, Nobody}
use Rattle.lines.specs.declared.Record.TheVariants.{Refused, Closed, Tally, Pause, Resume}

-- what is left of a line, or none where what was looked for is not there
pub data Rest : Type 0 where
  none : Rest
  some : List ℕ → Rest

-- a number that was read from the front of a line, and what is left behind it
pub data Seen : Type 0 where
  unseen : Seen
  seen : ℕ → List ℕ → Seen

abbrev pub value : Seen → ℕ
value unseen = 0
value (seen n l) = n

abbrev pub behind : Seen → Rest
behind unseen = none
behind (seen n l) = some l

-- document 01's digit: a byte from 48 to 57
unfoldable pub is_digit : ℕ → Bool
is_digit b = leb 48 b && leb b 57

-- the digits that follow a numeral of value a
unfoldable pub digits : ℕ → List ℕ → Seen
digits a [] = seen a []
digits a (b ∷ l) = cond (is_digit b) (digits (a * 10 + (b - 48)) l) (seen a (b ∷ l))

-- a numeral: 0, or digits of which the first is no 0
unfoldable pub numeral_at : List ℕ → Seen
numeral_at [] = unseen
numeral_at (b ∷ l) = cond (eqb b 48) (seen 0 l) (cond (is_digit b) (digits (b - 48) l) unseen)

-- what was seen, where its number is in the slot's range
abbrev pub ranged : ℕ → Seen → Seen
ranged slot unseen = unseen
ranged slot (seen n l) = cond (in_slot slot n) (seen n l) unseen

-- the set with a name that is above all of its members
abbrev pub with_name : ℕ → Seen → Seen
with_name set unseen = unseen
with_name set (seen n l) = cond (ltb set (2 ^ n)) (seen (set + 2 ^ n) l) unseen

abbrev pub and_then : Seen → (ℕ → List ℕ → Seen) → Seen
and_then unseen f = unseen
and_then (seen n l) f = f n l

-- fewer than k names, each with a space before it, that join a set
unfoldable pub set_at : ℕ → ℕ → List ℕ → Seen
set_at zero set l = unseen
set_at (suc k) set [] = seen set []
set_at (suc k) set (b ∷ l) =
    cond (eqb b 32) (and_then (with_name set (ranged campaign_slot (numeral_at l))) (set_at k)) (seen set (b ∷ l))

-- what stands in a slot
unfoldable pub slot_at : ℕ → Rest → Seen
slot_at slot none = unseen
slot_at slot (some l) = cond (eqb slot names_slot) (set_at (suc set_bits) 0 l) (ranged slot (numeral_at l))

-- the line without the byte b at its front
unfoldable pub strip : ℕ → Rest → Rest
strip b none = none
strip b (some []) = none
strip b (some (c ∷ l)) = cond (eqb c b) (some l) none

-- what is left behind a template's byte, and behind a template
unfoldable pub step : ℕ → Rest → Rest
step b r = cond (is_slot b) (behind (slot_at b r)) (strip b r)

unfoldable pub rest_of : List ℕ → Rest → Rest
rest_of [] r = r
rest_of (b ∷ t) r = rest_of t (step b r)

-- the numbers in a template's slots
abbrev pub slot_then : Bool → ℕ → List ℕ → List ℕ
slot_then t n ns = cond t (n ∷ ns) ns

unfoldable pub numbers_of : List ℕ → Rest → List ℕ
numbers_of [] r = []
numbers_of (b ∷ t) r = slot_then (is_slot b) (value (slot_at b r)) (numbers_of t (step b r))

-- the record of r's form with these numbers
unfoldable pub made : Record → List ℕ → Record
made (Plan _ _) ns = Plan (get_or ns 0 0) (get_or ns 1 0)
made (Campaign _ _) ns = Campaign (get_or ns 0 0) (get_or ns 1 0)
made Start ns = Start
made (View _) ns = View (get_or ns 0 0)
made Close ns = Close
made Done ns = Done
made (Play _ _) ns = Play (get_or ns 0 0) (get_or ns 1 0)
made Nobody ns = Nobody
made (Refused _) ns = Refused (get_or ns 0 0)
made (Closed _ _ _) ns = Closed (get_or ns 0 0) (get_or ns 1 0) (get_or ns 2 0)
made (Tally _ _ _ _ _) ns = Tally (get_or ns 0 0) (get_or ns 1 0) (get_or ns 2 0) (get_or ns 3 0) (get_or ns 4 0)
made (Pause _) ns = Pause (get_or ns 0 0)
made (Resume _) ns = Resume (get_or ns 0 0)

abbrev pub is_end : Rest → Bool
is_end none = false
is_end (some []) = true
is_end (some (b ∷ l)) = false

-- r where nothing is left, and else what other says
unfoldable pub ended_or : Result Record Refusal → Rest → Record → Result Record Refusal
ended_or other rest r = cond (is_end rest) (Ok r) other

-- the line held to the template of the form f
unfoldable pub held_or : Result Record Refusal → Record → List ℕ → Result Record Refusal
held_or other f l = ended_or other (rest_of (template f) (some l)) (made f (numbers_of (template f) (some l)))

-- five kinds of input line, the six kinds of output line and two kinds of input line that document 02 adds
unfoldable pub forms : List Record
forms =
    Plan 0 0 ∷ Campaign 0 0 ∷ Start ∷ View 0 ∷ Close
    ∷ Done ∷ Play 0 0 ∷ Nobody ∷ Refused 0 ∷ Closed 0 0 0 ∷ Tally 0 0 0 0 0
    ∷ Pause 0 ∷ Resume 0 ∷ []

unfoldable pub first_of : List Record → List ℕ → Result Record Refusal
first_of [] l = Err (refusal 17)
first_of (f ∷ fs) l = held_or (first_of fs l) f l

unfoldable pub reading : List ℕ → Result Record Refusal
reading l = cond (ltb max_line (length l)) (Err (refusal 16)) (first_of forms l)
