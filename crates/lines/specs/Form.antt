-- The forms of bracket lines (documents 01 and 02), the ranges of their numbers, and the text of a record.
use Rattle.std.specs.Prelude.{ℕ, zero, suc, Bool, true, false, cond, not, ◌&&◌, ◌||◌, List, [], ◌∷◌, ◌++◌, leb, eqb}
use Rattle.std.specs.Prelude.{get_or, drop}
use Prim.Native.Char.{code}
use Prim.Native.String.{String, [] as []ˢ, ◌∷◌ as ◌∷ˢ◌}
use Rattle.sets.specs.Set.{member}
use Rattle.lines.specs.Limits.{max_input, max_output, max_campaign, set_bits, max_question, max_money, max_u64}
use Rattle.lines.specs.Numeral.{numeral}
use Rattle.lines.specs.declared.slots.Slot.{Slot}
use Rattle.lines.specs.declared.slots.Slot.TheVariants.{Input, Number, Campaign as CampaignName, Question, Money, Names}
use Rattle.lines.specs.declared.Record.{Record}
use Rattle.lines.specs.declared.Record.TheVariants.{Plan, Campaign, Start, View, Close, Done, Play, Nobody}
use Rattle.lines.specs.declared.Record.TheVariants.{Refused, Closed, Tally, Pause, Resume}

-- A slot of a form is an upper-case letter.

-- I: a number of an input line
abbrev pub input_slot : ℕ
input_slot = 73

-- N: a number of an output line
abbrev pub output_slot : ℕ
output_slot = 78

-- C: a campaign number
abbrev pub campaign_slot : ℕ
campaign_slot = 67

-- R: a refusal number
abbrev pub refusal_slot : ℕ
refusal_slot = 82

-- M: takings, claim or full
abbrev pub money_slot : ℕ
money_slot = 77

-- S: the names of a view
abbrev pub names_slot : ℕ
names_slot = 83

-- the letter of what the code calls a slot
abbrev pub letter : Slot → ℕ
letter Input = input_slot
letter Number = output_slot
letter CampaignName = campaign_slot
letter Question = refusal_slot
letter Money = money_slot
letter Names = names_slot

abbrev pub is_slot : ℕ → Bool
is_slot b = leb 65 b && leb b 90

abbrev pub bytes : String → List ℕ
bytes []ˢ = []
bytes (c ∷ˢ s) = code c ∷ bytes s

-- a form's template: its line as it reads, with the letter of each slot in its place
unfoldable pub template : Record → List ℕ
template (Plan _ _) = bytes "(plan (depth I) (width I))"
template (Campaign _ _) = bytes "(campaign (price I) (budget I))"
template Start = bytes "(start)"
template (View _) = bytes "(viewS)"
template Close = bytes "(close)"
template Done = bytes "(ok)"
template (Play _ _) = bytes "(play C (paid N))"
template Nobody = bytes "(nobody)"
template (Refused _) = bytes "(refused R)"
template (Closed _ _ _) = bytes "(closed (takings M) (claim M) (full M))"
template (Tally _ _ _ _ _) = bytes "(tally C (plays N) (turns N) (age N) (named N))"
template (Pause _) = bytes "(pause C)"
template (Resume _) = bytes "(resume C)"

-- a record's numbers, in the order of its slots; a view is a 64-bit set, and so a number
unfoldable pub numbers : Record → List ℕ
numbers (Plan depth width) = depth ∷ width ∷ []
numbers (Campaign price budget) = price ∷ budget ∷ []
numbers Start = []
numbers (View set) = set ∷ []
numbers Close = []
numbers Done = []
numbers (Play campaign paid) = campaign ∷ paid ∷ []
numbers Nobody = []
numbers (Refused number) = number ∷ []
numbers (Closed takings claim full) = takings ∷ claim ∷ full ∷ []
numbers (Tally campaign plays turns age named) = campaign ∷ plays ∷ turns ∷ age ∷ named ∷ []
numbers (Pause campaign) = campaign ∷ []
numbers (Resume campaign) = campaign ∷ []

-- whether a record is one of the six kinds of output line; the others are the seven kinds of input line
abbrev pub is_output : Record → Bool
is_output (Plan _ _) = false
is_output (Campaign _ _) = false
is_output Start = false
is_output (View _) = false
is_output Close = false
is_output Done = true
is_output (Play _ _) = true
is_output Nobody = true
is_output (Refused _) = true
is_output (Closed _ _ _) = true
is_output (Tally _ _ _ _ _) = true
is_output (Pause _) = false
is_output (Resume _) = false

-- the greatest number in each slot; S has all of 64 bits
abbrev pub slot_max : ℕ → ℕ
slot_max slot =
    cond (eqb slot input_slot) max_input
    (cond (eqb slot output_slot) max_output
    (cond (eqb slot campaign_slot) max_campaign
    (cond (eqb slot refusal_slot) max_question
    (cond (eqb slot money_slot) max_money
    max_u64))))

-- the range of each slot: up to its greatest number, and R from 1
unfoldable pub in_slot : ℕ → ℕ → Bool
in_slot slot n = (not (eqb slot refusal_slot) || leb 1 n) && leb n (slot_max slot)

-- the names of the set's members below n, rising, with a space before each
unfoldable pub names_text : ℕ → ℕ → List ℕ
names_text zero set = []
names_text (suc i) set = names_text i set ++ cond (member set i) (32 ∷ numeral i) []

-- the text of the number n in a slot
unfoldable pub slot_text : ℕ → ℕ → List ℕ
slot_text slot n = cond (eqb slot names_slot) (names_text set_bits n) (numeral n)

-- A template is filled from the left: a slot takes the next number, any other byte stands for itself.
unfoldable pub piece : ℕ → List ℕ → List ℕ
piece b ns = cond (is_slot b) (slot_text b (get_or ns 0 0)) (b ∷ [])

-- the numbers that are left after b
unfoldable pub numbers_after : ℕ → List ℕ → List ℕ
numbers_after b ns = cond (is_slot b) (drop 1 ns) ns

unfoldable pub filled : List ℕ → List ℕ → List ℕ
filled [] ns = []
filled (b ∷ t) ns = piece b ns ++ filled t (numbers_after b ns)

-- each number is in the range of its slot
unfoldable pub in_slots : List ℕ → List ℕ → Bool
in_slots [] ns = true
in_slots (b ∷ t) ns = cond (is_slot b) (in_slot b (get_or ns 0 0)) true && in_slots t (numbers_after b ns)

-- the text of a record: its line without the byte 10
unfoldable pub text : Record → List ℕ
text r = filled (template r) (numbers r)

-- every number of the record is in its range
unfoldable pub in_range : Record → Bool
in_range r = in_slots (template r) (numbers r)
