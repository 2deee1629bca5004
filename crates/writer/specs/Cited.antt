-- How the contracts of the inner functions speak of a record that is measured and put. Nothing that a caller relies on
-- is here.
use Rattle.std.specs.Prelude.{ℕ, ◌+◌, ◌≡◌, Bool, true, false, cond, not, List, [], ◌∷◌, ◌++◌, length, get_or}
use Rattle.std.specs.Prelude.{Option, Some, None}
use Rattle.buffer.specs.Buffer.{Put}
use Rattle.lines.specs.Form.{bytes, is_slot, in_slot, slot_text, template, numbers, piece, numbers_after, in_range}
use Rattle.lines.specs.declared.Record.{Record}
use Rattle.print.specs.declared.Size.{Size}
use Rattle.print.specs.Cited.{within}
use Rattle.writer.specs.Writing.{line}

-- The length of a line is counted slot by slot: k bytes more where the test holds.
abbrev pub plus : Bool → ℕ → ℕ → ℕ
plus true k m = k + m
plus false k m = m

-- a template's own bytes
abbrev pub own_size : List ℕ → ℕ
own_size [] = 0
own_size (b ∷ t) = plus (not (is_slot b)) 1 (own_size t)

-- the slots' texts, and m bytes
abbrev pub slots_size : List ℕ → List ℕ → ℕ → ℕ
slots_size [] ns m = m
slots_size (b ∷ t) ns m = plus (is_slot b) (length (piece b ns)) (slots_size t (numbers_after b ns) m)

-- the length of r's line with its byte 10
abbrev pub line_size : Record → ℕ
line_size r = slots_size (template r) (numbers r) (own_size (template r) + 1)

-- the first number that is outside the range of its slot, where there is one
abbrev pub first_outside : List ℕ → List ℕ → Option ℕ
first_outside [] ns = None
first_outside (b ∷ t) ns =
    cond (cond (is_slot b) (in_slot b (get_or ns 0 0)) true) (first_outside t (numbers_after b ns))
    (Some (get_or ns 0 0))

-- the size of r's line
abbrev pub sized : Record → Size
sized r = record { len = line_size r; outside = first_outside (template r) (numbers r) }

-- z is whether the numbers of r are in their ranges, and the length of its line: so of `sized r` (`proofs/Lines`)
pub record LineSized (r : Record) (z : Size) : Type 0 where
  pub ok : within z ≡ in_range r
  pub len : z.len ≡ line_size r

-- d became e: the line of r stands at the place at and ends at the place to
abbrev pub Puts : List ℕ → List ℕ → ℕ → ℕ → Record → Type 0
Puts d e at to r = Put d e at to (line r)

-- the line of a form with one slot behind its word
abbrev pub one_slot : List ℕ → ℕ → ℕ → List ℕ
one_slot w slot n = (w ++ slot_text slot n) ++ bytes ")\n"
