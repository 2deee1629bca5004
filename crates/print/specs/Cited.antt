-- How the contracts of the crate speak of what is counted. Nothing that a caller of the writer relies on is here.
use Rattle.std.specs.Prelude.{ℕ, ◌+◌, ◌≤◌, ◌≡◌, Bool, cond, ◌&&◌, length, Some, is_none}
use Rattle.lines.specs.Limits.{max_names}
use Rattle.lines.specs.Form.{in_slot, slot_text}
use Rattle.print.specs.declared.Size.{Size}

-- so many bytes may be counted before a further slot is: far from where a sum would wrap
abbrev pub max_counted : ℕ
max_counted = 1000

-- z with one slot more: its bytes join the length, and its number, where it is out of range, is the one outside
abbrev pub counted : (z : Size) (slot n : ℕ) → Size
counted z slot n = record {
  len = length (slot_text slot n) + z.len;
  outside = cond (in_slot slot n) z.outside (Some n);
}

-- whether the numbers that z counts are in the ranges of their slots
abbrev pub within : Size → Bool
within z = is_none z.outside

-- y is z with one slot more, for every size that `Size::slot` takes and every number (`proofs/Sizes.counts`)
pub record Counted (z : Size) (slot n : ℕ) (y : Size) : Type 0 where
  pub ok : within y ≡ (in_slot slot n && within z)
  pub len : y.len ≡ length (slot_text slot n) + z.len
  pub most : y.len ≤ z.len + max_names
