-- The ranges of each form's numbers, in the documents' own figures: those of input lines are request 5's, those of
-- output lines document 01's, with the highest refusal number that the papers give.
use Rattle.std.specs.Prelude.{ℕ, ◌≤◌, ◌≡◌, true, ◌↔◌}
use Rattle.lines.specs.Form.{in_range}
use Rattle.lines.specs.declared.Record.{Record}
use Rattle.lines.specs.declared.Record.TheVariants.{Plan, Campaign, Start, View, Close, Done, Play, Nobody}
use Rattle.lines.specs.declared.Record.TheVariants.{Refused, Closed, Tally, Pause, Resume}

-- every number of r is in its range exactly if P holds
abbrev pub Ranged : Record → Type 0 → Type 0
Ranged r P = (in_range r ≡ true) ↔ P

pub record Ranges : Type 0 where
  pub plan : (depth width : ℕ)
      → Ranged (Plan depth width) ((depth ≤ 999_999_999_999) × (width ≤ 999_999_999_999))
  pub campaign : (price budget : ℕ)
      → Ranged (Campaign price budget) ((price ≤ 999_999_999_999) × (budget ≤ 999_999_999_999))
  pub start : in_range Start ≡ true
  pub view : (set : ℕ) → Ranged (View set) (set ≤ 18_446_744_073_709_551_615)
  pub close : in_range Close ≡ true
  pub done : in_range Done ≡ true
  pub play : (campaign paid : ℕ) → Ranged (Play campaign paid) ((campaign ≤ 63) × (paid ≤ 4_294_967_295))
  pub nobody : in_range Nobody ≡ true
  pub refused : (number : ℕ) → Ranged (Refused number) ((1 ≤ number) × (number ≤ 19))
  pub closed : (takings claim full : ℕ)
      → Ranged (Closed takings claim full)
      ((takings ≤ 18_446_744_073_709_551_615) × (claim ≤ 18_446_744_073_709_551_615)
      × (full ≤ 18_446_744_073_709_551_615))
  pub tally : (campaign plays turns age named : ℕ)
      → Ranged (Tally campaign plays turns age named)
      ((campaign ≤ 63) × (plays ≤ 4_294_967_295) × (turns ≤ 4_294_967_295) × (age ≤ 4_294_967_295)
      × (named ≤ 4_294_967_295))
  pub pause : (campaign : ℕ) → Ranged (Pause campaign) (campaign ≤ 63)
  pub resume : (campaign : ℕ) → Ranged (Resume campaign) (campaign ≤ 63)
