-- Records written into lent buffers of dots, computed: what is answered, and the buffer afterwards.
use Rattle.std.specs.Prelude.{ℕ, ◌≡◌, Result, Ok, Err}
use Prim.Native.String.{String}
use Rattle.lines.specs.declared.Record.{Record}
use Rattle.lines.specs.declared.Record.TheVariants.{Campaign, Done, Refused, Pause}
use Rattle.lines.specs.Form.{bytes}
use Rattle.refusal.specs.declared.Refusal.{Refusal}
use Rattle.refusal.specs.Refusal.{refusal}
use Rattle.writer.specs.Writing.{writing, written}

abbrev pub Leaves : Record → (before : String) → Result ℕ Refusal → (after : String) → Type 0
Leaves r before a after = (writing r (bytes before) ≡ a) × (written r (bytes before) ≡ bytes after)

pub record Examples : Type 0 where
  -- room for the line and its byte 10; later bytes keep their values
  pub exact_room : Leaves Done "....." (Ok 5) "(ok)\n"
  pub later_bytes : Leaves (Pause 63) "............." (Ok 11) "(pause 63)\n.."
  -- one byte short
  pub one_short : Leaves Done "...." (Err (refusal 18)) "...."
  -- 17 is asked before 18
  pub range_first : Leaves (Refused 20) "...." (Err (refusal 17)) "...."
  pub only_short : Leaves (Refused 19) "...." (Err (refusal 18)) "...."
  -- numbers of input lines run to 999,999,999,999, also when written
  pub thirteen_digits : Leaves (Campaign 5 1000000000000)
      ".............................................." (Err (refusal 17))
      ".............................................."
  pub twelve_digits : Leaves (Campaign 5 999999999999) ".............................................." (Ok 43)
      "(campaign (price 5) (budget 999999999999))\n..."
