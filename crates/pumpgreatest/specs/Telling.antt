-- What is told: the line of a day's earnings, over the program's wire; only `crates/teller` can put a teller together.
use Rattle.std.specs.Prelude.{Result}
use Rattle.refusal.specs.declared.Refusal.{Refusal}
use Rattle.earnings.specs.declared.Figures.{Figures}
use Rattle.earnings.specs.Earnings.{earnings_text}
use Rattle.teller.specs.declared.Teller.{Teller}
use Rattle.teller.specs.Telling as telling
use Rattle.pumpgreatest.specs.declared.told.Line.{Line}

abbrev pub new_teller : Teller Line
new_teller = telling.new_teller

-- the line of x told
abbrev pub Told : (w : Teller Line) (x : Result Figures Refusal) (r : Teller Line) → Type 0
Told w x r = telling.Told (λ (l : Line). earnings_text l.earnings) w (record { earnings = x }) r
