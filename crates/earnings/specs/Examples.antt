-- The lines of figures that are 0, and of the refusals, computed.
use Rattle.std.specs.Prelude.{◌≡◌, Ok, Err}
use Rattle.lines.specs.Form.{bytes}
use Rattle.refusal.specs.Refusal.{refusal}
use Rattle.earnings.specs.Earnings.{earnings_text}

pub record Examples : Type 0 where
  pub nothing : earnings_text (Ok (record { takings = 0; greatest = 0 }))
      ≡ bytes "(takings 0) (greatest 0) (ratio 1/1)\n"
  pub unsound : earnings_text (Err (refusal 1)) ≡ bytes "(refused 1)\n"
  pub outside : earnings_text (Err (refusal 13)) ≡ bytes "(refused 13)\n"
  pub too_many : earnings_text (Err (refusal 19)) ≡ bytes "(refused 19)\n"
