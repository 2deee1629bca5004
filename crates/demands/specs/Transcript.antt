-- A list of calls, run.
use Rattle.std.specs.Prelude.{List, [], ◌∷◌}
use Rattle.day.specs.declared.Answer.{Answer}
use Rattle.day.specs.declared.Day.{Day}
use Rattle.day.specs.Calls.{Call, call}

-- a call and the answer to it
pub record Exchange : Type 0 where
  pub made : Call
  pub answer : Answer

-- the list's exchanges: each call after the first is given the state that the call before handed back
unfoldable pub transcript : Day → List Call → List Exchange
transcript s [] = []
transcript s (c ∷ cs) = record { made = c; answer = (call s c).answer } ∷ transcript (call s c).day cs

-- the state at the list's end
unfoldable pub final : Day → List Call → Day
final s [] = s
final s (c ∷ cs) = final (call s c).day cs
