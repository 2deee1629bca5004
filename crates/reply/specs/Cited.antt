-- Names for the contracts of inner functions: the refusals of a state that is not sound, and where an answer stands.
use Rattle.std.specs.Prelude.{◌≡◌, Bool, true, List, ℕ, ◌+◌, ◌*◌, ◌≤◌}
use Rattle.lines.specs.declared.Record.TheVariants.{Done, Play, Nobody, Refused, Closed}
use Rattle.lines.specs.Limits.{answer_room}
use Rattle.lines.specs.Form.{in_range}
use Rattle.buffer.specs.Buffer.{Put}
use Rattle.campaigns.specs.Limits.{max_campaigns}
use Rattle.day.specs.declared.Answer.{Answer}
use Rattle.day.specs.declared.Answer.TheVariants.{Refused as refusing, Done as done, Played as played}
use Rattle.day.specs.declared.Answer.TheVariants.{Nobody as no_one, Tallied as tallied, Closing as closing}
use Rattle.day.specs.declared.Day.{Day}
use Rattle.reply.specs.Reply.{Request, reply, next}
use Rattle.reply.specs.Reply.Request.{makes, fails}
use Rattle.reply.specs.Session.{reply_room}

-- room for the tallies of all campaigns
abbrev pub tallies_room : ℕ
tallies_room = max_campaigns * answer_room

-- the numbers of the answer's line are in their ranges
abbrev pub answer_in_range : Answer → Bool
answer_in_range (refusing q) = in_range (Refused q)
answer_in_range done = in_range Done
answer_in_range (played i p) = in_range (Play i p)
answer_in_range no_one = in_range Nobody
answer_in_range (tallied p t a n) = true
answer_in_range (closing t c f) = in_range (Closed t c f)

-- what a state that is not sound answers to a request
abbrev pub unsound_number : Request → ℕ
unsound_number (makes c) = 1
unsound_number (fails q) = q

-- the line l of the state s answered at the place at of d, which became e; r is the state after it, and to the place
-- behind
pub record Written (s : Day) (l d e : List ℕ) (at : ℕ) (r : Day) (to : ℕ) : Type 0 where
  pub day : r ≡ next s l
  pub put : Put d e at to (reply s l)
  pub fits : to ≤ at + reply_room
