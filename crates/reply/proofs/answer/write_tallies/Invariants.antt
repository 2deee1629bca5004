-- The loop keeps: the tallies of the first i campaigns stand from `at` to `to`, at most `answer_room` bytes each.
use Rattle.std.proofs.Common.{◌+◌, ◌*◌, ◌≤◌}
use Rattle.lines.specs.Limits.{answer_room}
use Rattle.buffer.specs.Buffer.{Put}
use Rattle.campaigns.specs.Campaign.{campaign_at}
use Rattle.reply.specs.Reply.{tally_records, record_lines}
use Rattle.reply.proofs.answer.write_tallies.Given as goal

abbrev pub invariant-loop-i : goal.invariant-loop-i
invariant-loop-i l = (l.to ≤ l.at + answer_room * l.i)
    × Put l.initial.out l.out l.at l.to (record_lines (tally_records (campaign_at l.terms l.counts) l.i))
