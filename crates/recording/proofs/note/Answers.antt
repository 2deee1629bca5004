-- What the pending line shows stands behind the accepted views, where there is an entry.
use mathlib.Core.Path.{◌≡◌, sym, ap, ◌∙◌}
use mathlib.Core.List.{List}
use Prim.Native.Nat.{ℕ}
use native.Mathlib.Omega.{arith}
use lib.ListN.{length, take, set}
use lib.Seq.{set_out}
use borrow.Author.Rules.{rules}
use Rattle.sets.specs.Set.{without}
use Rattle.lines.specs.Limits.{line_buffer}
use Rattle.lines.specs.Reading.{reading}
use Rattle.reply.specs.Reply.{request_of}
use Rattle.stream.proofs.Streams.{take_least}
use Rattle.recording.specs.Recording.{shown_in, noted}
use Rattle.recording.proofs.note.Goals as goal

pub slice_bounds-pending-end : goal.slice_bounds-pending-end
slice_bounds-pending-end c =
    let h : length c.args.stream.pending ≡ line_buffer = search rules in
    omega (arith, c.at_most_held.ensures, h)

pub returns-else-at-views : goal.returns-else-at-views
unfolding noted
returns-else-at-views c =
    sym (set_out c.args.views.now c.args.stream.day.accepted _ c.if-at-views.false)

pub returns-then-at-views : goal.returns-then-at-views
unfolding noted
returns-then-at-views c =
    let k = c.args.stream in
    let h : length k.pending ≡ line_buffer = search rules in
    let line : take c.at_most_held.result k.pending ≡ take k.kept k.pending =
    ap (λ (i : ℕ). take i k.pending) c.at_most_held.ensures ∙ take_least k.pending k.kept h in
    ap (set c.args.views.now k.day.accepted)
    (c.without.ensures ∙ ap (λ (i : ℕ). without i k.day.paused)
    (c.shown_by-set.ensures ∙ ap (λ (l : List ℕ). shown_in (request_of (reading l))) line))
