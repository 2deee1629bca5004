-- The bytes of the line, then what it shows, then its byte 10.
use mathlib.Core.Path.{◌≡◌}
use native.Mathlib.Omega.{arith}
use lib.ListN.{length}
use borrow.Author.Rules.{rules}
use Rattle.lines.specs.Limits.{line_buffer}
use Rattle.recording.proofs.Bytes.{took_more, took_plain, took_end, short_after, short_stream}
use Rattle.recording.proofs.take_line.Goals as goal

pub returns : goal.returns
returns c =
    let a = c.args in
    let f = c.feed in
    let m = f.result.stream in
    let h : length a.stream.pending ≡ line_buffer = search rules in
    let short = short_stream a.stream h in
    let p = took_plain a.stream a.views.now a.out.now f.new.out f.result short c.requires.0
    a.line.now c.requires.1 f.ensures in
    let q = took_end m a.views.now f.new.out c.feed-2.new.out c.feed-2.result
    (short_after short p) (omega (arith, f.auto.out, c.requires.0)) c.note.new.views
    c.note.ensures c.feed-2.ensures in
    took_more p q
