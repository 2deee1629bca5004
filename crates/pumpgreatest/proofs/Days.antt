-- The line of an input's day: the day is the one that the stream and the entries for views have at its end.
use mathlib.Core.Path.{◌≡◌, ap, ap₂, ◌∙◌, subst}
use mathlib.Core.Bool.{true, false}
use mathlib.Core.List.{List}
use Prim.Native.Nat.{ℕ, ◌<◌}
use lib.ListN.{length}
use Rattle.std.specs.Prelude.{Some}
use Rattle.finite.proofs.Tests.{never}
use Rattle.day.specs.declared.Day.{Day}
use Rattle.day.specs.Day.{blank}
use Rattle.allotments.specs.Limits.{max_handed_in}
use Rattle.reply.specs.Session.{Session}
use Rattle.stream.specs.declared.feed.Stream.{Stream}
use Rattle.stream.specs.Stream.{finished, new_stream}
use Rattle.stream.specs.Input.{after_lines, all_lines}
use Rattle.stream.proofs.Chunking.{split}
use Rattle.recording.specs.Recording.{noted, last_views}
use Rattle.recording.specs.Cited.{Took}
use Rattle.recording.proofs.Views.{any_recording}
use Rattle.wire.specs.Wires.{counted_on, input_of}
use Rattle.std.specs.Prelude.{Result}
use Rattle.refusal.specs.declared.Refusal.{Refusal}
use Rattle.earnings.specs.declared.Figures.{Figures}
use Rattle.earnings.specs.Earnings.{earned, earnings_text}
use Rattle.teller.specs.declared.Teller.{Teller}
use Rattle.teller.specs.Telling.{Heard}
use Rattle.pumpgreatest.specs.declared.told.Line.{Line}
use Rattle.pumpgreatest.specs.declared.Reader.{Reader}
use Rattle.pumpgreatest.specs.Telling.{Told}
use Rattle.pumpgreatest.specs.Prints.{day_earnings, Prints}
use Rattle.pumpgreatest.specs.Cited.{earned_of, earned_at_end}
use Rattle.pumpgreatest.proofs.Answers.{lines_answered}

-- the earnings at the end of an input that was taken whole, beside more entries than the search takes views
ended_earnings : (i v : List ℕ) (k : Stream) (w : List ℕ) → max_handed_in < length v → Took new_stream v i k w
    → earned_at_end k w ≡ day_earnings (all_lines (split i))
ended_earnings i v k w l t =
    let r = any_recording i (split i) v in
    let ls = all_lines (split i) in
    ap₂ (λ (x : Session) (u : List ℕ). earned_of (finished x).day (noted x.day x.pending u)) t.session_is
    t.views_are
    ∙ ap (λ (s : Day). earned_of s (last_views i v)) r.day_is
    ∙ ap (earned (after_lines blank ls)) r.views_are
    ∙ lines_answered ls (length v) l

-- A whole run: what was heard led from a new stream, with the entries v, to m.
module _ {n m : Reader} {w : Teller Line}
    (h : Heard (λ (k : Reader) (l : List ℕ) (m : Reader). Took k.stream k.views l m.stream m.views) n m w)
    (new : n.stream ≡ new_stream) where
  abbrev input : List ℕ
  input = input_of h.blocks

  took : Took new_stream n.views input m.stream m.views
  took = subst (λ (k : Stream). Took k n.views input m.stream m.views) new h.took_is

  -- the input has not ended, or a read failed
  pub ran_untold : (w.wire.failed ≡ false → w.wire.ended ≡ true → ⊥) → Prints w
  ran_untold never = record {
    blocks = h.blocks;
    none_empty = h.none_empty;
    input = split input;
    got_is = h.got_is;
    ended_is = λ f i. h.ended_is i;
    earnings_is = λ f e. absurd (never f e);
    told_is = λ f e. absurd (never f e);
    none_told = λ f. h.none_told;
    none_told_yet = λ f. h.none_told;
  }

  -- the input has ended, and the line of its day was told
  pub ran_through : w.wire.failed ≡ false → w.wire.ended ≡ true → max_handed_in < length n.views → {u : Teller Line}
      → Told w (earned_at_end m.stream m.views) u → Prints u
  ran_through s e room {u} q =
      let earnings : earned_at_end m.stream m.views ≡ day_earnings (all_lines (split input)) =
      ended_earnings input n.views m.stream m.views room took in
      record {
        blocks = h.blocks;
        none_empty = h.none_empty;
        input = split input;
        got_is = q.writes.got_is ∙ h.got_is;
        ended_is = λ f j. q.writes.ended_is ∙ e;
        earnings_is = λ f j. q.told_is ∙ ap (λ (x : Result Figures Refusal). Some (record { earnings = x })) earnings;
        told_is = λ f j. q.writes.told_is
            ∙ ap₂ (λ (a : ℕ) (x : Result Figures Refusal). counted_on a (earnings_text x)) h.none_told earnings;
        none_told = λ f. absurd (never u.wire.failed (q.writes.failed_is ∙ s) f);
        none_told_yet = λ f. absurd (never u.wire.ended f (q.writes.ended_is ∙ e));
      }
