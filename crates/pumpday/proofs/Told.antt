-- What is told over an input is what its session answers over the whole of it: feeding composes, and what was answered
-- before stays in front.
use mathlib.Core.Path.{◌≡◌, refl, sym, ap, ◌∙◌}
use mathlib.Core.Bool.{true, false}
use mathlib.Core.List.{List, [], ◌∷◌, ◌++◌}
use Prim.Native.Nat.{ℕ}
use lib.Seq.{take-append_seam}
use Rattle.reply.specs.Session.{Session, fed}
use Rattle.reply.proofs.Sessions.{fed_append}
use Rattle.stream.specs.declared.feed.Stream.{Stream}
use Rattle.stream.specs.Chunking.{all_output}
use Rattle.stream.specs.Stream.{finished, session_of, silent, stream_of, new_stream}
use Rattle.stream.proofs.Chunking.{output_said, output_at_end}
use Rattle.programs.specs.Examples.{in_one}
use Rattle.pumpday.specs.Telling.{session_after, TellsOver, ToldAnswers, AnyParts}
use Rattle.pumpday.specs.Telling.TellsOver.{at_end, part}

told_whole : {k : Stream} {input b : List ℕ} → TellsOver k input b → b ≡ all_output (session_of k) input
unfolding fed
told_whole (at_end k) = refl
told_whole (part k next l later b e t) =
    let y = fed (session_of k) l in
    ap (λ (c : List ℕ). y.output ++ c)
    (told_whole t ∙ ap (λ (x : Session). all_output x later) e)
    ∙ sym (output_said y later)
    ∙ sym (ap (λ (x : Session). (finished x).output) (fed_append (session_of k) l later))

pub told_answers : ToldAnswers
told_answers input b t i = told_whole t ∙ output_at_end input i

-- the stream that holds y has come to it
held_session : (y : Session) → session_of (stream_of y) ≡ silent y
held_session y =
    ap (λ (l : List ℕ). record { day = y.day; pending = l; output = [] }) (take-append_seam y.pending _)

told_parts : (k : Stream) (parts : List (List ℕ)) → (b : List ℕ) × TellsOver k (in_one parts) b
told_parts k [] = ((session_after k [] true).output, at_end k)
told_parts k (l ∷ ls) =
    let y = session_after k l false in
    let rest = told_parts (stream_of y) ls in
    (y.output ++ rest.0, part k (stream_of y) l (in_one ls) rest.0 (held_session y) rest.1)

pub any_parts : AnyParts
any_parts = told_parts new_stream
