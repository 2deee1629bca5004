-- What the reader makes of the line is executed by a sound state, and refused by one that is not sound.
use mathlib.Core.List.{List}
use Prim.Native.Nat.{ℕ}
use mathlib.Core.Path.{◌≡◌, ap, sym, ◌∙◌}
use Rattle.std.specs.Prelude.{Result}
use Rattle.refusal.specs.declared.Refusal.{Refusal}
use Rattle.lines.specs.declared.Record.{Record}
use Rattle.day.specs.declared.Day.{Day}
use Rattle.day.specs.declared.Outcome.{Outcome}
use Rattle.day.specs.declared.Step.{Step}
use Rattle.day.specs.Day.{state_of}
use Rattle.day.specs.InPlace.{outcome_of}
use Rattle.day.specs.Cited.{refusing}
use Rattle.lines.specs.Reading.{reading}
use Rattle.reply.specs.Reply.{request, request_of, executed, outcome}
use Rattle.reply.proofs.Kept.{kept_ready, ready_executed, unsound_executed, refused_ready}
use Rattle.reply.proofs.line.respond.Goals as goal

-- o is what the line l asks of s, where the reader answered r
asked : (s : Day) (l : List ℕ) {z r : Result Record Refusal} {o : Outcome}
    → z ≡ reading l → z ≡ r → o ≡ executed s (request_of r)
    → o ≡ outcome s l
unfolding outcome
asked s l q e p = p ∙ ap (λ (x : Result Record Refusal). executed s (request_of x)) (sym e ∙ q)

pub execute-requires : goal.execute-requires
execute-requires c = (c.requires.weights_are c.if-sound.true, kept_ready c.requires c.if-sound.true)

pub returns-in-Ok : goal.returns-in-Ok
returns-in-Ok c =
    let a = c.args in
    let x = c.execute in
    record {
      counts_after = asked (state_of a.head a.terms.now a.counts.now) a.line.now c.read_line.ensures c.in-Ok.is
          x.ensures.counts_after;
      ready = ready_executed c.requires (request c.in-Ok.input) x.result _ _ _ c.if-sound.true x.ensures.counts_after
          x.ensures.weights;
    }

pub returns-in-Ok-2 : goal.returns-in-Ok-2
returns-in-Ok-2 c =
    let a = c.args in
    let q = c.unsound_refusal in
    record {
      counts_after = asked (state_of a.head a.terms.now a.counts.now) a.line.now c.read_line.ensures c.in-Ok.is
          (ap (λ (x : Step). outcome_of x a.terms.now a.counts.now) (c.refused.ensures ∙ ap (λ (x : Refusal). refusing a.head x.question) q.ensures)
          ∙ unsound_executed c.requires (request c.in-Ok.input) c.if-sound.false);
      ready = refused_ready c.refused.result q.result.question c.refused.ensures c.requires;
    }

pub returns-in-Err : goal.returns-in-Err
returns-in-Err c =
    let a = c.args in
    let x = c.refused-in-Err in
    record {
      counts_after = asked (state_of a.head a.terms.now a.counts.now) a.line.now c.read_line.ensures c.in-Err.is
          (ap (λ (r : Step). outcome_of r a.terms.now a.counts.now) x.ensures);
      ready = refused_ready x.result _ x.ensures c.requires;
    }
