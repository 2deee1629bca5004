-- Memory that is no stream is left as it was; else what the stream in place has become is stored.
use Rattle.wezghuli.specs.Library.{lent}
use Rattle.wezghuli.proofs.Streamed.{finish_misused, finish_stored}
use Rattle.wezghuli.proofs.streams.wezghuli_finish.Goals as goal

pub returns-in-Err : goal.returns-in-Err
returns-in-Err c =
    let a = c.args in
    let misuse = c.in-Err.ensures in
    let told = finish_misused (lent a.head.now a.terms.now a.counts.now a.pending.now a.words.now a.out.now)
    misuse.0 misuse.1 in
    record { value = told.0; out_after = told.1 }

pub returns-in-Ok : goal.returns-in-Ok
returns-in-Ok c =
    let a = c.args in
    let given = c.in-Ok.ensures in
    let moved = c.finish_in_place-moved in
    let told = finish_stored (lent a.head.now a.terms.now a.counts.now a.pending.now a.words.now a.out.now) given.0
    given.1 moved.result _ c.store.ensures moved.ensures in
    record { value = told.0; out_after = told.1 }
