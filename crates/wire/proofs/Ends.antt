-- What a wire begins with and counts, what ends an input, and how many reads a program can make.
use Rattle.std.proofs.Common.{ℕ, ◌+◌, ◌%◌, ◌^◌, sym, refl, ap, ◌∙◌, mod-eq_of_lt, arith, length-take-le, eq-eqb}
use Rattle.std.proofs.Common.{eqb-true}
use Rattle.wire.specs.Wires.{NewWireIs, EmptyReadEnds, MaxReadsIs, WireCounts}

pub empty_read_ends : EmptyReadEnds
empty_read_ends w l n v r = ((λ e. eqb-true n 0 (sym r.ended_is ∙ e)), (λ e. r.ended_is ∙ eq-eqb n 0 e))

pub new_wire_is : NewWireIs
new_wire_is = (refl, refl, refl, refl, refl, refl)

pub max_reads_is : MaxReadsIs
max_reads_is = refl

pub wire_counts : WireCounts
wire_counts = record {
  reading = λ w l n v r few room. (
    r.reads_is ∙ mod-eq_of_lt (omega (arith, few)),
    r.got_is ∙ ap (λ (m : ℕ). (w.got + m) % 2 ^ 64) (length-take-le n l r.inside) ∙ mod-eq_of_lt room,
    r.told_is,
    r.sent_is,
  );
  telling = λ w b v r room. (r.told_is ∙ mod-eq_of_lt room, r.reads_is, r.got_is, r.ended_is, r.failed_is);
}
