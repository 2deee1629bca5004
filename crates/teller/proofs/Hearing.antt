-- What is known while an input is read, and at its end.
use Rattle.std.proofs.Common.{◌≡◌, ℕ, suc, ◌≤◌, true, false, None, List, [], ◌∷◌, ◌++◌, take, refl, sym, ap, ◌∙◌}
use Rattle.std.proofs.Common.{subst, arith}
use Rattle.finite.proofs.Tests.{never}
use Rattle.wire.specs.Wires.{counted_on, max_reads, input_of}
use Rattle.wire.proofs.Blocks.{Reached, reached_none, reached_more, more_got, no_more}
use Rattle.teller.specs.declared.Teller.{Teller}
use Rattle.teller.specs.Telling.{new_teller, Waits, Heard}

-- Reads gave blocks, with so many left; the input has not ended, and nothing is told yet.
pub record Hearing {T L : Type 0} (took : L → List ℕ → L → Type 0) (k m : L) (w : Teller T) (turns : ℕ) : Type 0 where
  pub blocks : List (List ℕ)
  pub reads : Reached w.wire blocks turns
  pub took_is : took k (input_of blocks) m
  pub going : w.wire.ended ≡ false
  pub failed_ends : w.wire.failed ≡ true → w.wire.ended ≡ true
  pub told_none : w.told ≡ None
  pub none_told : w.wire.told ≡ 0

module _ {T L : Type 0} (took : L → List ℕ → L → Type 0) {k : L} where
  pub hearing_begins : took k [] k → {w : Teller T} → w ≡ new_teller → Hearing took k k w max_reads
  hearing_begins none e =
      subst (λ (w : Teller T). Hearing took k k w max_reads) (sym e)
      (record {
        blocks = [];
        reads = reached_none;
        took_is = none;
        going = refl;
        failed_ends = λ f. absurd (never false refl f);
        told_none = refl;
        none_told = refl;
      })

  -- no read is left
  pub heard_spent : {m : L} {w : Teller T} {turns : ℕ} → Hearing took k m w turns → turns ≤ 0 → Heard took k m w
  heard_spent a h = record {
    blocks = a.blocks;
    none_empty = a.reads.none_empty;
    took_is = a.took_is;
    got_is = a.reads.got_is;
    ended_is = λ i. absurd (omega (arith, a.reads.left));
    failed_ends = a.failed_ends;
    told_none = a.told_none;
    none_told = a.none_told;
  }

  -- One read more.
  module _ {m : L} {w : Teller T} {turns : ℕ} (a : Hearing took k m w turns) {l : List ℕ} {n : ℕ} {v : Teller T}
      (r : Waits w l n v) where
    -- it gave something
    pub hearing_more : v.wire.ended ≡ false → {q : L} → took k (input_of a.blocks ++ take n l) q → {i : ℕ}
        → suc i ≡ turns → Hearing took k q v i
    hearing_more e t c = record {
      blocks = take n l ∷ a.blocks;
      reads = reached_more a.reads r.reads e c;
      took_is = t;
      going = e;
      failed_ends = r.reads.failed_ends;
      told_none = r.told_same ∙ a.told_none;
      none_told = r.reads.told_is ∙ a.none_told;
    }

    -- it gave nothing, which was taken as any other read is
    pub heard_last : v.wire.ended ≡ true → {q : L} → took k (input_of a.blocks ++ take n l) q → Heard took k q v
    heard_last e {q} t = record {
      blocks = a.blocks;
      none_empty = a.reads.none_empty;
      took_is = subst (λ (b : List ℕ). took k b q) (no_more a.reads r.reads e) t;
      got_is = more_got a.reads r.reads ∙ ap (counted_on 0) (no_more a.reads r.reads e);
      ended_is = λ i. e;
      failed_ends = r.reads.failed_ends;
      told_none = r.told_same ∙ a.told_none;
      none_told = r.reads.told_is ∙ a.none_told;
    }

    -- it gave nothing, and nothing more was taken
    pub heard_ended : v.wire.ended ≡ true → Heard took k m v
    heard_ended e = heard_last e (subst (λ (b : List ℕ). took k b m) (sym (no_more a.reads r.reads e)) a.took_is)
