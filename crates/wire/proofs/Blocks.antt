-- Counting goes on: what reads gave, block after block, is counted as one input.
use Rattle.std.proofs.Common.{◌≡◌, ℕ, suc, ◌+◌, ◌%◌, ◌^◌, ◌<◌, true, false, List, [], ◌∷◌, ◌++◌, length, take, sym}
use Rattle.std.proofs.Common.{refl, ap, ◌∙◌, append-nil, mod-eq_of_lt, arith, length-append, length-take-le}
use Rattle.std.proofs.Common.{eqb-true}
use native.Mathlib.Nat.{mod-add-mod}
use borrow.Author.Tests.{eqb-false}
use Rattle.wire.specs.declared.Wire.{Wire}
use Rattle.wire.specs.Wires.{counted_on, new_wire, max_reads, Reads, Writes, input_of, NoneEmpty}

pub counted_more : (n : ℕ) (a b : List ℕ) → counted_on (counted_on n a) b ≡ counted_on n (a ++ b)
counted_more n a b =
    let s : n + length a + length b ≡ n + length (a ++ b) = omega (arith, length-append a b) in
    mod-add-mod (n + length a) (2 ^ 64) (length b) ∙ ap (λ (i : ℕ). i % 2 ^ 64) s

-- a, and then b
pub writes_more : {w v u : Wire} (a b : List ℕ) → Writes w a v → Writes v b u → Writes w (a ++ b) u
writes_more {w} {v} {u} a b t s = record {
  reads_is = s.reads_is ∙ t.reads_is;
  got_is = s.got_is ∙ t.got_is;
  told_is = s.told_is ∙ ap (λ (i : ℕ). counted_on i b) t.told_is ∙ counted_more w.told a b;
  ended_is = s.ended_is ∙ t.ended_is;
  failed_is = s.failed_is ∙ t.failed_is;
  sent_before = λ e. t.sent_before (s.sent_before e);
}

-- The wire w, after reads that gave these blocks, with so many left.
pub record Reached (w : Wire) (blocks : List (List ℕ)) (turns : ℕ) : Type 0 where
  pub none_empty : NoneEmpty blocks
  pub left : w.reads + turns ≡ max_reads
  pub got_is : w.got ≡ counted_on 0 (input_of blocks)

pub reached_none : Reached new_wire [] max_reads
reached_none = record { none_empty = tt; left = omega arith; got_is = refl }

-- writes change nothing of it
pub reached_still : {w : Wire} {bs : List (List ℕ)} {turns : ℕ} → Reached w bs turns → {b : List ℕ} {v : Wire}
    → Writes w b v → Reached v bs turns
reached_still a t = record {
  none_empty = a.none_empty;
  left = omega (arith, a.left, t.reads_is);
  got_is = t.got_is ∙ a.got_is;
}

-- One read more.
module _ {w : Wire} {bs : List (List ℕ)} {turns : ℕ} (a : Reached w bs turns) {l : List ℕ} {n : ℕ} {v : Wire}
    (r : Reads w l n v) where
  pub more_got : v.got ≡ counted_on 0 (input_of bs ++ take n l)
  more_got = r.got_is ∙ ap (λ (i : ℕ). counted_on i (take n l)) a.got_is ∙ counted_more 0 (input_of bs) (take n l)

  -- it gave something
  pub reached_more : v.ended ≡ false → {i : ℕ} → suc i ≡ turns → Reached v (take n l ∷ bs) i
  reached_more e q =
      let some : n ≡ 0 → ⊥ = eqb-false n 0 (sym r.ended_is ∙ e) in
      let below : w.reads + 1 < 2 ^ 64 = omega (arith, a.left, q) in
      record {
        none_empty = (omega (arith, some, length-take-le n l r.inside), a.none_empty);
        left = omega (arith, a.left, q, r.reads_is, mod-eq_of_lt below);
        got_is = more_got;
      }

  -- it gave nothing
  pub no_more : v.ended ≡ true → input_of bs ++ take n l ≡ input_of bs
  no_more e = ap (λ (i : ℕ). input_of bs ++ take i l) (eqb-true n 0 (sym r.ended_is ∙ e)) ∙ append-nil (input_of bs)

-- blocks, and a further one where it has bytes
abbrev pub with_block : List ℕ → List (List ℕ) → List (List ℕ)
with_block [] bs = bs
with_block (b ∷ l) bs = (b ∷ l) ∷ bs

pub with_block_input : (l : List ℕ) (bs : List (List ℕ)) → input_of (with_block l bs) ≡ input_of bs ++ l
with_block_input [] bs = sym (append-nil (input_of bs))
with_block_input (b ∷ l) bs = refl

pub with_block_none_empty : (l : List ℕ) (bs : List (List ℕ)) → NoneEmpty bs → NoneEmpty (with_block l bs)
with_block_none_empty [] bs h = h
with_block_none_empty (b ∷ l) bs h = (omega arith, h)
