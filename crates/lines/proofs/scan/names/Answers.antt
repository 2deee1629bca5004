-- A turn reads a space and a name, whose bit is above the set.
use Rattle.std.proofs.Common.{ℕ, suc, ◌+◌, arith, refl, sym, ap, ◌∙◌}
use Rattle.lines.specs.Limits.{set_bits}
use Rattle.lines.specs.Reading.{slot_at, set_at}
use Rattle.lines.specs.Cited.{found}
use Rattle.lines.proofs.NameTurns.{name_small, bit, bit_low, no_name, not_there, not_above, joins}
use Rattle.lines.proofs.scan.names.Goals as goal
use Rattle.lines.proofs.scan.names.Goals.{in_default, in_default-2}

pub loop-rest-init : goal.loop-rest-init
loop-rest-init c = (refl, omega arith)

pub returns-in_err-name : goal.returns-in_err-name
unfolding slot_at
returns-in_err-name c =
    let o = c.loop-rest in
    ap found c.from_residual.ensures
    ∙ sym (sym o.invariant.0 ∙ not_there o.set o.rest.now (omega arith) (omega arith) _ c.in_err-name.ensures refl)

pub overflow_shl-bit : goal.overflow_shl-bit
overflow_shl-bit c = name_small _ _ _ c.in_ok-name.ensures

pub returns-then-bit-set : goal.returns-then-bit-set
unfolding slot_at
returns-then-bit-set c =
    let o = c.loop-rest in
    let n = c.in_ok-name.name in
    let b = bit n (name_small _ _ _ c.in_ok-name.ensures) in
    sym (sym o.invariant.0
    ∙ not_above o.set o.rest.now (omega arith) (omega arith) _ c.in_ok-name.ensures n _ refl (omega (arith, b)))

pub overflow_add-set : goal.overflow_add-set
overflow_add-set c =
    let n = c.in_ok-name.name in
    let s = name_small _ _ _ c.in_ok-name.ensures in
    omega (arith, bit n s, bit_low n s)

pub loop-rest-smaller : goal.loop-rest-smaller
loop-rest-smaller c =
    let n = c.in_ok-name.name in
    let s = name_small _ _ _ c.in_ok-name.ensures in
    omega (arith, bit n s, bit_low n s)

pub loop-rest-preserved : goal.loop-rest-preserved
loop-rest-preserved c =
    let o = c.loop-rest in
    let n = c.in_ok-name.name in
    let s = name_small _ _ _ c.in_ok-name.ensures in
    let b = bit n s in (
      ap (λ (k : ℕ). set_at (suc set_bits) (o.set + k) c.in_ok-name.after.now) b
          ∙ sym (joins o.set o.rest.now (omega arith) (omega arith) _ c.in_ok-name.ensures n _ refl
          (omega (arith, b)) s)
          ∙ o.invariant.0,
      omega (arith, b, bit_low n s),
    )

pub returns : goal.returns
unfolding slot_at
returns c =
    let o = c.loop-rest in
    sym (sym o.invariant.0 ∙ no_name o.set o.rest.now (λ a b.
    elim c.if-rest-lt1.branch [ in_default w ↦ omega arith | in_default-2 w ↦ omega arith ]))
