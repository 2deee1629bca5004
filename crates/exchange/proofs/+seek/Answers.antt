-- Each way out of a turn has its law in `Seeking`; a chain that fails adds what it visited.
use mathlib.Core.Path.{◌≡◌, sym, subst, subst⁻¹, ◌∙◌}
use mathlib.Core.Bool.{Bool, true, false}
use mathlib.Core.List.{List}
use Prim.Native.Nat.{ℕ, ◌+◌, ◌<◌}
use Rattle.sets.specs.Set.{member}
use Rattle.allotments.specs.Allotment.{at}
use Rattle.exchange.proofs.Search.{left_out}
use Rattle.exchange.proofs.Seeking.{Seeking, sought_free, seeking_start, holder_small, falls_here, ready_holder}
use Rattle.exchange.proofs.Seeking.{sought_chain, seeking_failed, seeking_visited, seeking_unnamed, sought_none}
use Rattle.exchange.proofs.+seek.Goals as goal
use Rattle.exchange.proofs.+seek.Goals.{then-has+then-not-has+in-Shut, then-has+else-not-has, else-has}

pub returns-in-Some : goal.returns-in-Some
returns-in-Some t c =
    let a = c.args in
    let free = c.in-Some.ensures in
    sought_free a.views.now a.allotment.now a.campaign a.visited a.first a.bare c.in-Some.free c.requires free.0 free.1

pub loop-j-init : goal.loop-j-init
loop-j-init t c =
    let a = c.args in
    seeking_start a.views.now a.allotment.now a.campaign a.visited a.first a.bare
    c.including-seen.result c.including-known.result c.requires
    c.in_default.ensures c.including-seen.ensures c.including-known.ensures

pub has-requires-then-has : goal.has-requires-then-has
has-requires-then-has t c =
    let a = c.args in
    let l = c.loop-j in
    holder_small a.views.now a.allotment.now a.campaign a.visited a.first a.bare l.allotment
    l.seen l.known l.j l.invariant c.loop-j-test.true (sym c.has.ensures ∙ c.if-has.true)

pub seek-requires : goal.seek-requires
seek-requires t c =
    let a = c.args in
    let l = c.loop-j in (
      subst (λ (n : ℕ). left_out l.seen < n) c.decreases (falls_here a.views.now a.allotment.now
          a.campaign a.visited a.first a.bare l.allotment l.seen l.known l.j l.invariant),
      ready_holder a.views.now a.allotment.now a.campaign a.visited a.first a.bare l.allotment
          l.seen l.known l.j l.invariant c.loop-j-test.true
          (sym c.has.ensures ∙ c.if-has.true)
          (sym c.has-then-has.ensures ∙ c.if-not-has.true),
    )

pub returns-in-Found : goal.returns-in-Found
returns-in-Found t c =
    let a = c.args in
    let l = c.loop-j in
    sought_chain a.views.now a.allotment.now a.campaign a.visited
    a.first a.bare l.allotment l.seen l.known l.j l.invariant c.seek.new.allotment
    c.in-Found.bare c.loop-j-test.true (sym c.has.ensures ∙ c.if-has.true)
    (sym c.has-then-has.ensures ∙ c.if-not-has.true)
    c.seek.auto.allotment c.in-Found.ensures

pub loop-j-preserved : goal.loop-j-preserved
loop-j-preserved t c =
    let a = c.args in
    let l = c.loop-j in
    let k = c.loop-j-test.true in
    let named : (b : Bool) → c.has.result ≡ b → member (at a.views.now l.j) a.campaign ≡ b =
    λ b e. sym c.has.ensures ∙ e in
    let Kept : List ℕ → ℕ → ℕ → Type 0 = λ to seen known. Seeking a.views.now a.allotment.now a.campaign
    a.visited a.first a.bare to seen known (l.j + 1) in
    let moved : (to : List ℕ) (seen known : ℕ) → c.if-has.allotment ≡ to → c.if-has.seen ≡ seen → c.if-has.known ≡ known
    → Kept to seen known → Kept c.if-has.allotment c.if-has.seen c.if-has.known
    = λ to seen known p q u s. subst⁻¹ (λ (x : List ℕ). Kept x c.if-has.seen c.if-has.known) p
    (subst⁻¹ (λ (x : ℕ). Kept to x c.if-has.known) q (subst⁻¹ (λ (x : ℕ). Kept to seen x) u s)) in
    elim c.if-has.branch [
      | then-has+then-not-has+in-Shut w ↦ moved w.seek.new.allotment w.in-Shut.visited w.in-Shut.bare
          w.allotment-is w.seen-is w.known-is
          (seeking_failed a.views.now a.allotment.now a.campaign a.visited a.first a.bare
          l.allotment l.seen l.known l.j l.invariant w.seek.new.allotment w.in-Shut.visited
          w.in-Shut.bare k (named true w.if-has.true) w.in-Shut.ensures)
      | then-has+else-not-has w ↦ moved l.allotment l.seen l.known w.allotment-is w.seen-is w.known-is
          (seeking_visited a.views.now a.allotment.now a.campaign a.visited a.first a.bare l.allotment l.seen
          l.known l.j l.invariant k (sym w.has-then-has.ensures ∙ w.if-not-has.false))
      | else-has w ↦ moved l.allotment l.seen l.known w.allotment-is w.seen-is w.known-is (seeking_unnamed a.views.now
          a.allotment.now a.campaign a.visited a.first a.bare l.allotment l.seen l.known l.j l.invariant
          (named false w.if-has.false))
    ]

pub returns : goal.returns
returns t c =
    let a = c.args in
    let l = c.loop-j in
    sought_none a.views.now a.allotment.now a.campaign a.visited
    a.first a.bare l.allotment l.seen l.known l.j l.invariant c.loop-j-test.false
