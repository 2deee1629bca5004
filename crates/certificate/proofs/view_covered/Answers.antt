-- The names that are not left are covered; the least of those left is looked at, and one that is not fails the test.
use mathlib.Core.Path.{◌≡◌, ap, sym, subst, ◌∙◌}
use Rattle.sets.specs.declared.Members.{Members}
use mathlib.Core.Bool.{Bool, true}
use Prim.Native.Nat.{ℕ, ◌+◌, ◌≤◌, ◌<◌}
use native.Mathlib.Omega.{arith}
use lib.Dec.{leb}
use borrow.Author.Tests.{le-leb, lt-leb}
use Rattle.sets.specs.Set.{next, beyond, within}
use Rattle.sets.proofs.Bounds.{within_member}
use Rattle.allotments.specs.Allotment.{at}
use Rattle.certificate.proofs.Passes.{Walked, walked_start, walked_small, walked_named, walked_turn, walked_end}
use Rattle.certificate.proofs.Passes.{walked_stop}
use Rattle.certificate.proofs.view_covered.Goals as goal

pub loop-c-init : goal.loop-c-init
loop-c-init c =
    let a = c.args in
    let p : ℕ → Bool = λ d. leb (at a.prices.now d) (at a.surplus.now d + a.figure) in
    subst (λ (x : Members). Walked a.view p x.0) (sym c.into_iter-c-iterator.ensures.into_iter_gives)
    (walked_start a.view p c.ranges.view.fits)

-- the name at hand is one of the plan's
hand : {view left i : ℕ} (p : ℕ → Bool) → (left ≡ 0 → ⊥) → i ≡ next left 0 → Walked view p left → i < 64
hand {view} {left} {i} p = walked_small view p left i

inside : {count view left i : ℕ} (p : ℕ → Bool) → within count view ≡ true → (left ≡ 0 → ⊥) → i ≡ next left 0
    → Walked view p left → i < count
inside {count} {view} {left} {i} p w some e l =
    within_member count view i w (hand p some e l) (walked_named view p left i some e l)

pub offset_bounds-prices-at : goal.offset_bounds-prices-at
offset_bounds-prices-at c = omega (
  arith,
  hand (λ d. leb (at c.args.prices.now d) (at c.args.surplus.now d + c.args.figure)) c.in-Some.ensures.steps.0
      c.in-Some.ensures.steps.1 c.loop-c.invariant,
)

pub bounds-prices-at : goal.bounds-prices-at
bounds-prices-at c = omega (
  arith,
  hand (λ d. leb (at c.args.prices.now d) (at c.args.surplus.now d + c.args.figure)) c.in-Some.ensures.steps.0
      c.in-Some.ensures.steps.1 c.loop-c.invariant,
)

pub offset_bounds-surplus-at : goal.offset_bounds-surplus-at
offset_bounds-surplus-at c = omega (
  arith,
  hand (λ d. leb (at c.args.prices.now d) (at c.args.surplus.now d + c.args.figure)) c.in-Some.ensures.steps.0
      c.in-Some.ensures.steps.1 c.loop-c.invariant,
)

pub bounds-surplus-at : goal.bounds-surplus-at
bounds-surplus-at c =
    omega (
      arith,
      c.requires.1,
      inside (λ d. leb (at c.args.prices.now d) (at c.args.surplus.now d + c.args.figure)) c.requires.2
          c.in-Some.ensures.steps.0 c.in-Some.ensures.steps.1 c.loop-c.invariant,
    )

pub returns-then-figure-saturating_sub : goal.returns-then-figure-saturating_sub
returns-then-figure-saturating_sub c =
    let a = c.args in
    let l = c.loop-c in
    sym (walked_stop a.view (λ d. leb (at a.prices.now d) (at a.surplus.now d + a.figure)) l.c-iterator.0
    c.in-Some.c c.in-Some.ensures.steps.0 c.in-Some.ensures.steps.1 l.invariant a.count
    (inside (λ d. leb (at a.prices.now d) (at a.surplus.now d + a.figure)) c.requires.2 c.in-Some.ensures.steps.0
    c.in-Some.ensures.steps.1 l.invariant)
    (lt-leb (at a.prices.now c.in-Some.c) (at a.surplus.now c.in-Some.c + a.figure)
    (omega (arith, c.if-figure-saturating_sub.true, c.saturating_sub.ensures, c.from-price.ensures))))

pub loop-c-preserved : goal.loop-c-preserved
loop-c-preserved c =
    let a = c.args in
    let l = c.loop-c in
    let i = c.in-Some.c in
    let fine : at a.prices.now i ≤ at a.surplus.now i + a.figure =
    omega (arith, c.if-figure-saturating_sub.false, c.saturating_sub.ensures, c.from-price.ensures) in
    walked_turn a.view (λ d. leb (at a.prices.now d) (at a.surplus.now d + a.figure)) l.c-iterator.0 i
    c.in-Some.ensures.steps.0 c.in-Some.ensures.steps.1 l.invariant c.next.new.self.0
    (c.in-Some.ensures.steps.2 ∙ ap (beyond l.c-iterator.0) (sym c.in-Some.ensures.steps.1)) (le-leb (at a.prices.now i)
    (at a.surplus.now i + a.figure) fine)

pub returns : goal.returns
returns c =
    let a = c.args in
    let l = c.loop-c in
    sym (walked_end a.view (λ d. leb (at a.prices.now d) (at a.surplus.now d + a.figure)) a.count
    l.c-iterator.0 c.requires.0 c.in-None.ensures.steps.0 l.invariant)
