-- What holds in the loop that serves all campaigns.
use mathlib.Core.Path.{◌≡◌, refl, ap, ◌∙◌, subst, subst⁻¹}
use mathlib.Core.Logic.{⊎_elim}
use mathlib.Core.List.{List}
use Prim.Native.Nat.{ℕ, ◌≤◌, ◌<◌}
use native.Mathlib.Omega.{arith}
use lib.ListN.{length}
use Rattle.finite.proofs.Tests.{never}
use Rattle.sets.specs.Set.{member, size, including, without, excluding}
use Rattle.sets.proofs.Algebra.{empty_member}
use Rattle.allotments.specs.Allotment.{at}
use Rattle.exchange.specs.Cited.{NoneFree, first_open, Bare, Seekable}
use Rattle.allotments.specs.Cited.{Market}
use Rattle.matching.specs.Method.{Everyone, Dearest, ByFallingPrice}
use Rattle.matching.specs.Method.ByFallingPrice.{start, serve}
use Rattle.matching.specs.Cited.{ServedIs, Frozen, Unserved, Standing, Matched}
use Rattle.exchange.proofs.Search.{taken_kept, open_is}
use Rattle.matching.proofs.Choosing.{one_fewer}
use Rattle.matching.proofs.Standing.{standing_first, standing_next}
use Rattle.matching.proofs.Method.{served}

pub record Underway (n : ℕ) (prices wholes views to₀ to level : List ℕ) (first closed bare unserved : ℕ) : Type 0 where
  pub market : Market n views
  pub room : length views ≤ length to
  pub same : length to ≡ length to₀
  pub long : length level ≡ 64
  pub inside : first ≤ length views
  pub taken : NoneFree to first
  pub none_free : Bare views to bare
  pub method : ByFallingPrice n (at prices) (at wholes) views to unserved
  pub standing : Standing n prices wholes views to level closed unserved
  pub beyond : (j : ℕ) → length views ≤ j → at to j ≡ at to₀ j

pub underway_start : (n : ℕ) (prices wholes views to level : List ℕ) (unserved : ℕ) → Unserved n views to level
    → Everyone n unserved → Underway n prices wholes views to to level 0 0 0 unserved
underway_start n prices wholes views to level unserved un all = record {
  market = un.market;
  room = un.room;
  same = refl;
  long = un.long;
  inside = omega arith;
  taken = λ j l e. omega arith;
  none_free = λ d l m. absurd (never (member 0 d) (empty_member d) m);
  method = start un.free all;
  standing = standing_first n prices wholes views to level 0 unserved un.market un.free un.zeros empty_member
      all;
  beyond = λ j b. refl;
}

module _ {n : ℕ} {prices wholes views to₀ to level : List ℕ} {first closed bare unserved c : ℕ}
    (u : Underway n prices wholes views to₀ to level first closed bare unserved)
    (ch : Dearest (at prices) unserved c) where
  pub ready_chosen : {first' : ℕ} → first' ≡ first_open (length views) to
      → Seekable views to c closed first' bare
  ready_chosen e = record {
    room = u.room;
    entries = λ j k. ⊎_elim (λ q. omega arith) (λ h. omega (arith, u.market.few, h.0)) (u.standing.entries j k);
    campaign = ch.inside;
    fresh = u.standing.waiting c ch.inside ch.waiting;
    inside = (open_is (length views) to e).0;
    taken = (open_is (length views) to e).1;
    none_free = u.none_free;
  }

  pub fewer_left : {one unserved' : ℕ} → one ≡ including 0 c → unserved' ≡ without unserved one
      → size unserved' < size unserved
  fewer_left eo e = subst⁻¹ (λ (x : ℕ). size x < size unserved) (e ∙ ap (without unserved) eo)
      (one_fewer unserved c ch.inside ch.waiting)

  pub underway_turn : {to' level' : List ℕ} {first' closed' bare' one unserved' plays price who : ℕ}
      → first' ≡ first_open (length views) to → plays ≡ at wholes c → price ≡ at prices c
      → who ≡ without closed' closed → one ≡ including 0 c → unserved' ≡ without unserved one
      → length to' ≡ length to → ServedIs views to to' c closed plays closed' bare' → Frozen level level' who price
      → Underway n prices wholes views to₀ to' level' first' closed' bare' unserved'
  underway_turn {to'} {level'} {first'} {closed'} {bare'} {who = who} e ep eq ew eo es len sv fz =
      let h = open_is (length views) to e in
      let sv' : ServedIs views to to' c closed (at wholes c) closed' bare' = subst (λ (x : ℕ). ServedIs views to to' c
      closed x closed' bare') ep sv in
      let fz' : Frozen level level' (without closed' closed) (at prices c) = subst (λ (x : ℕ). Frozen level level' x
      (at prices c)) ew (subst (λ (x : ℕ). Frozen level level' who x) eq fz) in
      let left = es ∙ ap (without unserved) eo in
      let st : Standing n prices wholes views to' level' closed' (excluding unserved c) = standing_next n prices
      wholes views to to' level level' closed closed' unserved c bare' u.market u.standing ch sv' fz' in
      record {
        market = u.market;
        room = omega (arith, u.room);
        same = len ∙ u.same;
        long = fz.long ∙ u.long;
        inside = h.0;
        taken = taken_kept views to to' first' h.0 sv.gains.changed h.1;
        none_free = sv.none_free;
        method = subst⁻¹ (λ (x : ℕ). ByFallingPrice n (at prices) (at wholes) views to' x) left (serve u.method
            ch (served u.market.few (u.standing.planned c ch.inside ch.waiting) st sv'));
        standing = subst⁻¹ (λ (x : ℕ). Standing n prices wholes views to' level' closed' x) left st;
        beyond = λ j b. sv.gains.beyond j b ∙ u.beyond j b;
      }

pub matched_end : {n : ℕ} {prices wholes views to₀ to level : List ℕ} {first closed bare unserved : ℕ} → Underway n
    prices wholes views to₀ to level first closed bare unserved → unserved ≡ 0
    → Matched n prices wholes views to₀ to level
matched_end {n} {prices} {wholes} {views} {to₀} {to} {level} {first} {closed} u e = record {
  method = subst (λ (x : ℕ). ByFallingPrice n (at prices) (at wholes) views to x) e u.method;
  closed = closed;
  standing = subst (λ (x : ℕ). Standing n prices wholes views to level closed x) e u.standing;
  beyond = u.beyond;
}
