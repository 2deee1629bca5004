-- The plays of one campaign.
use mathlib.Core.Path.{◌≡◌, refl, ◌∙◌, subst⁻¹}
use mathlib.Core.Logic.{inl, inr, ⊎_elim}
use mathlib.Core.Bool.{true}
use mathlib.Core.List.{List}
use Prim.Native.Nat.{ℕ, ◌+◌, ◌<◌}
use native.Mathlib.Omega.{arith}
use lib.ListN.{length}
use Rattle.sets.specs.Set.{member, including}
use Rattle.sets.proofs.Algebra.{including_keeps}
use Rattle.allotments.specs.Allotment.{at}
use Rattle.exchange.specs.Cited.{first_open, Bare, Seekable, Gained}
use Rattle.matching.specs.Method.Found.{none, one_more}
use Rattle.matching.specs.Cited.{Gains}
use Rattle.exchange.proofs.Search.{taken_kept, open_is}

-- at first nothing is gained
pub gains_none : (views to : List ℕ) (c closed : ℕ) → Gains views to to c closed 0
gains_none views to c closed = record {
  found = none;
  more = omega arith;
  same = λ d l ne. refl;
  changed = λ j l. inl refl;
  kept =
      λ j l m. refl;
  beyond = λ j b. refl;
}

-- and each search that finds a view gains one
pub gains_one : (views to to' to'' : List ℕ) (c closed k : ℕ) → Gains views to to' c closed k → Gained views to' to''
    c closed → Gains views to to'' c closed (k + 1)
gains_one views to to' to'' c closed k g h = record {
  found = one_more g.found h.chain;
  more = omega (arith, g.more, h.more);
  same = λ d l ne. h.same d l ne ∙ g.same d l ne;
  changed = λ j l. ⊎_elim (λ e. ⊎_elim (λ q. inl (e ∙ q)) (λ q. inr (rw e q.0, rw e q.1)) (g.changed j l))
      (λ q. inr q) (h.changed j l);
  kept = λ j l m.
      let e = g.kept j l m in
      h.kept j (subst⁻¹ (λ (x : ℕ). x < 64) e l) (subst⁻¹ (λ (x : ℕ). member (including closed c) x ≡ true) e
      (including_keeps closed c (at to j) l m)) ∙ e;
  beyond = λ j b. h.beyond j b ∙ g.beyond j b;
}

-- a search may follow from a later place
pub ready_from : (views to : List ℕ) (c closed first bare first' : ℕ) → Seekable views to c closed first bare
    → first' ≡ first_open (length views) to → Seekable views to c closed first' bare
ready_from views to c closed first bare first' r e = record {
  room = r.room;
  entries = r.entries;
  campaign = r.campaign;
  fresh = r.fresh;
  inside = (open_is (length views) to e).0;
  taken = (open_is (length views) to e).1;
  none_free = r.none_free;
}

-- and after one that found a view: the entries stay campaigns or 64
pub ready_after : (views to to' : List ℕ) (c closed first bare bare' : ℕ) → Seekable views to c closed first bare
    → length to' ≡ length to → Gained views to to' c closed → Bare views to' bare'
    → Seekable views to' c closed first bare'
ready_after views to to' c closed first bare bare' r e g b = record {
  room = omega (arith, r.room);
  entries = λ j l. ⊎_elim (λ q. omega (arith, r.entries j l)) (λ q. omega arith) (g.changed j l);
  campaign = r.campaign;
  fresh = r.fresh;
  inside = r.inside;
  taken = taken_kept views to to' first r.inside g.changed r.taken;
  none_free = b;
}
