-- Serving campaigns in falling price keeps the standing, and what stands at the end is certified.
use mathlib.Core.Path.{◌≡◌, refl, ap, sym, ◌∙◌, subst⁻¹}
use mathlib.Core.Logic.{◌⊎◌, inl, inr, ⊎_elim}
use mathlib.Core.Bool.{Bool, true, false, cond, not, ◌&&◌}
use mathlib.Core.List.{List}
use Prim.Native.Nat.{ℕ, ◌+◌, ◌-◌, ◌*◌, ◌≤◌, ◌<◌}
use native.Mathlib.Omega.{arith}
use lib.ListN.{length}
use borrow.Author.Tests.{ltb-true, lt-ltb, le-ltb}
use Rattle.finite.proofs.Sums.{sum_eq, sum_add}
use Rattle.finite.proofs.Tests.{never}
use Rattle.sets.specs.Set.{member, without, excluding}
use Rattle.sets.proofs.Algebra.{empty_member, without_member}
use Rattle.sets.proofs.Bounds.{within_member}
use Rattle.allotments.specs.Allotment.{at, brings, takings, Certified}
use Rattle.allotments.proofs.Cases.{same_or_not, true_or_not}
use Rattle.allotments.proofs.Takings.{by_campaign}
use Rattle.exchange.specs.Cited.{holds, Failed}
use Rattle.allotments.specs.Cited.{Market}
use Rattle.matching.specs.Method.{Everyone, Dearest}
use Rattle.matching.specs.Cited.{Gains, ServedIs, Frozen, Entry, Standing}
use Rattle.matching.specs.Cited.{campaign_figure, view_figure}
use Rattle.exchange.proofs.Entries.{holds_none}
use Rattle.matching.proofs.Choosing.{was_in, one_out, others_stay}

-- the levels after the newly closed campaigns are frozen: theirs are the price, the others stand
new_level : (level level' : List ℕ) (closed closed' price : ℕ) → Frozen level level' (without closed' closed) price
    → (d : ℕ) → d < 64 → member closed d ≡ false → member closed' d ≡ true → at level' d ≡ price
new_level level level' closed closed' price f d l p q =
    f.each d l ∙ ap (λ (b : Bool). cond b price (at level d)) (without_member closed' closed d l ∙ ap
    (λ (b : Bool). b && not (member closed d)) q ∙ ap not p)

old_level : (level level' : List ℕ) (closed closed' price : ℕ) → Frozen level level' (without closed' closed) price
    → (d : ℕ) → d < 64 → (member closed d ≡ true) ⊎ (member closed' d ≡ false) → at level' d ≡ at level d
old_level level level' closed closed' price f d l h =
    f.each d l ∙ ap (λ (b : Bool). cond b price (at level d)) (without_member closed' closed d l ∙ out
    (member closed' d) (member closed d) h)
  where
    out : (a b : Bool) → (b ≡ true) ⊎ (a ≡ false) → (a && not b) ≡ false
    out true true h = refl
    out true false (inl e) = sym e
    out true false (inr e) = e
    out false b h = refl

-- one more campaign is served
module _ (n : ℕ) (prices wholes views to to' level level' : List ℕ) (closed closed' unserved c bare : ℕ)
    (mk : Market n views) (st : Standing n prices wholes views to level closed unserved)
    (ch : Dearest (at prices) unserved c)
    (sv : ServedIs views to to' c closed (at wholes c) closed' bare) (fz : Frozen level level' (without closed' closed)
    (at prices c)) where
  g : Gains views to to' c closed sv.plays
  g = sv.gains

  c_small : c < 64
  c_small = ch.inside

  c_in : c < n
  c_in = st.planned c c_small ch.waiting

  abbrev now : ℕ
  now = excluding unserved c

  -- who is not served now was not before, and is not c
  other : (d : ℕ) → member now d ≡ true → d ≡ c → ⊥
  other d z e = never (member now c) (one_out unserved c c_small) (ap (member now) (sym e) ∙ z)

  before : (d : ℕ) → d < 64 → member now d ≡ true → member unserved d ≡ true
  before d l z = was_in unserved c d l z

  planned' : (d : ℕ) → d < 64 → member now d ≡ true → d < n
  planned' d l z = st.planned d l (before d l z)

  -- who is closed is closed still
  stays : (d : ℕ) → d < 64 → member closed d ≡ true → member closed' d ≡ true
  stays d l m = ⊎_elim (λ q. ap (λ (x : ℕ). member x d) q.1 ∙ m) (λ f. f.grown d l m) sv.ended

  -- who is newly closed is so by a search that failed
  failed : (d : ℕ) → member closed d ≡ false → member closed' d ≡ true → Failed views to' to' c closed closed'
  failed d p m = ⊎_elim (λ q. absurd (never (member closed d) p (sym (ap (λ (x : ℕ). member x d) q.1) ∙ m)))
      (λ f. f) sv.ended

  old : (d : ℕ) → d < 64 → member closed d ≡ true → at level' d ≡ at level d
  old d l m = old_level level level' closed closed' (at prices c) fz d l (inl m)

  new : (d : ℕ) → d < 64 → member closed d ≡ false → member closed' d ≡ true → at level' d ≡ at prices c
  new d l p m = new_level level level' closed closed' (at prices c) fz d l p m

  -- who is waiting holds nothing
  idle' : (d : ℕ) → d < 64 → member now d ≡ true → holds views to' d ≡ 0
  idle' d l z = g.same d l (other d z) ∙ st.idle d l (before d l z)

  -- who holds a view or is c is as dear as c
  dear : (d : ℕ) → d < n → (d ≡ c) ⊎ (0 < holds views to' d) → at prices c ≤ at prices d
  dear d l (inl e) = omega (arith, ap (at prices) e)
  dear d l (inr p) = ⊎_elim (λ z. idle z (same_or_not d c)) (λ m. st.falling c c_small ch.waiting d l m)
      (true_or_not (member unserved d))
    where
      small : d < 64
      small = omega (arith, mk.few)

      idle : member unserved d ≡ true → (d ≡ c) ⊎ (d ≡ c → ⊥) → at prices c ≤ at prices d
      idle z (inl e) = omega (arith, ap (at prices) e)
      idle z (inr ne) = absurd (omega (arith, p, g.same d small ne, st.idle d small z))

  waiting' : (d : ℕ) → d < 64 → member now d ≡ true → member closed' d ≡ false
  waiting' d l z = ⊎_elim (λ m. absurd (⊎_elim (λ e. other d z e) (λ p. omega (arith, p, idle' d l z))
      ((failed d (st.waiting d l (before d l z)) m).reached d l (st.waiting d l (before d l z)) m))) (λ m. m)
      (true_or_not (member closed' d))

  bought' : (d : ℕ) → d < n → holds views to' d ≤ at wholes d
  bought' d l = ⊎_elim
      (λ e. subst⁻¹ (λ (k : ℕ). holds views to' k ≤ at wholes k) e
      (omega (arith, g.more, st.idle c c_small ch.waiting, sv.most)))
      (λ ne. omega (arith, g.same d (omega (arith, mk.few)) ne, st.bought d l))
      (same_or_not d c)

  full' : (d : ℕ) → d < n → member now d ≡ false → (holds views to' d ≡ at wholes d) ⊎ ((member closed' d ≡ true)
      × (at level' d ≡ at prices d))
  full' d l m = ⊎_elim
      (λ e. subst⁻¹ (λ (k : ℕ). (holds views to' k ≡ at wholes k) ⊎ ((member closed' k ≡ true)
      × (at level' k ≡ at prices k))) e
      (⊎_elim (λ q. inl (omega (arith, g.more, st.idle c c_small ch.waiting, q.0)))
      (λ f. inr (f.self, new c c_small (st.waiting c c_small ch.waiting) f.self)) sv.ended))
      (λ ne. ⊎_elim
      (λ q. inl (g.same d small ne ∙ q))
      (λ q. inr (stays d small q.0, old d small q.0 ∙ q.1))
      (st.full d l (sym (others_stay unserved c c_small d small ne) ∙ m)))
      (same_or_not d c)
    where
      small : d < 64
      small = omega (arith, mk.few)

  low' : (d : ℕ) → d < n → at level' d ≤ at prices d
  low' d l = ⊎_elim (λ m. omega (arith, old d small m, st.low d l))
      (λ p. ⊎_elim (λ m. omega (arith, new d small p m, dear d l ((failed d p m).reached d small p m)))
      (λ q. omega (arith, old_level level level' closed closed' (at prices c) fz d small (inr q), st.low d l))
      (true_or_not (member closed' d))) (true_or_not (member closed d))
    where
      small : d < 64
      small = omega (arith, mk.few)

  none' : (d : ℕ) → d < 64 → member closed' d ≡ false → at level' d ≡ 0
  none' d l q = old_level level level' closed closed' (at prices c) fz d l (inr q) ∙ st.none d l
      (⊎_elim (λ m. absurd (never (member closed' d) q (stays d l m))) (λ p. p) (true_or_not (member closed d)))

  levels' : (d : ℕ) → d < 64 → member now d ≡ true → (e : ℕ) → e < 64 → member closed' e ≡ true → at prices d ≤ at
      level' e
  levels' d l z e k m =
      let w = before d l z in
      ⊎_elim (λ p. omega (arith, old e k p, st.levels d l w e k p)) (λ p. omega (arith, new e k p m, ch.top d l w))
      (true_or_not (member closed e))

  held' : (d : ℕ) → d < n → member closed' d ≡ true → (j : ℕ) → j < length views
      → member (at views j) d ≡ true → (at to' j < 64) × (member closed' (at to' j) ≡ true) × (at level' d ≤ at level'
      (at to' j))
  held' d l m j k nm = ⊎_elim was fresh (true_or_not (member closed d))
    where
      small : d < 64
      small = omega (arith, mk.few)

      -- closed before: the view's holder was too, and keeps the view
      was : member closed d ≡ true → (at to' j < 64) × (member closed' (at to' j) ≡ true) × (at level' d ≤ at level'
          (at to' j))
      was p =
          let h = st.held d l p j k nm in
          let e : at to' j ≡ at to j = g.kept j h.0 h.1 in
          subst⁻¹ (λ (x : ℕ). (x < 64) × (member closed' x ≡ true) × (at level' d ≤ at level' x)) e
          (h.0, stays (at to j) h.0 h.1, omega (arith, old d small p, old (at to j) h.0 h.1, h.2))

      -- newly closed: the view's holder is closed, at the price or higher
      fresh : member closed d ≡ false → (at to' j < 64) × (member closed' (at to' j) ≡ true)
          × (at level' d ≤ at level' (at to' j))
      fresh p =
          let h = (failed d p m).shut d small p m j k nm in (
            h.0,
            h.1,
            ⊎_elim
                (λ q. omega (
                  arith,
                  new d small p m,
                  old (at to' j) h.0 q,
                  st.levels c c_small ch.waiting
                      (at to' j) h.0 q,
                ))
                (λ q. omega (arith, new d small p m, new (at to' j) h.0 q h.1))
                (true_or_not (member closed (at to' j))),
          )

  falling' : (d : ℕ) → d < 64 → member now d ≡ true → (e : ℕ) → e < n → member now e ≡ false → at prices d ≤ at prices e
  falling' d l z e k m =
      let w = before d l z in
      ⊎_elim (λ q. omega (arith, ch.top d l w, ap (at prices) q)) (λ ne. st.falling d l w e k
      (sym (others_stay unserved c c_small e (omega (arith, mk.few)) ne) ∙ m)) (same_or_not e c)

  entries' : (j : ℕ) → j < length views → Entry n views to' j
  entries' j l = ⊎_elim
      (λ q. subst⁻¹ (λ (a : ℕ). (a ≡ 64) ⊎ ((a < n) × (member (at views j) a ≡ true))) q (st.entries j l))
      (λ q. inr (within_member n (at views j) (at to' j) (mk.inside j l) q.0 q.1, q.1))
      (g.changed j l)

  pub standing_next : Standing n prices wholes views to' level' closed' (excluding unserved c)
  standing_next = record {
    entries = entries';
    bought = bought';
    planned = planned';
    idle = idle';
    waiting = waiting';
    full = full';
    low = low';
    none = none';
    held = held';
    falling = falling';
    levels = levels';
  }

-- at first no view is given, and no campaign served or closed
pub standing_first : (n : ℕ) (prices wholes views to level : List ℕ) (closed unserved : ℕ) → Market n views
    → ((j : ℕ) → j < length views → at to j ≡ 64)
    → ((d : ℕ) → at level d ≡ 0) → ((d : ℕ) → member closed d ≡ false) → Everyone n unserved
    → Standing n prices wholes views to level closed unserved
standing_first n prices wholes views to level closed unserved mk free zl zc all = record {
  entries = λ j l. inl (free j l);
  bought = λ d l. omega (arith, holds_none (length views) (at to) d (omega (arith, mk.few)) free);
  planned = λ d l m. ltb-true d n (sym (all d l) ∙ m);
  idle = λ d l z. holds_none (length views) (at to) d l free;
  waiting = λ d l z. zc d;
  full = λ d l m. absurd (served d l m);
  low = λ d l. omega (arith, zl d);
  none = λ d l z. zl d;
  held = λ d l m. absurd (never (member closed d) (zc d) m);
  falling = λ d l z e k m. absurd (served e k m);
  levels = λ d l z e k m. absurd (never (member closed e) (zc e) m);
}
  where
    served : (d : ℕ) → d < n → member unserved d ≡ false → ⊥
    served d l m = never (member unserved d) m (all d (omega (arith, mk.few)) ∙ lt-ltb d n l)

-- where all are served, the figures fit
module _ (n : ℕ) (prices wholes views to level : List ℕ) (closed : ℕ) (mk : Market n views)
    (st : Standing n prices wholes views to level closed 0) where
  -- an entry's price is its campaign's figure and its view's
  split : (j : ℕ) → j < length views → brings n (at prices) (at to j) ≡ brings n (campaign_figure prices level)
      (at to j) + view_figure to level j
  split j l = go (st.entries j l)
    where
      go : Entry n views to j → brings n (at prices) (at to j) ≡ brings n (campaign_figure prices level) (at to j) +
          view_figure to level j
      go (inl e) = rw (le-ltb (at to j) n (omega (arith, mk.few)), le-ltb (at to j) 64 (omega arith))
      go (inr h) = rw (lt-ltb (at to j) n h.0, lt-ltb (at to j) 64 (omega (arith, mk.few, h.0)))
          (omega (arith, st.low (at to j) h.0))

  bought_all : (c : ℕ) → c < n → campaign_figure prices level c * holds views to c ≡ campaign_figure prices level c *
      at wholes c
  bought_all c l = ⊎_elim
      (λ q. ap (λ (x : ℕ). campaign_figure prices level c * x) q)
      (λ q. let z : at prices c - at level c ≡ 0 = omega (arith, q.1) in omega
      (arith, ap (λ (x : ℕ). x * holds views to c) z, ap (λ (x : ℕ). x * at wholes c) z))
      (st.full c l (empty_member c))

  covered : (j : ℕ) → j < length views → (c : ℕ) → c < n → member (at views j) c ≡ true → at prices c ≤
      campaign_figure prices level c + view_figure to level j
  covered j l c k nm = ⊎_elim
      (λ m. let h = st.held c k m j l nm in let q : view_figure to level j ≡ at level (at to j) = rw
      (lt-ltb (at to j) 64 h.0) in omega (arith, q, h.2))
      (λ m. omega (arith, st.none c (omega (arith, mk.few)) m))
      (true_or_not (member closed c))

  pub standing_certified : Certified n (at prices) (at wholes) (length views) (at views) (at to)
      (campaign_figure prices level) (view_figure to level)
  unfolding takings
  standing_certified = record {
    allotted = record { given = λ j l. ⊎_elim (λ e. inl e) (λ h. inr h.1) (st.entries j l); bought = st.bought };
    covers = covered;
    equal = omega (
      arith,
      sum_eq (length views) (λ j. brings n (at prices) (at to j)) (λ j. brings n (campaign_figure prices level)
          (at to j) + view_figure to level j) split,
      sum_add (length views) (λ j. brings n (campaign_figure prices level) (at to j)) (view_figure to level),
      by_campaign n (campaign_figure prices level) (length views) (at to),
      sum_eq n (λ c. campaign_figure prices level c * holds views to c) (λ c. campaign_figure prices level c * at
          wholes c) bought_all,
    );
  }
