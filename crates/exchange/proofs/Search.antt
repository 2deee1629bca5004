-- The search for one more view, turn by turn.
use mathlib.Core.Path.{◌≡◌, refl, ap, sym, ◌∙◌, subst, subst⁻¹}
use mathlib.Core.Logic.{◌⊎◌, inl, inr, ⊎_elim}
use mathlib.Core.Bool.{Bool, true, false, cond, not, ◌&&◌}
use mathlib.Core.List.{List}
use Prim.Native.Nat.{ℕ, ◌+◌, ◌≤◌, ◌<◌}
use native.Mathlib.Nat.{le_refl, not-suc-le-zero}
use native.Mathlib.Omega.{arith}
use lib.Dec.{eqb}
use lib.ListN.{length, set}
use borrow.Author.Tests.{eqb-true, eq-eqb, ne_eqb}
use Rattle.finite.specs.Finite.{one_if, count}
use Rattle.finite.proofs.Sums.{sum_le, sum_split, hide}
use Rattle.finite.proofs.Tests.{never, both_left, both_right, both_join}
use Rattle.finite.proofs.Least.{Least, least_is, least_unique}
use Rattle.sets.specs.Set.{member, including}
use Rattle.sets.proofs.Algebra.{including_same, including_keeps, including_other}
use Rattle.allotments.specs.Allotment.{at, times}
use Rattle.allotments.proofs.Cases.{same_or_not, true_or_not, one_same, one_other}
use Rattle.exchange.specs.Chain.Chain.{given, moved}
use Rattle.exchange.specs.Cited.{holds, free, first_open, NoneFree, first_free, Seekable}
use Rattle.exchange.specs.Cited.{Changed, Gained, Held, Failed}
use Rattle.exchange.proofs.Entries.{at_same, at_other, times_set, holds_some}

-- how many of the 64 campaigns are not in the set
unfoldable pub left_out : ℕ → ℕ
left_out set = count 64 (λ i. not (member set i))

-- fewer, where the set has all of the other's and one more
pub fewer : (a b c : ℕ) → ((d : ℕ) → d < 64 → member a d ≡ true → member b d ≡ true) → c < 64 → member a c ≡ false
    → member b c ≡ true → left_out b < left_out a
unfolding left_out count
fewer a b c h l p q =
    omega (
      arith,
      sum_split 64 c f l,
      sum_split 64 c g l,
      sum_le 64 (hide c g) (hide c f) (λ i k. hidden i (eqb i c)
          k),
      ap (λ (t : Bool). one_if (not t)) p,
      ap (λ (t : Bool). one_if (not t)) q,
    )
  where
    f : ℕ → ℕ
    f i = one_if (not (member a i))

    g : ℕ → ℕ
    g i = one_if (not (member b i))

    both : (s t : Bool) → (s ≡ true → t ≡ true) → one_if (not t) ≤ one_if (not s)
    both true t k = rw (k refl) (le_refl 0)
    both false true k = omega arith
    both false false k = le_refl 1

    hidden : (i : ℕ) (t : Bool) → i < 64 → cond t 0 (g i) ≤ cond t 0 (f i)
    hidden i true k = le_refl 0
    hidden i false k = both (member a i) (member b i) (h i k)

-- what is given stays given
pub taken_kept : (views to to' : List ℕ) (first : ℕ) → first ≤ length views → ((j : ℕ) → j < length views → Changed
    views to to' j) → NoneFree to first → NoneFree to' first
taken_kept views to to' first l h t j k e = ⊎_elim (λ q. t j k (sym q ∙ e)) (λ q. omega (arith, q.0))
    (h j (omega arith))

pub taken_more : (to : List ℕ) (first : ℕ) → NoneFree to first → (at to first ≡ 64 → ⊥) → NoneFree to (first + 1)
taken_more to first t ne j l e = ⊎_elim (λ q. ne (ap (at to) (sym q) ∙ e)) (λ k. t j (omega arith) e)
    (same_or_not j first)

-- the first view that is given to nobody
module _ (n : ℕ) (to : List ℕ) where
  open_least : Least n (λ j. eqb (at to j) 64) (first_open n to)
  unfolding first_open
  open_least = least_is n (λ j. eqb (at to j) 64)

  -- a place below which every view is given, and which is open itself or n, is the first
  pub open_here : (r : ℕ) → r ≤ n → NoneFree to r → (r < n → at to r ≡ 64) → r ≡ first_open n to
  open_here r l t e = least_unique n (λ j. eqb (at to j) 64) r (first_open n to) (record {
    most = l;
    none = λ j k. ne_eqb (at to j) 64 (t j k);
    found = λ k. eq-eqb (at to r) 64 (e k);
  }) open_least

  -- all below it are given
  pub open_is : {r : ℕ} → r ≡ first_open n to → (r ≤ n) × NoneFree to r
  open_is {r} q = (
    omega (arith, q, open_least.most),
    λ j l e. never (eqb (at to j) 64) (open_least.none j (omega (arith, q))) (eq-eqb (at to j) 64 e),
  )

-- the first free view, and that there is none
module _ (views to : List ℕ) (c : ℕ) where
  pub first_least : Least (length views) (free views to c) (first_free views to c)
  unfolding first_free
  first_least = least_is (length views) (free views to c)

  -- the loop that looks for it
  pub passed_taken : (first : ℕ) → NoneFree to first → (i : ℕ) → i < first → free views to c i ≡ false
  passed_taken first t i l = ap (λ (b : Bool). b && member (at views i) c) (ne_eqb (at to i) 64 (t i l))

  pub passed_one : (j : ℕ) → ((i : ℕ) → i < j → free views to c i ≡ false) → free views to c j ≡ false → (i : ℕ) → i <
      j + 1 → free views to c i ≡ false
  passed_one j h e i l = ⊎_elim (λ q. ap (free views to c) q ∙ e) (λ ne. h i (omega arith)) (same_or_not i j)

  pub free_here : (j : ℕ) → j < length views → ((i : ℕ) → i < j → free views to c i ≡ false) → free views to c j ≡
      true → j ≡ first_free views to c
  free_here j l h e = least_unique (length views) (free views to c) j (first_free views to c)
      (record { most = omega arith; none = h; found = λ k. e }) first_least

  pub free_nowhere : ((i : ℕ) → i < length views → free views to c i ≡ false) → length views ≡ first_free views to c
  free_nowhere h = least_unique (length views) (free views to c) (length views) (first_free views to c)
      (record { most = le_refl (length views); none = h; found = λ k. absurd (omega arith) }) first_least

  pub found_free : first_free views to c < length views → (member (at views (first_free views to c)) c ≡ true)
      × (at to (first_free views to c) ≡ 64)
  found_free l =
      let j = first_free views to c in
      let e = first_least.found l in (
        both_right (eqb (at to j) 64) (member (at views j) c) e,
        eqb-true (at to j) 64 (both_left (eqb (at to j) 64)
            (member (at views j) c) e),
      )

  pub no_free : length views ≤ first_free views to c → (j : ℕ) → j < length views → free views to c j ≡ false
  no_free l j k = first_least.none j (omega arith)

  pub none_free : length views ≤ first_free views to c → (j : ℕ) → j < length views → member (at views j) c ≡ true
      → at to j ≡ 64 → ⊥
  none_free l j k n e = never (free views to c j) (first_least.none j (omega arith)) (both_join (eqb (at to j) 64)
      (member (at views j) c) (eq-eqb (at to j) 64 e) n)

-- what holds when the views below j have been passed: start is what was visited as the loop began
pub record Going (views to : List ℕ) (c start seen j : ℕ) : Type 0 where
  pub grown : (d : ℕ) → d < 64 → member start d ≡ true → member seen d ≡ true
  pub reached : (d : ℕ) → d < 64 → member start d ≡ false → member seen d ≡ true → 0 < holds views to d
  pub shut : (d : ℕ) → d < 64 → member start d ≡ false → member seen d ≡ true → (i : ℕ) → i < length views → Held
      views to seen d i
  pub passed : (i : ℕ) → i < j → Held views to seen c i

module _ (views to : List ℕ) (c start : ℕ) where
  pub going_start : Going views to c start start 0
  going_start = record {
    grown = λ d l m. m;
    reached = λ d l p q. absurd (never (member start d) p q);
    shut = λ d l p q. absurd (never (member start d) p q);
    passed = λ i l. absurd (not-suc-le-zero l);
  }

  -- at a view that does not name the campaign, or whose holder was visited, nothing changes
  pub going_on : (seen j : ℕ) → Going views to c start seen j → Held views to seen c j → Going views to c start seen
      (j + 1)
  going_on seen j g here = record {
    grown = g.grown;
    reached = g.reached;
    shut = g.shut;
    passed = λ i l. go i l
        (same_or_not i j);
  }
    where
      go : (i : ℕ) → i < j + 1 → (i ≡ j) ⊎ (i ≡ j → ⊥) → Held views to seen c i
      go i l (inl e) = subst⁻¹ (λ (k : ℕ). Held views to seen c k) e here
      go i l (inr ne) = g.passed i (omega arith)

  -- after a search for the holder that failed
  pub going_failed : (seen seen' : ℕ) (to' : List ℕ) (j h : ℕ) → Going views to c start seen j → j < length views → at
      to j ≡ h → h < 64
      → Failed views to to' h seen seen' → Going views to c start seen' (j + 1)
  going_failed seen seen' to' j h g l e hl f = going_on seen' j moved (λ n. (
    subst⁻¹ (λ (k : ℕ). k < 64) e hl,
    ap
        (member seen') e ∙ f.self,
  ))
    where
      more : (d i : ℕ) → Held views to seen d i → Held views to seen' d i
      more d i k n = let r = k n in (r.0, f.grown (at to i) r.0 r.1)

      moved : Going views to c start seen' j
      moved = record {
        grown = λ d k m. f.grown d k (g.grown d k m);
        reached = λ d k p q. ⊎_elim (λ s. g.reached d k p s) (λ s. ⊎_elim (λ r. holds_some (length views) (at to) j d
            l (e ∙ sym r)) (λ r. r) (f.reached d k s q)) (true_or_not (member seen d));
        shut = λ d k p q i m. ⊎_elim (λ s. more d i (g.shut d k p s i m)) (λ s. f.shut d k s q i m)
            (true_or_not (member seen d));
        passed = λ i k. more c i (g.passed i k);
      }

module _ (views to : List ℕ) (c visited first bare : ℕ) (r : Seekable views to c visited first bare) where
  module _ (seen j : ℕ) (g : Going views to c (including visited c) seen j) where
    self_seen : member seen c ≡ true
    self_seen = g.grown c r.campaign (including_same visited c r.campaign)

    visited_seen : (d : ℕ) → d < 64 → member visited d ≡ true → member seen d ≡ true
    visited_seen d l m = g.grown d l (including_keeps visited c d l m)

    pub less : left_out seen < left_out visited
    less = fewer visited seen c visited_seen r.campaign r.fresh self_seen

    pub failed_at_end : length views ≤ j → Failed views to to c visited seen
    failed_at_end end = record {
      still = refl;
      self = self_seen;
      grown = visited_seen;
      reached = λ d l p q. ⊎_elim (λ e. inl e) (λ ne. inr (g.reached d l (including_other visited c d l ne ∙ p) q))
          (same_or_not d c);
      shut = λ d l p q i k. ⊎_elim
          (λ e n. g.passed i (omega arith) (subst (λ (x : ℕ). member (at views i) x ≡ true) e n))
          (λ ne. g.shut d l (including_other visited c d l ne ∙ p) q i k)
          (same_or_not d c);
    }

    -- the holder of the view at j found another: its view is c's
    pub gained_chain : (to' : List ℕ) (h : ℕ) → j < length views → length to' ≡ length to → member (at views j) c ≡
        true → at to j ≡ h → member seen h ≡ false → h < 64
        → Gained views to to' h seen → Gained views to (set to' j c) c visited
    gained_chain to' h l len nm e z hl gn = record {
      chain = moved j l nm away e gn.chain held;
      more = omega (
        arith,
        moves c,
        gn.same c r.campaign (λ q. away (sym q)),
        one_other h c away,
        one_same c c
            refl,
        ap (λ (x : ℕ). one_if (eqb x c)) held,
      );
      same = λ d dl ne. ⊎_elim
          (λ q. omega (
            arith,
            moves d,
            rw (← q) at gn.more,
            one_same h d (sym q),
            one_other c d (λ s. ne (sym s)),
            ap (λ (x : ℕ). one_if (eqb x d)) held,
          ))
          (λ q. omega (
            arith,
            moves d,
            gn.same d dl q,
            one_other h d (λ s. q (sym s)),
            one_other c d
                (λ s. ne (sym s)),
            ap (λ (x : ℕ). one_if (eqb x d)) held,
          ))
          (same_or_not d h);
      changed = λ i il. ⊎_elim
          (λ q. let s : at (set to' j c) i ≡ c = ap (at (set to' j c)) q ∙ stored in inr (
            rw s r.campaign,
            rw
                (s, q) nm,
          ))
          (λ ne. let s : at (set to' j c) i ≡ at to' i = at_other to' j c i ne in ⊎_elim (λ q. inl (s ∙ q))
          (λ q. inr (rw s q.0, rw s q.1)) (gn.changed i il))
          (same_or_not i j);
      kept = λ i il m. ⊎_elim
          (λ q. absurd (never (member seen h) z (ap (member seen) (sym (ap (at to) q ∙ e)) ∙ g.grown (at to i) il m)))
          (λ ne. at_other to' j c i ne ∙ gn.kept i il (including_keeps seen h (at to i) il (g.grown (at to i) il m)))
          (same_or_not i j);
      beyond = λ i b. at_other to' j c i (λ q. omega arith) ∙ gn.beyond i b;
    }
      where
        away : h ≡ c → ⊥
        away q = never (member seen h) z (ap (member seen) q ∙ self_seen)

        room : j < length to'
        room = omega (arith, r.room)

        stored : at (set to' j c) j ≡ c
        stored = at_same to' j c room

        held : at to' j ≡ h
        held = gn.kept j (subst⁻¹ (λ (k : ℕ). k < 64) e hl) (ap (member (including seen h)) e ∙ including_same seen h
            hl) ∙ e

        moves : (d : ℕ) → times (length views) (at (set to' j c)) d + one_if (eqb (at to' j) d) ≡ times (length views)
            (at to') d + one_if (eqb c d)
        moves d = times_set (length views) to' j c d l room

  -- a free view
  pub gained_free : (j : ℕ) → j < length views → member (at views j) c ≡ true → at to j ≡ 64 → Gained views to
      (set to j c) c visited
  gained_free j l nm e = record {
    chain = given j l nm e;
    more = omega (
      arith,
      moves c,
      one_other 64 c (λ q. omega (arith, r.campaign)),
      one_same c c refl,
      ap
          (λ (x : ℕ). one_if (eqb x c)) e,
    );
    same = λ d dl ne. omega (
      arith,
      moves d,
      one_other 64 d (λ q. omega arith),
      one_other c d (λ s. ne (sym s)),
      ap
          (λ (x : ℕ). one_if (eqb x d)) e,
    );
    changed = λ i il. ⊎_elim
        (λ q. let s : at (set to j c) i ≡ c = ap (at (set to j c)) q ∙ at_same to j c room in inr
        (rw s r.campaign, rw (s, q) nm))
        (λ ne. inl (at_other to j c i ne))
        (same_or_not i j);
    kept = λ i il m. at_other to j c i (λ q. omega (arith, ap (at to) q, e));
    beyond = λ i b. at_other to j c i (λ q. omega arith);
  }
    where
      room : j < length to
      room = omega (arith, r.room)

      moves : (d : ℕ) → times (length views) (at (set to j c)) d + one_if (eqb (at to j) d) ≡ times (length views)
          (at to) d + one_if (eqb c d)
      moves d = times_set (length views) to j c d l room
