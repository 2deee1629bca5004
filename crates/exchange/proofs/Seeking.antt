-- What holds in the loop of a search, and what each way out of a turn gives.
use mathlib.Core.Path.{◌≡◌, refl, ap, sym, ◌∙◌, subst, subst⁻¹}
use mathlib.Core.Bool.{true, false}
use mathlib.Core.List.{List}
use Prim.Native.Nat.{ℕ, ◌+◌, ◌≤◌, ◌<◌}
use native.Mathlib.Omega.{arith}
use lib.ListN.{length, set}
use Rattle.finite.proofs.Tests.{never}
use Rattle.sets.specs.Set.{member, including}
use Rattle.allotments.specs.Allotment.{at}
use Rattle.exchange.specs.declared.Sought.TheVariants.{Found, Shut}
use Rattle.exchange.specs.Cited.{first_free, Bare, Seekable, Gained, Held, Failed, SoughtIs}
use Rattle.exchange.proofs.Search.{left_out, found_free, none_free, Going, going_start, going_on, going_failed}
use Rattle.exchange.proofs.Search.{less, failed_at_end, gained_chain, gained_free, no_free}
use Rattle.exchange.proofs.Bare.{bare_set, bare_more}

-- nothing has moved, no view that names c is free, and the views below j have been passed
pub record Seeking (views to₀ : List ℕ) (c visited first bare : ℕ) (to : List ℕ) (seen known j : ℕ) : Type 0 where
  pub still : to ≡ to₀
  pub ready : Seekable views to₀ c visited first bare
  pub none_free : Bare views to₀ known
  pub busy : (i : ℕ) → i < length views → member (at views i) c ≡ true → at to₀ i < 64
  pub going : Going views to₀ c (including visited c) seen j

-- a free view is taken
pub sought_free : (views to : List ℕ) (c visited first bare j : ℕ) → Seekable views to c visited first bare
    → j ≡ first_free views to c → j < length views → SoughtIs views to (set to j c) c visited (Found bare)
sought_free views to c visited first bare j r e l =
    let f = found_free views to c (subst (λ (k : ℕ). k < length views) e l) in (
      gained_free views to c visited first bare r j l (ap (λ (k : ℕ). member (at views k) c) e ∙ f.0)
          (ap (at to) e ∙ f.1),
      bare_set views to j c bare r.campaign (omega (arith, r.room)) r.none_free,
    )

pub seeking_start : (views to : List ℕ) (c visited first bare seen known : ℕ) → Seekable views to c visited first bare
    → length views ≤ first_free views to c → seen ≡ including visited c → known ≡ including bare c
    → Seeking views to c visited first bare to seen known 0
seeking_start views to c visited first bare seen known r l q u = record {
  still = refl;
  ready = r;
  none_free = subst⁻¹ (λ (x : ℕ). Bare views to x) u (bare_more views to c bare (no_free views to c l) r.none_free);
  busy = λ i k n.
      let free : at to i ≡ 64 → ⊥ = none_free views to c l i k n in
      omega (arith, r.entries i k, free);
  going = subst⁻¹ (λ (x : ℕ). Going views to c (including visited c) x 0) q (going_start views to c
      (including visited c));
}

module _ (views to₀ : List ℕ) (c visited first bare : ℕ) (to : List ℕ) (seen known j : ℕ)
    (s : Seeking views to₀ c visited first bare to seen known j) where
  -- what was at the start, said of what is now
  here : (i : ℕ) → at to₀ i ≡ at to i
  here i = ap (λ (x : List ℕ). at x i) (sym s.still)

  pub room_now : length views ≤ length to
  room_now = omega (arith, s.ready.room, ap length s.still)

  pub holder_small : j < length views → member (at views j) c ≡ true → at to j < 64
  holder_small l n = subst (λ (k : ℕ). k < 64) (here j) (s.busy j l n)

  pub falls_here : left_out seen < left_out visited
  falls_here = less views to₀ c visited first bare s.ready seen j s.going

  pub ready_holder : j < length views → member (at views j) c ≡ true → member seen (at to j) ≡ false → Seekable views to
      (at to j) seen first known
  ready_holder l n m = record {
    room = room_now;
    entries = λ i k. subst (λ (x : ℕ). x ≤ 64) (here i) (s.ready.entries i k);
    campaign = holder_small l n;
    fresh = m;
    inside = s.ready.inside;
    taken = λ i k e. s.ready.taken i k (here i ∙ e);
    none_free = subst⁻¹ (λ (x : List ℕ). Bare views x known) s.still s.none_free;
  }

  -- the holder found another view
  pub sought_chain : (to' : List ℕ) (known' : ℕ) → j < length views → member (at views j) c ≡ true
      → member seen (at to j) ≡ false → length to' ≡ length to
      → SoughtIs views to to' (at to j) seen (Found known')
      → SoughtIs views to₀ (set to' j c) c visited (Found known')
  sought_chain to' known' l n m len g = (
    gained_chain views to₀ c visited first bare s.ready seen j s.going to' (at to j) l
        (len ∙ ap length s.still) n (here j) m (holder_small l n)
        (subst (λ (x : List ℕ). Gained views x to' (at to j) seen) s.still g.0),
    bare_set views to' j c known' s.ready.campaign (omega (arith, room_now, len)) g.1,
  )

  -- the holder found none
  pub seeking_failed : (to' : List ℕ) (seen' known' : ℕ) → j < length views → member (at views j) c ≡ true
      → SoughtIs views to to' (at to j) seen (Shut seen' known')
      → Seeking views to₀ c visited first bare to' seen' known' (j + 1)
  seeking_failed to' seen' known' l n f = record {
    still = f.0.still ∙ s.still;
    ready = s.ready;
    none_free = subst (λ (x : List ℕ). Bare views x known') (f.0.still ∙ s.still) f.1;
    busy = s.busy;
    going = going_failed views to₀ c (including visited c) seen seen' to' j (at to j) s.going l (here j)
        (holder_small l n) (subst (λ (x : List ℕ). Failed views x to' (at to j) seen seen') s.still f.0);
  }

  on : Held views to₀ seen c j → Seeking views to₀ c visited first bare to seen known (j + 1)
  on h = record {
    still = s.still;
    ready = s.ready;
    none_free = s.none_free;
    busy = s.busy;
    going = going_on views to₀ c
        (including visited c) seen j s.going h;
  }

  -- the holder was visited before, or the view does not name the campaign
  pub seeking_visited : j < length views → member seen (at to j) ≡ true
      → Seeking views to₀ c visited first bare to seen known (j + 1)
  seeking_visited l m = on (λ n. (s.busy j l n, ap (member seen) (here j) ∙ m))

  pub seeking_unnamed : member (at views j) c ≡ false → Seeking views to₀ c visited first bare to seen known (j + 1)
  seeking_unnamed m = on (λ n. absurd (never (member (at views j) c) m n))

  pub sought_none : length views ≤ j → SoughtIs views to₀ to c visited (Shut seen known)
  sought_none l = (
    subst⁻¹ (λ (x : List ℕ). Failed views to₀ x c visited seen) s.still (failed_at_end views to₀ c
        visited first bare s.ready seen j s.going l),
    subst⁻¹ (λ (x : List ℕ). Bare views x known) s.still s.none_free,
  )
