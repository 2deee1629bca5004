-- The choice is the one that rule 1 asks for, and the only one. By induction on the number of candidates: the best so
-- far against the next is the best of one more.
use mathlib.Core.Path.{◌≡◌, refl, ap, subst⁻¹}
use mathlib.Core.Bool.{Bool, true, false, cond}
use Prim.Native.Nat.{ℕ, zero, suc, ◌≤◌, ◌<◌}
use native.Mathlib.Nat.{le_refl, not-suc-le-zero}
use native.Mathlib.Omega.{arith}
use lib.Dec.{ltb, eqb}
use borrow.Author.Tests.{ltb-true, ltb-false, lt-ltb, eqb-true, eqb-false}
use Rattle.finite.proofs.Tests.{never, one_more}
use Rattle.campaigns.specs.Choice.{Choice, against, best, ahead, choice}
use Rattle.campaigns.specs.Choice.Choice.{nobody, plays}
use Rattle.campaigns.specs.View.{able, figure}
use Rattle.day.specs.Day.{campaign}
use Rattle.day.specs.Calls.{found}
use Rattle.demands.specs.Choice.{Right, ChoiceRight, ChoiceOnly}
use Rattle.demands.specs.Demands.{AlwaysRight, OnlyRight}

-- a law on both sides of m and at m
by_order : (P : ℕ → Type 0) (m i : ℕ) → (i < m → P i) → P m → (m < i → P i) → P i
by_order P m i lo at hi = go (ltb i m) refl (eqb i m) refl
  where
    go : (b : Bool) → ltb i m ≡ b → (c : Bool) → eqb i m ≡ c → P i
    go true e c f = lo (ltb-true i m e)
    go false e true f = subst⁻¹ P (eqb-true i m f) at
    go false e false f = hi (omega (arith, ltb-false i m e, eqb-false i m f))

-- all that the walk asks of "ahead"
pub record Order (ah : ℕ → ℕ → Bool) : Type 0 where
  pub chain : (i m n : ℕ) → ah i m ≡ true → ah m n ≡ true → ah i n ≡ true
  pub over : (i m n : ℕ) → ah m i ≡ false → ah m n ≡ true → ah i n ≡ true

-- m displaces every able candidate below it and is displaced by none above it
pub record Front (n : ℕ) (able : ℕ → Bool) (ah : ℕ → ℕ → Bool) (m : ℕ) : Type 0 where
  pub below : m < n
  pub is_able : able m ≡ true
  pub lower : (i : ℕ) → i < m → able i ≡ true → ah i m ≡ true
  pub higher : (i : ℕ) → i < n → m < i → able i ≡ true → ah m i ≡ false

abbrev pub Leads : ℕ → (ℕ → Bool) → (ℕ → ℕ → Bool) → Choice → Type 0
Leads n able ah nobody = (i : ℕ) → i < n → able i ≡ false
Leads n able ah (plays m) = Front n able ah m

module _ (able : ℕ → Bool) (ah : ℕ → ℕ → Bool) (o : Order ah) where
  skip : (n : ℕ) (ch : Choice) → able n ≡ false → Leads n able ah ch → Leads (suc n) able ah ch
  skip n nobody e r = one_more (λ i. able i ≡ false) n r e
  skip n (plays m) e r = record {
    below = omega arith;
    is_able = r.is_able;
    lower = r.lower;
    higher = one_more (λ i. m < i → able i ≡ true → ah m i ≡ false) n r.higher (λ l t. absurd (never (able n) e t));
  }

  takes : (n m : ℕ) (b : Bool) → ah m n ≡ b → able n ≡ true → Front n able ah m
      → Leads (suc n) able ah (cond b (plays n) (plays m))
  takes n m true q e r = record {
    below = le_refl (suc n);
    is_able = e;
    lower =
        λ i l t.
        by_order (λ j. j < n → able j ≡ true → ah j n ≡ true) m i (λ k _ u. o.chain i m n (r.lower i k u) q)
        (λ _ _. q) (λ k v u. o.over i m n (r.higher i v k u) q) l t;
    higher = λ i l k t. absurd (omega arith);
  }
  takes n m false q e r = record {
    below = omega arith;
    is_able = r.is_able;
    lower = r.lower;
    higher = one_more (λ i. m < i → able i ≡ true → ah m i ≡ false) n r.higher (λ l t. q);
  }

  meets : (n : ℕ) (ch : Choice) → able n ≡ true → Leads n able ah ch → Leads (suc n) able ah (against ah ch n)
  meets n nobody e r =
      record {
        below = le_refl (suc n);
        is_able = e;
        lower = λ i l t. absurd (never (able i) (r i l) t);
        higher = λ i l k t. absurd (omega arith);
      }
  meets n (plays m) e r = takes n m (ah m n) refl e r

  step : (n : ℕ) (ch : Choice) (b : Bool) → able n ≡ b → Leads n able ah ch
      → Leads (suc n) able ah (cond b (against ah ch n) ch)
  step n ch true e r = meets n ch e r
  step n ch false e r = skip n ch e r

  pub best_leads : (n : ℕ) → Leads n able ah (best n able ah)
  unfolding best
  best_leads zero = λ i l. absurd (not-suc-le-zero l)
  best_leads (suc n) = step n (best n able ah) (able n) refl (best_leads n)

module _ (n : ℕ) (able : ℕ → Bool) (figure : ℕ → ℕ) where
  greater : Order (ahead figure)
  greater = record {
    chain =
        λ i j m p q.
        lt-ltb (figure i) (figure m)
        (omega (arith, ltb-true (figure i) (figure j) p, ltb-true (figure j) (figure m) q));
    over =
        λ i j m p q.
        lt-ltb (figure i) (figure m)
        (omega (arith, ltb-false (figure j) (figure i) p, ltb-true (figure j) (figure m) q));
  }

  right_of : (ch : Choice) → Leads n able (ahead figure) ch → Right n able figure ch
  right_of nobody r = r
  right_of (plays m) r = record {
    below = r.below;
    is_able = r.is_able;
    top =
        λ i l t.
        by_order (λ j. j < n → able j ≡ true → figure j ≤ figure m) m i
        (λ k _ u. omega (arith, ltb-true (figure i) (figure m) (r.lower i k u))) (λ _ _. le_refl (figure m))
        (λ k v u. ltb-false (figure m) (figure i) (r.higher i v k u)) l t;
    lowest = λ i l t. ltb-true (figure i) (figure m) (r.lower i l t);
  }

  pub right_unique : (a b : Choice) → Right n able figure a → Right n able figure b → a ≡ b
  right_unique nobody nobody p q = refl
  right_unique nobody (plays m) p q = absurd (never (able m) (p m q.below) q.is_able)
  right_unique (plays m) nobody p q = absurd (never (able m) (q m p.below) p.is_able)
  right_unique (plays i) (plays m) p q =
      ap plays
      (by_order (λ j. j ≡ i → j ≡ m) m i
      (λ l e. absurd (omega (arith, q.lowest i l p.is_able, p.top m q.below q.is_able))) (λ _. refl)
      (λ l e. absurd (omega (arith, p.lowest m l q.is_able, q.top i p.below p.is_able))) refl)

-- the choice follows rule 1
pub choice_right : ChoiceRight
unfolding choice
choice_right n able figure =
    right_of n able figure (best n able (ahead figure)) (best_leads able (ahead figure) (greater n able figure) n)

-- and nothing else does; nobody plays wherever no candidate is able
pub choice_only : ChoiceOnly
choice_only n able figure ch r =
    right_unique n able figure ch (choice n able figure) r (choice_right n able figure)

-- who plays a view: of the named campaigns that are not paused and can pay the one with the greatest score, the lowest
-- such
pub player_right : AlwaysRight
player_right s w =
    let v = found s w in
    choice_right s.count (able s.plan v (campaign s)) (λ i. figure s.plan v i (campaign s i))

pub player_only : OnlyRight
player_only s w ch r =
    let v = found s w in
    choice_only s.count (able s.plan v (campaign s)) (λ i. figure s.plan v i (campaign s i)) ch r
