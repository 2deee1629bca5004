-- One ad slot: the variables of an advertiser and the counts of its campaign stay together through lines 3 to 11 and
-- rules 1 to 4. First x, at every width; then, at widths above 1, the copies, by the role that the view is to the
-- campaign: nobody matched, itself, or another.
use mathlib.Core.Path.{◌≡◌, refl, ap, ap₂, sym, subst, subst⁻¹, ◌∙◌}
use mathlib.Core.Bool.{Bool, true, false, cond, ◌&&◌, and-true, and-false}
use Prim.Native.Nat.{ℕ, suc, ◌+◌, ◌-◌, ◌*◌, ◌/◌, ◌≤◌, ◌<◌}
use native.Mathlib.Nat.{le_refl, mul-pos, le-div_iff_mul-le, div-lt_iff_lt-mul}
use native.Mathlib.Omega.{arith}
use lib.Dec.{leb, ltb, eqb}
use borrow.Author.Tests.{ltb-true, ltb-false, lt-ltb, le-ltb, le-leb, lt-leb, eqb-true, eqb-false, eq-eqb, ne_eqb}
use Rattle.finite.specs.Finite.{one_if, sum}
use Rattle.finite.proofs.Sums.{sum_suc, sum_eq, sum_mul}
use Rattle.finite.proofs.Tests.{never, both_left, both_right}
use Rattle.powers.specs.Power.{weight}
use Rattle.powers.proofs.Weight.{weight_top}
use Rattle.campaigns.specs.declared.Campaign.{Campaign}
use Rattle.campaigns.specs.Choice.{Choice, is, Role, role_of}
use Rattle.campaigns.specs.Choice.Choice.{nobody, plays}
use Rattle.campaigns.specs.Choice.Role.{chosen}
use Rattle.campaigns.specs.Campaign.{whole_plays, whole, can_pay, named_again, after, aged}
use Rattle.refinement.specs.Fraction.{Fraction, integer, ◌⊗◌, lesser, ◌≈◌}
use Rattle.refinement.specs.Algorithm4.{Instance, Neighbors, Variables, C, part, feasible, feasible_neighbor}
use Rattle.refinement.specs.Algorithm4.{grown, line_3, line_5, line_6, line_9, lines_9_to_11}
use Rattle.campaigns.proofs.Choices.{Fits}
use Rattle.demands.proofs.OnePrice.{by_play}
use Rattle.refinement.proofs.Copies.{C-sum, Value, raised, below_part, reaches_part, value_zero, weight_below}

-- the same bid and the same number of whole plays; x_{i,j} marks the plays, all before slot j
pub record Spends (I : Instance) (j i : ℕ) (c : Campaign) (x : ℕ → ℕ) : Type 0 where
  pub bid : c.price ≡ I.b i
  pub copies : whole c ≡ I.B i / I.b i
  pub matched : sum j x ≡ c.plays
  pub later : (j' : ℕ) → j ≤ j' → x j' ≡ 0

-- and, where d > 1, z_i holds the finished copies, and z_i^c is what the age makes it
pub record Simulates (I : Instance) (j : ℕ) (v : Variables) (i : ℕ) (c : Campaign) : Type 0 where
  pub spends : Spends I j i c (v.x i)
  pub finished : v.z i ≈ integer c.turns ⊗ part I i
  pub young : c.age < I.k
  pub current : Value I i (weight I.k I.d c.age) (v.zᶜ i)

-- feasible: another whole play can be paid
pub feasible_is : (I : Instance) (j : ℕ) (v : Variables) (i p : ℕ) → 0 < I.b i → sum (suc j) (v.x i) ≡ p
    → feasible I v j i ≡ ltb p (I.B i / I.b i)
unfolding feasible
feasible_is I j v i p pos e = go (ltb p (I.B i / I.b i)) refl
  where
    spent : sum (suc j) (λ j'. I.b i * v.x i j') ≡ p * I.b i
    spent = omega (arith, sum_mul (suc j) (I.b i) (v.x i), ap (λ y. I.b i * y) e)

    go : (t : Bool) → ltb p (I.B i / I.b i) ≡ t → leb (I.b i) (I.B i - sum (suc j) (λ j'. I.b i * v.x i j')) ≡ t
    go true q =
        let l : suc p * I.b i ≤ I.B i = (le-div_iff_mul-le pos).0 (ltb-true p (I.B i / I.b i) q) in
        le-leb (I.b i) (I.B i - sum (suc j) (λ j'. I.b i * v.x i j')) (omega (arith, spent))
    go false q =
        let l : I.B i / I.b i < suc p = omega (arith, ltb-false p (I.B i / I.b i) q) in
        let l' : I.B i < suc p * I.b i = (div-lt_iff_lt-mul pos).0 l in
        lt-leb (I.b i) (I.B i - sum (suc j) (λ j'. I.b i * v.x i j')) (omega (arith, spent))

-- can it pay, as the two sides ask it
pays_alike : (I : Instance) (j i : ℕ) (v : Variables) (c : Campaign) → 0 < I.b i → Spends I (suc j) i c (v.x i)
    → feasible I v j i ≡ can_pay c
pays_alike I j i v c bids a =
    feasible_is I j v i c.plays bids a.matched ∙ ap (λ n. ltb c.plays n) (sym a.copies)

-- one slot of an advertiser at any width
module _ (I : Instance) (j i : ℕ) (N : Neighbors) (v : Variables) (c : Campaign) (f : Spends I j i c (v.x i)) where
  -- slot j is marked or not
  marks : Bool → ℕ → ℕ
  marks q j' = cond (q && eqb j' j) 1 (v.x i j')

  elsewhere : (q : Bool) (j' : ℕ) → (j' ≡ j → ⊥) → marks q j' ≡ v.x i j'
  unfolding marks
  elsewhere q j' h = rw (ne_eqb j' j h, and-false q)

  here : (q : Bool) → marks q j ≡ one_if q
  unfolding marks
  here true = rw (eq-eqb j j refl)
  here false = f.later j (le_refl j)

  settled : (q : Bool) (c' : Campaign) → c'.price ≡ c.price → c'.budget ≡ c.budget
      → c'.plays ≡ c.plays + one_if q → Spends I (suc j) i c' (marks q)
  unfolding whole
  settled q c' price budget more = record {
    bid = price ∙ f.bid;
    copies = ap₂ whole_plays price budget ∙ f.copies;
    matched = omega (
      arith,
      sum_suc j (marks q),
      sum_eq j (marks q) (v.x i) (λ j' l. elsewhere q j' (λ e. omega arith)),
      f.matched,
      here q,
      more,
    );
    later = λ j' l. elsewhere q j' (λ e. omega arith) ∙ f.later j' (omega arith);
  }

  untouched : Spends I (suc j) i c (v.x i)
  unfolding marks
  untouched = settled false c refl refl (omega arith)

  module _ (bids : 0 < I.b i) where
    pub able_alike : feasible_neighbor I v j N i ≡ (N i && can_pay c)
    able_alike = ap (λ t. N i && t) (pays_alike I j i v c bids untouched)

    -- the one matched is a neighbor that can pay
    pub won : (m : Choice) → Fits I.n (feasible_neighbor I v j N) m → is m i ≡ true → (N i && can_pay c) ≡ true
    won nobody none e = absurd (never false refl e)
    won (plays m) one e = sym able_alike ∙ ap (feasible_neighbor I v j N) (eqb-true i m e) ∙ one.1

    -- whomever line 4 matches among the feasible neighbors
    pub spends_slot : (m : Choice) → Fits I.n (feasible_neighbor I v j N) m
        → Spends I (suc j) i (after I.k (role_of (N i) (can_pay c) (is m i)) c) ((line_3 I j N m v).x i)
    unfolding marks
    spends_slot m fits = go m (settled (is m i) _ price budget more)
      where
        price : (after I.k (role_of (N i) (can_pay c) (is m i)) c).price ≡ c.price
        price =
            by_play I.k c (λ x. x.price) (λ q. 0) refl refl refl (omega arith) refl (N i) (can_pay c) (is m i)
            (won m fits) ∙ omega arith

        budget : (after I.k (role_of (N i) (can_pay c) (is m i)) c).budget ≡ c.budget
        budget =
            by_play I.k c (λ x. x.budget) (λ q. 0) refl refl refl (omega arith) refl (N i) (can_pay c) (is m i)
            (won m fits) ∙ omega arith

        more : (after I.k (role_of (N i) (can_pay c) (is m i)) c).plays ≡ c.plays + one_if (is m i)
        more =
            by_play I.k c (λ x. x.plays) one_if refl refl refl refl refl (N i) (can_pay c) (is m i) (won m fits)

        go : (m : Choice) → Spends I (suc j) i (after I.k (role_of (N i) (can_pay c) (is m i)) c) (marks (is m i))
            → Spends I (suc j) i (after I.k (role_of (N i) (can_pay c) (is m i)) c) ((line_3 I j N m v).x i)
        go nobody s = s
        go (plays m) s = s

-- one more finished copy
add_part : (z t y z' b B y' : ℕ) → z * (1 * B) ≡ t * b * z' → y * B ≡ b * y'
    → (z * y' + y * z') * (1 * B) ≡ (t + 1) * b * (z' * y')
add_part z t y z' b B y' p q = omega (arith, ap (λ x. x * y') p, ap (λ x. x * z') q)

module _ (I : Instance) (deep : 0 < I.k) (wide : 1 < I.d) (i : ℕ) (bids : 0 < I.b i)
    (funds : 0 < I.B i) where
  -- a copy of less than k edges is not finished
  pub unfinished : (N : Neighbors) (v : Variables) (a : ℕ) → a < I.k → Value I i (weight I.k I.d a) (v.zᶜ i)
      → line_9 I N v i ≡ false
  unfinished N v a young q =
      let l : (v.zᶜ i).numerator * I.B i < I.b i * (v.zᶜ i).denominator =
      below_part I i deep wide bids funds (v.zᶜ i) (weight I.k I.d a) q
      (weight_below I deep wide a young) in
      ap (λ t. N i && t) (ne_eqb ((v.zᶜ i).numerator * I.B i) (I.b i * (v.zᶜ i).denominator) (λ e. omega arith))
      ∙ and-false (N i)

  -- lines 9 to 11 leave it
  kept : (j : ℕ) (N : Neighbors) (v : Variables) (c : Campaign) → Spends I j i c (v.x i)
      → v.z i ≈ integer c.turns ⊗ part I i
      → c.age < I.k → Value I i (weight I.k I.d c.age) (v.zᶜ i)
      → Simulates I j (lines_9_to_11 I N v) i c
  kept j N v c a turned young q =
      let e : line_9 I N v i ≡ false = unfinished N v c.age young q in
      record { spends = a; finished = rw e turned; young = young; current = rw e q }

  -- and close one that is finished
  done : (j : ℕ) (N : Neighbors) (v : Variables) (c : Campaign) (p : ℕ)
      → Spends I j i (named_again c p (c.turns + 1) 0) (v.x i) → v.z i ≈ integer c.turns ⊗ part I i → N i ≡ true
      → 0 < (v.zᶜ i).denominator → (v.zᶜ i).numerator * I.B i ≡ I.b i * (v.zᶜ i).denominator
      → Simulates I j (lines_9_to_11 I N v) i (named_again c p (c.turns + 1) 0)
  done j N v c p a turned named positive cross =
      let e : line_9 I N v i ≡ true =
      rw (named, eq-eqb ((v.zᶜ i).numerator * I.B i) (I.b i * (v.zᶜ i).denominator) cross) in
      record {
        spends = a;
        finished = rw e record {
          left = mul-pos turned.left positive;
          right = turned.right;
          cross =
              add_part (v.z i).numerator c.turns (v.zᶜ i).numerator (v.z i).denominator (I.b i) (I.B i)
              (v.zᶜ i).denominator turned.cross cross;
        };
        young = deep;
        current = rw e (value_zero I i deep wide bids funds);
      }

  module _ (j : ℕ) (N : Neighbors) (v : Variables) (c : Campaign) (f : Simulates I j v i c) where
    -- nobody is matched
    after_nobody : (t u : Bool) → (t && u) ≡ false
        → Spends I (suc j) i (after I.k (role_of t u false) c) (v.x i)
        → Simulates I (suc j) (lines_9_to_11 I N v) i (after I.k (role_of t u false) c)
    after_nobody false u q a = kept (suc j) N v c a f.finished f.young f.current
    after_nobody true false q a =
        kept (suc j) N v (named_again c c.plays c.turns c.age) a f.finished f.young f.current
    after_nobody true true q a = absurd (never true q refl)

    -- i is matched
    after_own : N i ≡ true → Spends I (suc j) i (after I.k chosen c) ((line_3 I j N (plays i) v).x i)
        → Simulates I (suc j) (lines_9_to_11 I N (line_3 I j N (plays i) v)) i (after I.k chosen c)
    after_own named a =
        let mid : Variables = line_3 I j N (plays i) v in
        let e : mid.zᶜ i ≡ part I i = rw (eq-eqb i i refl, and-false) in
        done (suc j) N mid c (c.plays + 1) a f.finished named (rw e funds) (rw e)

    -- another is matched
    module _ (m : ℕ) (other : eqb i m ≡ false) where
      up : Fraction
      up = grown I i (v.zᶜ i)

      row : Spends I (suc j) i c ((line_5 j m v).x i)
      unfolding marks
      row = settled I j i N v c f.spends (eqb i m) c refl refl (omega (arith, ap one_if other))

      mid_copy : (line_3 I j N (plays m) v).zᶜ i ≡ cond (N i && can_pay c) (lesser (part I i) up) (v.zᶜ i)
      unfolding up
      mid_copy = rw (pays_alike I j i (line_6 I m (line_5 j m v)) c bids row, other, and-true)

      up_value : Value I i (weight I.k I.d (c.age + 1)) up
      unfolding up
      up_value = raised I i deep wide bids funds (v.zᶜ i) c.age f.young f.current

      after_passed : (t : Bool) → eqb (c.age + 1) I.k ≡ t → N i ≡ true
          → (line_3 I j N (plays m) v).zᶜ i ≡ lesser (part I i) up
          → Spends I (suc j) i (aged t c) ((line_3 I j N (plays m) v).x i)
          → Simulates I (suc j) (lines_9_to_11 I N (line_3 I j N (plays m) v)) i (aged t c)
      after_passed true e named q a =
          let top : weight I.k I.d (c.age + 1) ≡ (C I).denominator + (C I).numerator =
          ap (weight I.k I.d) (eqb-true (c.age + 1) I.k e) ∙ weight_top I.k I.d ∙ sym (C-sum I) in
          let full : up.numerator * I.B i ≡ I.b i * up.denominator =
          reaches_part I i deep wide bids funds up (weight I.k I.d (c.age + 1)) up_value top in
          let r : (line_3 I j N (plays m) v).zᶜ i ≡ part I i =
          q ∙ ap (λ t. cond t up (part I i))
          (le-ltb (up.numerator * I.B i) (I.b i * up.denominator) (omega arith)) in
          done (suc j) N (line_3 I j N (plays m) v) c c.plays a f.finished named (rw r funds) (rw r)
      after_passed false e named q a =
          let young : c.age + 1 < I.k = omega (arith, f.young, eqb-false (c.age + 1) I.k e) in
          let low : up.numerator * I.B i < I.b i * up.denominator =
          below_part I i deep wide bids funds up (weight I.k I.d (c.age + 1)) up_value
          (weight_below I deep wide (c.age + 1) young) in
          let r : (line_3 I j N (plays m) v).zᶜ i ≡ up =
          q ∙ ap (λ t. cond t up (part I i)) (lt-ltb (up.numerator * I.B i) (I.b i * up.denominator) low) in
          kept (suc j) N (line_3 I j N (plays m) v) (named_again c c.plays c.turns (c.age + 1)) a f.finished
          young (rw r up_value)

      after_other : (t : Bool) → N i ≡ t → (u : Bool)
          → (line_3 I j N (plays m) v).zᶜ i ≡ cond (t && u) (lesser (part I i) up) (v.zᶜ i)
          → Spends I (suc j) i (after I.k (role_of t u false) c) ((line_3 I j N (plays m) v).x i)
          → Simulates I (suc j) (lines_9_to_11 I N (line_3 I j N (plays m) v)) i
          (after I.k (role_of t u false) c)
      after_other false e u q a =
          kept (suc j) N (line_3 I j N (plays m) v) c a f.finished f.young (rw q f.current)
      after_other true e false q a =
          kept (suc j) N (line_3 I j N (plays m) v) (named_again c c.plays c.turns c.age) a f.finished
          f.young (rw q f.current)
      after_other true e true q a = after_passed (eqb (c.age + 1) I.k) refl e q a

    -- whomever line 4 matches among the feasible neighbors
    pub after_slot : (m : Choice) → Fits I.n (feasible_neighbor I v j N) m → i < I.n
        → Simulates I (suc j) (lines_9_to_11 I N (line_3 I j N m v)) i
        (after I.k (role_of (N i) (can_pay c) (is m i)) c)
    after_slot nobody none l =
        after_nobody (N i) (can_pay c) (sym (able_alike I j i N v c f.spends bids) ∙ none i l)
        (spends_slot I j i N v c f.spends bids nobody none)
    after_slot (plays m) one l =
        go (eqb i m) refl (spends_slot I j i N v c f.spends bids (plays m) one)
      where
        go : (t : Bool) → eqb i m ≡ t
            → Spends I (suc j) i (after I.k (role_of (N i) (can_pay c) t) c) ((line_3 I j N (plays m) v).x i)
            → Simulates I (suc j) (lines_9_to_11 I N (line_3 I j N (plays m) v)) i
            (after I.k (role_of (N i) (can_pay c) t) c)
        go true e a =
            let both : (N i && can_pay c) ≡ true = won I j i N v c f.spends bids (plays m) one e in
            let named : N i ≡ true = both_left (N i) (can_pay c) both in
            let role : role_of (N i) (can_pay c) true ≡ chosen =
            ap₂ (λ t u. role_of t u true) named (both_right (N i) (can_pay c) both) in
            subst⁻¹
            (λ (r : Role).
            Simulates I (suc j) (lines_9_to_11 I N (line_3 I j N (plays m) v)) i (after I.k r c)) role
            (subst
            (λ (x : ℕ).
            Spends I (suc j) i (after I.k chosen c) ((line_3 I j N (plays x) v).x i)
            → Simulates I (suc j) (lines_9_to_11 I N (line_3 I j N (plays x) v)) i (after I.k chosen c))
            (eqb-true i m e) (after_own named)
            (subst (λ (r : Role). Spends I (suc j) i (after I.k r c) ((line_3 I j N (plays m) v).x i)) role a))
        go false e a = after_other m e (N i) refl (can_pay c) (mid_copy m e) a
