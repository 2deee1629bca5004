-- The arithmetic of one copy: what line 8 makes of z_i^c, when it reaches b_i/B_i, and what line 4 compares. All is
-- said of one value, b_i/B_i · (W(a) − W(0))/(d^k − (d−1)^k) at age a (`Value`): line 8 takes a to a + 1.
use mathlib.Core.Path.{◌≡◌, refl, ap, ap₂, sym, subst, ◌∙◌}
use mathlib.Core.Bool.{Bool, true, false}
use Prim.Native.Nat.{ℕ, ◌+◌, ◌-◌, ◌*◌, ◌^◌, ◌≤◌, ◌<◌}
use native.Mathlib.Nat.{one-le-pow, mul-lt-mul_of_pos_left, mul-lt-mul_of_pos_right, lt_of_mul-lt-mul_right}
use native.Mathlib.Nat.{mul-le-mul_right, eq_of_mul-eq-mul_left, eq_of_mul-eq-mul_right, pow-lt-pow_left}
use native.Mathlib.Nat.{pow-le-pow_left, mul-pos}
use lib.Pow.{pow-add}
use native.Mathlib.Omega.{arith}
use lib.Dec.{ltb}
use borrow.Author.Tests.{ltb-true, ltb-false, lt-ltb, le-ltb}
use Rattle.powers.specs.Power.{weight, share}
use Rattle.powers.proofs.Weight.{slope, weight_zero, share_weight, weight_slope, weight_up, weight_next, weight_most}
use Rattle.refinement.specs.Fraction.{Fraction, integer, ◌⊗◌, ◌≈◌}
use Rattle.refinement.specs.Algorithm4.{Instance, Variables, C, part, quantity, displaces, grown}
use Rattle.refinement.specs.Correspondence.{copy, compared_quantity, ScoresOrder}

pub ltb_scale : (p x y : ℕ) → 0 < p → ltb (x * p) (y * p) ≡ ltb x y
ltb_scale p x y pos = go (ltb x y) refl
  where
    go : (t : Bool) → ltb x y ≡ t → ltb (x * p) (y * p) ≡ t
    go true e = lt-ltb (x * p) (y * p) (mul-lt-mul_of_pos_right (ltb-true x y e) pos)
    go false e = le-ltb (x * p) (y * p) (mul-le-mul_right p (ltb-false x y e))

-- C = (d−1)^k / (d^k − (d−1)^k)
pub C-numerator : (I : Instance) → (C I).numerator ≡ weight I.k I.d 0
unfolding C
C-numerator I = omega (arith, weight_zero I.k I.d)

pub C-denominator : (I : Instance) → (C I).denominator ≡ share I.k I.d
unfolding C share
C-denominator I = omega arith

pub C-sum : (I : Instance) → (C I).denominator + (C I).numerator ≡ I.d ^ I.k
C-sum I = omega (arith, C-numerator I, C-denominator I, share_weight I.k I.d, weight_zero I.k I.d)

-- what is asked of a plan: a depth, and a width above 1
module _ (I : Instance) (deep : 0 < I.k) (wide : 1 < I.d) where
  pub C-positive : 0 < (C I).denominator
  C-positive =
      omega (
        arith,
        C-sum I,
        C-numerator I,
        weight_zero I.k I.d,
        pow-lt-pow_left {a = I.d - 1} {b = I.d} {n = I.k} (omega arith) (omega arith),
      )

  weight_grows : (a : ℕ) → a < I.k → weight I.k I.d a < weight I.k I.d (a + 1)
  unfolding slope
  weight_grows a h =
      let p : 0 < slope I.k I.d a =
      mul-pos (one-le-pow a I.d (omega arith)) (one-le-pow (I.k - (a + 1)) (I.d - 1) (omega arith)) in
      omega (arith, weight_next I.k I.d (omega arith) a h)

  pub weight_below : (a : ℕ) → a < I.k → weight I.k I.d a < (C I).denominator + (C I).numerator
  weight_below a h =
      omega (arith, C-sum I, weight_grows a h, weight_most I.k I.d (omega arith) (a + 1) (omega arith))

  weight_ratio : (a : ℕ) → a < I.k → weight I.k I.d (a + 1) * (I.d - 1) ≡ weight I.k I.d a * I.d
  weight_ratio a h =
      rw (weight_up I.k I.d (omega arith) a h, weight_slope I.k I.d (omega arith) a h) (omega arith)

  -- W(a) (d−1)^a = d^a W(0)
  weight_split : (a : ℕ) → a ≤ I.k → weight I.k I.d a * (I.d - 1) ^ a ≡ I.d ^ a * (C I).numerator
  unfolding weight
  weight_split a h =
      let q : (I.d - 1) ^ (I.k - a) * (I.d - 1) ^ a ≡ (I.d - 1) ^ I.k =
      sym (pow-add (I.d - 1) (I.k - a) a) ∙ ap (λ x. (I.d - 1) ^ x) (omega arith) in
      let r : (C I).numerator ≡ (I.d - 1) ^ I.k = C-numerator I ∙ weight_zero I.k I.d in
      omega (arith, ap (λ x. I.d ^ a * x) q, ap (λ x. I.d ^ a * x) r)

-- q is b_i/B_i · (w − W(0))/(d^k − (d−1)^k)
pub record Value (I : Instance) (i w : ℕ) (q : Fraction) : Type 0 where
  pub value : q.numerator * (I.B i * (C I).denominator) + I.b i * (C I).numerator * q.denominator
      ≡ I.b i * w * q.denominator
  pub positive : 0 < q.denominator

raise_by : (n m b T u w w' d e : ℕ) → d ≡ e + 1 → n * T + b * u * m ≡ b * w * m → w' * e ≡ w * d
    → ((n * d) * (e * T) + ((1 * u) * b) * (m * e)) * T + b * u * ((m * e) * (e * T)) ≡ b * w' * ((m * e) * (e * T))
raise_by n m b T u w w' d e p q r =
    omega (
      arith,
      ap (λ x. x * (d * (e * T))) q,
      ap (λ x. x * (b * (m * (e * T)))) r,
      ap (λ x. x * (u * (b * (m * (e * T))))) p,
    )

raise_value : (n m b B S u w w' d e : ℕ) → d ≡ e + 1 → n * (B * S) + b * u * m ≡ b * w * m → w' * e ≡ w * d
    → ((n * d) * ((e * S) * B) + ((1 * u) * b) * (m * e)) * (B * S) + b * u * ((m * e) * ((e * S) * B))
    ≡ b * w' * ((m * e) * ((e * S) * B))
raise_value n m b B S u w w' d e p q r =
    subst (λ x. ((n * d) * x + ((1 * u) * b) * (m * e)) * (B * S) + b * u * ((m * e) * x) ≡ b * w' * ((m * e) * x))
    (omega arith) (raise_by n m b (B * S) u w w' d e p q r)

copy_cross : (n m b B S u w p e y : ℕ) → n * (B * S) + b * u * m ≡ b * w * m → w * e ≡ p * u → y + e ≡ p
    → n * ((S * B) * (e * 1)) ≡ ((u * b) * y) * m
copy_cross n m b B S u w p e y q r s =
    omega (arith, ap (λ x. x * e) q, ap (λ x. x * (b * m)) r, ap (λ x. x * (u * (b * m))) s)

-- and back
copy_back : (n m b B S u w p e y : ℕ) → 0 < e → n * ((S * B) * (e * 1)) ≡ ((u * b) * y) * m → w * e ≡ p * u → y + e ≡ p
    → n * (B * S) + b * u * m ≡ b * w * m
copy_back n m b B S u w p e y pos q r s =
    eq_of_mul-eq-mul_right e pos (n * (B * S) + b * u * m) (b * w * m)
    (omega (arith, q, ap (λ x. x * (b * m)) r, ap (λ x. x * (u * (b * m))) s))

-- p/e − 1 = p'/e' − 1 only where p/e = p'/e'
same_ratio : (c p e y p' e' y' : ℕ) → 0 < c → y + e ≡ p → y' + e' ≡ p' → c * (y * e') ≡ c * (y' * e) → p * e' ≡ p' * e
same_ratio c p e y p' e' y' pos q q' r =
    omega (arith, eq_of_mul-eq-mul_left c pos (y * e') (y' * e) r, ap (λ x. x * e') q, ap (λ x. x * e) q')

-- (d/e)^a = (d/e)^a' only where a = a'
other_ratio : (d e a a' : ℕ) → 0 < e → e < d → a < a' → d ^ a * e ^ a' ≡ d ^ a' * e ^ a → ⊥
other_ratio d e a a' pos h l r =
    let q : a + (a' - a) ≡ a' = omega arith in
    let less_power : e ^ (a' - a) < d ^ (a' - a) = pow-lt-pow_left h (omega arith) in
    let up : d ^ a' ≡ d ^ a * d ^ (a' - a) = ap (λ x. d ^ x) (sym q) ∙ pow-add d a (a' - a) in
    let down : e ^ a' ≡ e ^ a * e ^ (a' - a) = ap (λ x. e ^ x) (sym q) ∙ pow-add e a (a' - a) in
    let both : 0 < d ^ a * e ^ a = mul-pos (one-le-pow a d (omega arith)) (one-le-pow a e pos) in
    omega (
      arith,
      r,
      ap (λ x. x * e ^ a) up,
      ap (λ x. d ^ a * x) down,
      mul-lt-mul_of_pos_left {k = d ^ a * e ^ a} less_power both,
    )

module _ (I : Instance) (i : ℕ) (deep : 0 < I.k) (wide : 1 < I.d) (bid : 0 < I.b i) (budget : 0 < I.B i) where
  -- the second of line 8's two: one step up in age
  pub raised : (q : Fraction) (a : ℕ) → a < I.k → Value I i (weight I.k I.d a) q
      → Value I i (weight I.k I.d (a + 1)) (grown I i q)
  raised q a h v = record {
    value =
        omega (
          arith,
          raise_value q.numerator q.denominator (I.b i) (I.B i) (C I).denominator (C I).numerator
              (weight I.k I.d a) (weight I.k I.d (a + 1)) I.d (I.d - 1) (omega arith) v.value
              (weight_ratio I deep wide a h),
        );
    positive = let e : 0 < I.d - 1 = omega arith in
        mul-pos (mul-pos v.positive e) (mul-pos (mul-pos e (C-positive I deep wide)) budget);
  }

  pub below_part : (q : Fraction) (w : ℕ) → Value I i w q → w < (C I).denominator + (C I).numerator
      → q.numerator * I.B i < I.b i * q.denominator
  below_part q w v h =
      lt_of_mul-lt-mul_right (C I).denominator
      (omega (arith, v.value, mul-lt-mul_of_pos_left {k = I.b i * q.denominator} h (mul-pos bid v.positive)))

  pub reaches_part : (q : Fraction) (w : ℕ) → Value I i w q → w ≡ (C I).denominator + (C I).numerator
      → q.numerator * I.B i ≡ I.b i * q.denominator
  reaches_part q w v h =
      eq_of_mul-eq-mul_right (C I).denominator (C-positive I deep wide) (q.numerator * I.B i)
      (I.b i * q.denominator) (omega (arith, v.value, ap (λ x. I.b i * q.denominator * x) h))

  -- nothing yet
  pub value_zero : Value I i (weight I.k I.d 0) (integer 0)
  value_zero = record { value = omega (arith, ap (λ x. I.b i * x) (C-numerator I)); positive = omega arith }

  pub copy_proper : (a : ℕ) → 0 < (copy I i a).denominator
  copy_proper a =
      mul-pos (mul-pos (C-positive I deep wide) budget) (omega (arith, one-le-pow a (I.d - 1) (omega arith)))

  -- the paper's own form of it
  pub value_copy : (q : Fraction) (a : ℕ) → a < I.k → Value I i (weight I.k I.d a) q → q ≈ copy I i a
  value_copy q a h v =
      record {
        left = v.positive;
        right = copy_proper a;
        cross =
            copy_cross q.numerator q.denominator (I.b i) (I.B i) (C I).denominator (C I).numerator
            (weight I.k I.d a) (I.d ^ a) ((I.d - 1) ^ a) (I.d ^ a * 1 - 1 * (I.d - 1) ^ a)
            v.value (weight_split I deep wide a (omega arith))
            (omega (arith, pow-le-pow_left {n = I.d - 1} {m = I.d} (omega arith) a));
      }

  pub copy_value : (q : Fraction) (a : ℕ) → a ≤ I.k → q ≈ copy I i a → Value I i (weight I.k I.d a) q
  copy_value q a h c = record {
    value =
        copy_back q.numerator q.denominator (I.b i) (I.B i) (C I).denominator (C I).numerator
        (weight I.k I.d a) (I.d ^ a) ((I.d - 1) ^ a) (I.d ^ a * 1 - 1 * (I.d - 1) ^ a)
        (one-le-pow a (I.d - 1) (omega arith)) c.cross (weight_split I deep wide a h)
        (omega (arith, pow-le-pow_left {n = I.d - 1} {m = I.d} (omega arith) a));
    positive = c.left;
  }

  -- "by our choice of C, after at most k i-edges, z_i^c = b_i/B_i" (the proof of Theorem 5.1)
  pub copy_complete : copy I i I.k ≈ part I i
  copy_complete =
      let y : I.d ^ I.k * 1 - 1 * (I.d - 1) ^ I.k ≡ (C I).denominator =
      omega (arith, C-sum I, C-numerator I, weight_zero I.k I.d) in
      let u : (C I).numerator ≡ (I.d - 1) ^ I.k = C-numerator I ∙ weight_zero I.k I.d in
      record {
        left = copy_proper I.k;
        right = budget;
        cross = rw (y, u) (omega arith);
      }

  -- z_i^c tells the age, and z_i the turns
  pub one_age : (a a' : ℕ) → copy I i a ≈ copy I i a' → a ≡ a'
  one_age a a' h =
      let u : 0 < (C I).numerator =
      omega (arith, C-numerator I, weight_zero I.k I.d, one-le-pow I.k (I.d - 1) (omega arith)) in
      let r : I.d ^ a * (I.d - 1) ^ a' ≡ I.d ^ a' * (I.d - 1) ^ a =
      same_ratio ((C I).numerator * I.b i * ((C I).denominator * I.B i)) (I.d ^ a) ((I.d - 1) ^ a)
      (I.d ^ a * 1 - 1 * (I.d - 1) ^ a) (I.d ^ a') ((I.d - 1) ^ a') (I.d ^ a' * 1 - 1 * (I.d - 1) ^ a')
      (mul-pos (mul-pos u bid) (mul-pos (C-positive I deep wide) budget))
      (omega (arith, pow-le-pow_left {n = I.d - 1} {m = I.d} (omega arith) a))
      (omega (arith, pow-le-pow_left {n = I.d - 1} {m = I.d} (omega arith) a')) (omega (arith, h.cross)) in
      go r (ltb a a') refl (ltb a' a) refl
    where
      go : I.d ^ a * (I.d - 1) ^ a' ≡ I.d ^ a' * (I.d - 1) ^ a → (t : Bool) → ltb a a' ≡ t → (t' : Bool)
          → ltb a' a ≡ t' → a ≡ a'
      go r true e t' e' = absurd (other_ratio I.d (I.d - 1) a a' (omega arith) (omega arith) (ltb-true a a' e) r)
      go r false e true e' =
          absurd (other_ratio I.d (I.d - 1) a' a (omega arith) (omega arith) (ltb-true a' a e') (sym r))
      go r false e false e' = omega (arith, ltb-false a a' e, ltb-false a' a e')

  pub one_turns : (t t' : ℕ) → integer t ⊗ part I i ≈ integer t' ⊗ part I i → t ≡ t'
  one_turns t t' h = eq_of_mul-eq-mul_right (I.b i * I.B i) (mul-pos bid budget) t t' (omega (arith, h.cross))

-- what line 4 compares is b_i · w / (d^k − (d−1)^k)
quantity_cross : (n m b B S u w p e : ℕ) → n * (B * S) + b * u * m ≡ b * w * m → w * e ≡ p * u
    → ((n * B) * (S * 1) + (u * b) * (m * 1)) * ((S * 1) * e) ≡ ((u * b) * p) * ((m * 1) * (S * 1))
quantity_cross n m b B S u w p e q r = omega (arith, ap (λ x. x * (S * e)) q, ap (λ x. x * (b * (m * S))) r)

module _ (I : Instance) (deep : 0 < I.k) (wide : 1 < I.d) (v : Variables) where
  quantity_scaled : (i w : ℕ) → Value I i w (v.zᶜ i) → (m s : ℕ) → s ≡ (v.zᶜ i).denominator * m * (C I).denominator
      → (quantity I v i).numerator * (m * 1 * ((C I).denominator * 1)) ≡ I.b i * w * s
  quantity_scaled i w h m s e =
      omega (arith, ap (λ x. x * (m * (C I).denominator)) h.value, ap (λ x. I.b i * w * x) e)

  pub displaced : (m i w w' : ℕ) → Value I m w (v.zᶜ m) → Value I i w' (v.zᶜ i)
      → displaces I v m i ≡ ltb (I.b m * w) (I.b i * w')
  displaced m i w w' h h' =
      let s : ℕ = (v.zᶜ m).denominator * (v.zᶜ i).denominator * (C I).denominator in
      ap₂ ltb (quantity_scaled m w h (v.zᶜ i).denominator s refl)
      (quantity_scaled i w' h' (v.zᶜ m).denominator s (omega arith))
      ∙ ltb_scale s (I.b m * w) (I.b i * w') (mul-pos (mul-pos h.positive h'.positive) (C-positive I deep wide))

  pub value_quantity : (i a : ℕ) → a ≤ I.k → Value I i (weight I.k I.d a) (v.zᶜ i)
      → quantity I v i ≈ compared_quantity I i a
  value_quantity i a l h =
      let S : 0 < (C I).denominator * 1 = omega (arith, C-positive I deep wide) in
      record {
        left = mul-pos (omega (arith, h.positive)) S;
        right = mul-pos S (one-le-pow a (I.d - 1) (omega arith));
        cross =
            quantity_cross (v.zᶜ i).numerator (v.zᶜ i).denominator (I.b i) (I.B i) (C I).denominator
            (C I).numerator (weight I.k I.d a) (I.d ^ a) ((I.d - 1) ^ a) h.value
            (weight_split I deep wide a l);
      }

module _ (I : Instance) (deep : 0 < I.k) (wide : 1 < I.d) where
  compared_scaled : (i a e : ℕ) → a ≤ I.k
      → (C I).numerator * I.b i * I.d ^ a * ((C I).denominator * 1 * e)
      ≡ I.b i * weight I.k I.d a * ((C I).denominator * (I.d - 1) ^ a * e)
  compared_scaled i a e l = omega (arith, ap (λ x. I.b i * (C I).denominator * e * x) (weight_split I deep wide a l))

pub scores_order : ScoresOrder
scores_order I deep wide m i a a' l l' =
    let s : ℕ = (C I).denominator * (I.d - 1) ^ a * (I.d - 1) ^ a' in
    ap₂ ltb (compared_scaled I deep wide m a ((I.d - 1) ^ a') l)
    (compared_scaled I deep wide i a' ((I.d - 1) ^ a) l' ∙ omega arith)
    ∙ ltb_scale s (I.b m * weight I.k I.d a) (I.b i * weight I.k I.d a')
    (mul-pos (mul-pos (C-positive I deep wide) (one-le-pow a (I.d - 1) (omega arith)))
    (one-le-pow a' (I.d - 1) (omega arith)))
