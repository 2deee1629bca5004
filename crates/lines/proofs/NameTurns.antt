-- The names of a view, a turn at a time: none follows, one that joins the set, or one that does not. No set has more
-- names than the definition `set_at` has turns.
use mathlib.Core.Path.{◌≡◌, refl, sym, ap, ◌∙◌}
use mathlib.Core.Bool.{Bool, true, false, cond}
use mathlib.Core.List.{List, [], ◌∷◌}
use Prim.Native.Nat.{ℕ, zero, suc, ◌+◌, ◌*◌, ◌-◌, ◌%◌, ◌^◌, ◌≤◌, ◌<◌}
use native.Mathlib.Nat.{one-mul, pow-suc, mul-le-mul_right}
use native.Mathlib.Omega.{arith}
use lib.Dec.{eqb, ltb, lit<}
use lib.ListN.{length, get_or, take, drop}
use lib.Pow.{pow_mono, shl_exact}
use borrow.Author.Tests.{lt-ltb, le-ltb, ltb-true, leb-true, eq-eqb, ne_eqb}
use Rattle.std.proofs.lemmas.List.{take_rest}
use Rattle.lines.specs.Limits.{max_campaign, set_bits, max_u64}
use Rattle.lines.specs.Form.{campaign_slot, in_slot}
use Rattle.lines.specs.Reading.{Seen, seen, unseen, numeral_at, ranged, with_name, and_then, set_at}
use Rattle.lines.proofs.Digits.{ranged_sound}

-- a name is in its range, and its bit fits 64 bits
pub name_small : (n : ℕ) (m : List ℕ) (s : Seen) → seen n m ≡ ranged campaign_slot s → n < set_bits
unfolding in_slot
name_small n m s e = omega (arith, leb-true n max_campaign (ranged_sound campaign_slot n m s (sym e)).1)

pub bit : (n : ℕ) → n < set_bits → (1 * 2 ^ n) % suc max_u64 ≡ 2 ^ n
bit n h = shl_exact {a = 1} 1 n set_bits (lit< tt) (omega arith) ∙ one-mul (2 ^ n)

pub bit_low : (n : ℕ) → n < set_bits → 2 ^ n ≤ 2 ^ max_campaign
bit_low n h = pow_mono {i = n} {j = max_campaign} (omega arith)

twice : (a b p m : ℕ) → a ≤ b → m < a * (p * 2) → m < (b + a) * p
twice a b p m h l = omega (arith, mul-le-mul_right p h)

-- a set that uses up so many turns has a name of 64 or more
enough : (k v : ℕ) (l : List ℕ) → v < 2 ^ 64 → 2 ^ 64 < (v + 1) * 2 ^ k → set_at k v l ≡ set_at (suc k) v l
unfolding set_at in_slot
enough zero v l h e = absurd (omega arith)
enough (suc k) v [] h e = refl
enough (suc k) v (b ∷ l) h e =
    ap (λ (s : Seen). cond (eqb b 32) s (seen v (b ∷ l))) (go (numeral_at l) (λ x l'. enough k x l'))
  where
    go : (s : Seen)
        → ((x : ℕ) (l' : List ℕ) → x < 2 ^ 64 → 2 ^ 64 < (x + 1) * 2 ^ k → set_at k x l' ≡ set_at (suc k) x l')
        → and_then (with_name v (ranged campaign_slot s)) (set_at k)
        ≡ and_then (with_name v (ranged campaign_slot s)) (set_at (suc k))
    go unseen ih = refl
    go (seen n l') ih = by (in_slot campaign_slot n) refl (ltb v (2 ^ n)) refl
      where
        by : (x : Bool) → in_slot campaign_slot n ≡ x → (t : Bool) → ltb v (2 ^ n) ≡ t
            → and_then (with_name v (cond x (seen n l') unseen)) (set_at k)
            ≡ and_then (with_name v (cond x (seen n l') unseen)) (set_at (suc k))
        by false p t q = refl
        by true p false q = simp q
        by true p true q =
            let low : v + 1 ≤ 2 ^ n = omega (arith, ltb-true v (2 ^ n) q) in
            let b = bit_low n (omega (arith, leb-true n max_campaign p)) in
            let more = twice (v + 1) (2 ^ n) (2 ^ k) (2 ^ 64) low (rw pow-suc at e) in
            simp q (ih (v + 2 ^ n) l' (omega arith) (omega (arith, more)))

module _ (v : ℕ) (r : List ℕ) where
  pub no_name : (0 < length r → get_or r 0 0 ≡ 32 → ⊥) → set_at (suc set_bits) v r ≡ seen v r
  unfolding set_at
  no_name h = go r h
    where
      go : (r : List ℕ) → (0 < length r → get_or r 0 0 ≡ 32 → ⊥) → set_at (suc set_bits) v r ≡ seen v r
      go [] h = refl
      go (b ∷ l) h = simp (ne_eqb b 32 (h (omega arith)))

  module _ (h : 0 < length r) (e : get_or r 0 0 ≡ 32) (s : Seen)
      (q : s ≡ ranged campaign_slot (numeral_at (take (length r - 1) (drop 1 r)))) where
    turn : set_at (suc set_bits) v r ≡ and_then (with_name v s) (set_at set_bits)
    unfolding set_at
    turn = go r h e q
      where
        go : (r : List ℕ) → 0 < length r → get_or r 0 0 ≡ 32
            → s ≡ ranged campaign_slot (numeral_at (take (length r - 1) (drop 1 r)))
            → set_at (suc set_bits) v r ≡ and_then (with_name v s) (set_at set_bits)
        go [] h e q = absurd (omega arith)
        go (b ∷ l) h e q =
            simp (eq-eqb b 32 e)
            (ap (λ (x : Seen). and_then (with_name v x) (set_at set_bits)) (sym (rw (take_rest (b ∷ l) 1) at q)))

    pub not_there : s ≡ unseen → set_at (suc set_bits) v r ≡ unseen
    not_there u = turn ∙ ap (λ (x : Seen). and_then (with_name v x) (set_at set_bits)) u

    pub not_above : (n : ℕ) (m : List ℕ) → s ≡ seen n m → 2 ^ n ≤ v → set_at (suc set_bits) v r ≡ unseen
    not_above n m u b =
        turn ∙ ap (λ (x : Seen). and_then (with_name v x) (set_at set_bits)) u ∙ simp (le-ltb v (2 ^ n) b)

    pub joins : (n : ℕ) (m : List ℕ) → s ≡ seen n m → v < 2 ^ n → n < set_bits
        → set_at (suc set_bits) v r ≡ set_at (suc set_bits) (v + 2 ^ n) m
    joins n m u b h = turn ∙ ap (λ (x : Seen). and_then (with_name v x) (set_at set_bits)) u ∙ simp (lt-ltb v (2 ^ n) b)
        (enough set_bits (v + 2 ^ n) m (omega (arith, bit_low n h)) (omega arith))
