-- A test of every index of one or two lists, as a chain over them makes it.
use Rattle.std.proofs.Common.{◌≡◌, refl, ap, sym, ◌∙◌, ℕ, zero, suc, ◌≤◌, List, [], ◌∷◌, length}
use Rattle.std.proofs.Common.{Bool, true, false, ◌&&◌, arith}
use Rattle.std.specs.List.{list_all, zip}
use Rattle.finite.specs.Finite.{every}
use Rattle.allotments.specs.Allotment.{at}

and_assoc : (a b c : Bool) → ((a && b) && c) ≡ (a && (b && c))
and_assoc true b c = refl
and_assoc false b c = refl

and_true : (b : Bool) → (true && b) ≡ (b && true)
and_true true = refl
and_true false = refl

every_front : (n : ℕ) (p : ℕ → Bool) → every (suc n) p ≡ (p 0 && every n (λ i. p (suc i)))
unfolding every
every_front zero p = and_true (p 0)
every_front (suc n) p =
    ap (λ (b : Bool). b && p (suc n)) (every_front n p) ∙ and_assoc (p 0) (every n (λ i. p (suc i))) (p (suc n))

pub every_listed : (p : ℕ → Bool) (xs : List ℕ) → list_all p xs ≡ every (length xs) (λ j. p (at xs j))
unfolding every
every_listed p [] = refl
every_listed p (x ∷ xs) =
    ap (λ (b : Bool). p x && b) (every_listed p xs) ∙ sym (every_front (length xs) (λ j. p (at (x ∷ xs) j)))

-- where the second is no shorter
pub every_zipped : (p : ℕ → ℕ → Bool) (xs ys : List ℕ) → length xs ≤ length ys
    → list_all (λ (q : ℕ × ℕ). p q.0 q.1) (zip xs ys) ≡ every (length xs) (λ j. p (at xs j) (at ys j))
unfolding every
every_zipped p [] ys h = refl
every_zipped p (x ∷ xs) [] h = absurd (omega arith)
every_zipped p (x ∷ xs) (y ∷ ys) h =
    ap (λ (b : Bool). p x y && b) (every_zipped p xs ys (omega arith))
    ∙ sym (every_front (length xs) (λ j. p (at (x ∷ xs) j) (at (y ∷ ys) j)))
