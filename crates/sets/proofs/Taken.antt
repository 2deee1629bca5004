-- What a step of the walk takes: the least member, and what is left of the walk behind it.
use mathlib.Core.Path.{◌≡◌, ap, ap₂, sym, ◌∙◌}
use mathlib.Core.List.{[], ◌∷◌}
use Prim.Native.Nat.{ℕ, ◌^◌, ◌<◌}
use native.Mathlib.Omega.{arith}
use Rattle.sets.specs.Set.{next, beyond}
use Rattle.sets.specs.Walk.{members}
use Rattle.sets.proofs.Walk.{first_is, first_none, members_next, members_none}

-- nothing is left of the empty set
pub none_left : (set : ℕ) → set ≡ 0 → members set ≡ []
none_left set e = ap members e ∙ members_none 0 first_none

-- the least member comes first, and the others are left
pub one_taken : (set i left : ℕ) → set < 2 ^ 64 → (set ≡ 0 → ⊥) → i ≡ next set 0 → left ≡ beyond set (next set 0)
    → members set ≡ i ∷ members left
one_taken set i left h more e f =
    let z = first_is set h more in
    members_next set (omega (arith, z.0, z.1)) ∙ sym (ap₂ (λ (x y : ℕ). x ∷ members y) e f)
