-- The last arm of a match on forms: a number that is none of those before is the last form's.
use mathlib.Core.Path.{◌≡◌}
use mathlib.Core.Bool.{true}
use Prim.Native.Nat.{ℕ, suc, ◌≤◌}
use lib.Dec.{ltb}
use borrow.Author.Tests.{ltb-true}
use native.Mathlib.Omega.{arith}

-- a number that is not one of those below it is above them
pub next : (f n : ℕ) → n ≤ f → (f ≡ n → ⊥) → suc n ≤ f
next f n a b = omega arith

pub last : (f n : ℕ) → ltb f (suc n) ≡ true → n ≤ f → f ≡ n
last f n a b = omega (arith, ltb-true f (suc n) a)
