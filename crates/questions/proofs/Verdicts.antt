-- What a verdict says of the first "no".
use Rattle.std.specs.Prelude.{Result, Ok, Err}
use mathlib.Core.Path.{◌≡◌, refl, ap, sym, ◌∙◌}
use mathlib.Core.Bool.{Bool, true, false, cond}
use Prim.Native.Nat.{ℕ}
use lib.Dec.{eqb}
use borrow.Author.Tests.{eqb-true, eq-eqb}
use Rattle.finite.proofs.Tests.{never}
use Rattle.refusal.specs.declared.Refusal.{Refusal}
use Rattle.refusal.specs.Refusal.{refusal}
use Rattle.questions.specs.Questions.{verdict}

-- the number that it says
abbrev pub said : Result Unit Refusal → ℕ
said (Ok u) = 0
said (Err r) = r.question

-- by the test
told : Bool → ℕ → Result Unit Refusal
told b n = cond b (Ok tt) (Err (refusal n))

pub verdict_said : (n : ℕ) → said (verdict n) ≡ n
unfolding told
verdict_said n = go (eqb n 0) refl
  where
    go : (b : Bool) → eqb n 0 ≡ b → said (told b n) ≡ n
    go true e = sym (eqb-true n 0 e)
    go false e = refl

-- a refusal has a number
pub refusal_numbered : (n : ℕ) (r : Refusal) → Err r ≡ verdict n → r.question ≡ 0 → ⊥
unfolding told
refusal_numbered n r e z = never (eqb n 0) (failed (eqb n 0) e) (eq-eqb n 0 (sym (verdict_said n) ∙ sym (ap said e) ∙ z))
  where
    fails : Result Unit Refusal → Bool
    fails (Ok u) = false
    fails (Err r) = true

    failed : (b : Bool) → Err r ≡ told b n → b ≡ false
    failed true x = ap fails x
    failed false x = refl
