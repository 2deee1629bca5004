-- What an exported operation leaves: everything as it was where the words are no head, and else the outcome of the
-- call, stored. Each operation's contract is one of the two, so that its proof only names where the facts stand.
use mathlib.Core.Path.{◌≡◌, ap, ◌∙◌}
use mathlib.Core.Bool.{true, false}
use mathlib.Core.List.{List}
use Prim.Native.Nat.{ℕ}
use Rattle.campaigns.specs.declared.Head.{Head}
use Rattle.day.specs.declared.Outcome.{Outcome}
use Rattle.day.specs.declared.Step.{Step}
use Rattle.day.specs.Day.{state_of}
use Rattle.day.specs.Calls.{Call, call, number}
use Rattle.day.specs.InPlace.{outcome_of}
use Rattle.encoding.specs.Encoding.{no_head, is_head, head_in, head_words, answer_after}
use Rattle.wezghuli.specs.Library.{Memory, memory, status, memory_after, outcome, stored}

pub misused : (k : Call) (m : Memory) → is_head m.head ≡ false → (no_head ≡ status k m) × (m ≡ memory_after k m)
unfolding status memory_after
misused k m e = (rw e, rw e)

module _ (k : Call) (h t n a : List ℕ) (given : is_head h ≡ true) (head : Head) (head_is : head ≡ head_in h) where
  abbrev before : Memory
  before = memory h t n a

  pub called : (s : Step) (t' n' h' a' : List ℕ) (r : ℕ) → outcome_of s t' n' ≡ call (state_of head t n) k →
      (r ≡ number s.answer) × (h' ≡ head_words s.head) × (a' ≡ answer_after s.answer a) →
      (r ≡ status k before) × (memory h' t' n' a' ≡ memory_after k before)
  unfolding status memory_after
  called s t' n' h' a' r done (r_is, h_is, a_is) =
      let e : outcome_of s t' n' ≡ outcome k before = done ∙ ap (λ (x : Head). call (state_of x t n) k) head_is in
      let m : memory h' t' n' a' ≡ stored (outcome_of s t' n') a = rw (h_is, a_is) in (
        rw given (r_is ∙ ap (λ (o : Outcome). number o.answer) e),
        rw given (m ∙ ap (λ (o : Outcome). stored o a) e),
      )
