-- What the statuses of the search, of the check and of the takings say: 0 is given only where no question fails, and a
-- question's number is below 100.
use mathlib.Core.Path.{◌≡◌, refl, ap, sym, ◌∙◌, subst⁻¹}
use mathlib.Core.Bool.{Bool, true, false, cond}
use mathlib.Core.List.{List, [], ◌∷◌}
use mathlib.Core.Logic.{◌⊎◌, inl, inr}
use Prim.Native.Nat.{ℕ, zero, suc, ◌<◌}
use native.Mathlib.Omega.{arith}
use lib.Dec.{eqb}
use lib.ListN.{length, take}
use borrow.Author.Tests.{ne_eqb}
use Rattle.day.specs.declared.Day.{Day}
use Rattle.questions.specs.Questions.{first_failed}
use Rattle.std.specs.Prelude.{Ok}
use Rattle.optimum.specs.Optimum.{failed, fits, most_of, allotment_takings, number, answer_of, search_answer}
use Rattle.optimum.specs.Optimum.{takings_questions, takings_answer, verdict_of, checked, BestAllotment}
use Rattle.optimum.proofs.Asked.{number_found}
use Rattle.optimum.proofs.Greatest.{accepted_is_best, search_accepted, search_taken, tells}
use Rattle.encoding.specs.Encoding.{no_head, no_fit, is_head}
use Rattle.wezghuli.specs.Library.{lent_state}
use Rattle.wezghuli.specs.Search.{search_status, SearchLeaves, verdict_status, check_status}
use Rattle.wezghuli.specs.Search.{takings_in, takings_status, takings_after}
use Rattle.wezghuli.proofs.Low.{low_small}
use Rattle.wezghuli.proofs.Low.Low.{none, then}

-- a status that is 0 is no misuse
was_head : (b : Bool) (x : ℕ) → cond b x no_head ≡ 0 → (b ≡ true) × (x ≡ 0)
was_head true x e = (refl, e)
was_head false x e = absurd (omega (arith, e))

-- the numbers of the questions
failed_small : (s : Day) (views a u v : List ℕ) → failed s views a u v < 100
unfolding failed
failed_small s views a u v =
    low_small (then 1 (omega arith) (then 19 (omega arith) (then 13 (omega arith) (then 18 (omega arith) none))))

verdict_is : (q : ℕ) (b : Bool) → verdict_status (verdict_of q b) ≡ cond (eqb q 0) (cond b 0 no_fit) q
verdict_is zero true = refl
verdict_is zero false = refl
verdict_is (suc q) b = rw (ne_eqb (suc q) 0 (λ z. omega (arith, z)))

verdict_small : (q : ℕ) (b : Bool) → q < 100 → (verdict_status (verdict_of q b) ≡ no_fit) ⊎ (verdict_status
    (verdict_of q b) < 100)
verdict_small zero true p = inr p
verdict_small zero false p = inl refl
verdict_small (suc q) b p = inr p

-- a verdict of status 0
was_accepted : (q : ℕ) (b : Bool) → verdict_status (verdict_of q b) ≡ 0 → verdict_of q b ≡ Ok true
was_accepted zero true e = refl
was_accepted zero false e = absurd (omega (arith, e))
was_accepted (suc q) b e = absurd (omega (arith, e))

module _ (h t n views a u v : List ℕ) where
  s : Day
  s = lent_state h t n

  pub search_told : is_head h ≡ true → search_status h t n views a u v ≡ failed (lent_state h t n) views a u v
  unfolding search_status s
  search_told e = rw e (tells s views a u v).search_number

  pub search_refusal : is_head h ≡ true → search_status h t n views a u v < 100
  unfolding s
  search_refusal e = subst⁻¹ (λ (q : ℕ). q < 100) (search_told e) (failed_small s views a u v)

  pub check_told : is_head h ≡ true → let s = lent_state h t n in check_status h t n views a u v
      ≡ cond (eqb (failed s views a u v) 0) (cond (fits s views a u v) 0 no_fit) (failed s views a u v)
  unfolding check_status s
  check_told e = rw e (verdict_is (failed s views a u v) (fits s views a u v))

  pub check_refusal : is_head h ≡ true
      → (check_status h t n views a u v ≡ no_fit) ⊎ (check_status h t n views a u v < 100)
  unfolding check_status s
  check_refusal e = rw e (verdict_small (failed s views a u v) (fits s views a u v) (failed_small s views a u v))

  pub check_best : check_status h t n views a u v ≡ 0 → BestAllotment (lent_state h t n) views a
  unfolding check_status s
  check_best e =
      let w = was_head (is_head h) (verdict_status (checked s views a u v)) e in
      accepted_is_best s views a u v (was_accepted (failed s views a u v) (fits s views a u v) w.1)

  found_nothing_failed : search_status h t n views a u v ≡ 0
      → (is_head h ≡ true) × (failed (lent_state h t n) views a u v ≡ 0)
  unfolding search_status s
  found_nothing_failed e =
      let w = was_head (is_head h) (number (search_answer s views a u v)) e in
      (w.0, sym (tells s views a u v).search_number ∙ w.1)

module _ (h t n views a a' u u' v v' : List ℕ) (e : search_status h t n views a u v ≡ 0)
    (left : SearchLeaves h t n views a a' u u' v v') where
  pub search_checked : check_status h t n views a' u' v' ≡ 0
  unfolding check_status
  search_checked =
      let w = found_nothing_failed h t n views a u v e in
      let s = lent_state h t n in
      rw w.0 (ap verdict_status (search_accepted s views a a' u u' v v' (search_answer s views a u v)
      (left.searched w.0) w.1))

  pub search_takings : (l : List ℕ) → (takings_status h t n (take (length views) a') ≡ 0)
      × (takings_after h t n (take (length views) a') l ≡ most_of (lent_state h t n) views ∷ [])
  search_takings l =
      let w = found_nothing_failed h t n views a u v e in
      let s = lent_state h t n in
      let front = take (length views) a' in
      let x : takings_in h t n front ≡ Ok (most_of s views) =
      search_taken s views a a' u u' v v' (search_answer s views a u v) (left.searched w.0) w.1
      ∙ ap (λ (q : ℕ). answer_of q (most_of s views)) w.1 in
      (rw (w.0, x), rw (w.0, x))

pub takings_told : (h t n a : List ℕ) → is_head h ≡ true
    → takings_status h t n a ≡ first_failed (takings_questions (lent_state h t n) a)
unfolding takings_answer
takings_told h t n a e =
    let s = lent_state h t n in
    rw e (number_found (first_failed (takings_questions s a)) (allotment_takings s (length a) a))

pub takings_refusal : (h t n a : List ℕ) → is_head h ≡ true → takings_status h t n a < 100
takings_refusal h t n a e =
    subst⁻¹ (λ (q : ℕ). q < 100) (takings_told h t n a e)
    (low_small (then 1 (omega arith) (then 19 (omega arith) none)))
