-- The encodings are undone case by case, each closed by computing.
use mathlib.Core.Path.{◌≡◌, refl, ap, ap₂, sym, ◌∙◌}
use mathlib.Core.Bool.{Bool, true, false, cond, ◌&&◌, ◌||◌}
use mathlib.Core.List.{List, [], ◌∷◌, ◌++◌}
use Prim.Native.Nat.{ℕ, zero, suc}
use native.Mathlib.Omega.{arith}
use lib.Dec.{leb, eqb}
use lib.ListN.{get_or}
use borrow.Author.Tests.{leb-true, eqb-true}
use Rattle.campaigns.specs.declared.Head.{Head}
use Rattle.campaigns.specs.declared.Phase.{Phase}
use Rattle.campaigns.specs.declared.Phase.TheVariants.{Filling, Running, Closed}
use Rattle.day.specs.declared.Answer.{Answer}
use Rattle.day.specs.declared.Answer.TheVariants.{Refused, Done, Played, Nobody, Tallied, Closing}
use Rattle.day.specs.Calls.{number}
use Rattle.lines.specs.declared.Record.{Record}
use Rattle.lines.specs.declared.Record.TheVariants as form
use Rattle.lines.specs.Form.{numbers}
use Rattle.lines.specs.Reading.{forms, made}
use Rattle.encoding.specs.Encoding.{tag_of, held_by, is_head, phase_of, head_in, head_words, answer_after}
use Rattle.encoding.specs.Encoding.{form_of, is_form, record_of, record_words}
use Rattle.encoding.specs.Faithful.{Faithful, seven}

-- heads
tagged : (p : Phase) → leb (tag_of p) 2 && (eqb (tag_of p) 2 || eqb (held_by p) 0) ≡ true
tagged Filling = refl
tagged Running = refl
tagged (Closed t) = refl

phase_back : (p : Phase) → phase_of (tag_of p) (held_by p) ≡ p
unfolding phase_of
phase_back Filling = refl
phase_back Running = refl
phase_back (Closed t) = refl

head_back : (h : Head) → head_in (head_words h) ≡ h
head_back h =
    ap (λ (p : Phase). record {
      phase = p;
      plan = h.plan;
      count = h.count;
      accepted = h.accepted;
      paused =
          h.paused;
    })
    (phase_back h.phase)

-- the words of the phase that two words give
record Twice (a b : ℕ) : Type 0 where
  tag : tag_of (phase_of a b) ≡ a
  held : held_by (phase_of a b) ≡ b

both : (x y : Bool) → x && y ≡ true → x ≡ true
both true y e = refl
both false y e = e

twice : (a b : ℕ) → leb a 2 && (eqb a 2 || eqb b 0) ≡ true → Twice a b
unfolding phase_of
twice zero b e = record { tag = refl; held = sym (eqb-true b 0 e) }
twice (suc zero) b e = record { tag = refl; held = sym (eqb-true b 0 e) }
twice (suc (suc zero)) b e = record { tag = refl; held = refl }
twice (suc (suc (suc a))) b e =
    let n = suc (suc (suc a)) in
    absurd (omega (arith, leb-true n 2 (both (leb n 2) (eqb n 2 || eqb b 0) e)))

words_back : (a b c d e f g : ℕ) → is_head (seven a b c d e f g) ≡ true →
    head_words (head_in (seven a b c d e f g)) ≡ seven a b c d e f g
words_back a b c d e f g h = let t = twice a b h in rw (t.tag, t.held)

-- answers: the answer that a status and five words give, where 0 was there before
answer_of : ℕ → List ℕ → Answer
answer_of q w =
    cond (eqb (get_or w 0 0) 0) (Refused q)
    (cond (eqb (get_or w 0 0) 1) Done
    (cond (eqb (get_or w 0 0) 2) (Played (get_or w 1 0) (get_or w 2 0))
    (cond (eqb (get_or w 0 0) 3) Nobody
    (cond (eqb (get_or w 0 0) 4) (Tallied (get_or w 1 0) (get_or w 2 0) (get_or w 3 0) (get_or w 4 0))
    (Closing (get_or w 1 0) (get_or w 2 0) (get_or w 3 0))))))

answer_back : (a : Answer) → answer_of (number a) (answer_after a (0 ∷ [])) ≡ a
unfolding answer_after answer_of
answer_back (Refused q) = refl
answer_back Done = refl
answer_back (Played i p) = refl
answer_back Nobody = refl
answer_back (Tallied p t a n) = refl
answer_back (Closing t c f) = refl

answer_once : (a b : Answer) → number a ≡ number b → ((w : List ℕ) → answer_after a w ≡ answer_after b w) → a ≡ b
answer_once a b n e = sym (answer_back a) ∙ ap₂ answer_of n (e (0 ∷ [])) ∙ answer_back b

-- records: their words are those of a form, and give them back
record_kept : (r : Record) → (is_form (record_words r) ≡ true) × (record_of (record_words r) ≡ r)
    × ((rest : List ℕ) → record_of (form_of r ∷ (numbers r ++ rest)) ≡ r)
unfolding record_words numbers record_of forms made
record_kept (form.Plan _ _) = (refl, refl, λ rest. refl)
record_kept (form.Campaign _ _) = (refl, refl, λ rest. refl)
record_kept form.Start = (refl, refl, λ rest. refl)
record_kept (form.View _) = (refl, refl, λ rest. refl)
record_kept form.Close = (refl, refl, λ rest. refl)
record_kept form.Done = (refl, refl, λ rest. refl)
record_kept (form.Play _ _) = (refl, refl, λ rest. refl)
record_kept form.Nobody = (refl, refl, λ rest. refl)
record_kept (form.Refused _) = (refl, refl, λ rest. refl)
record_kept (form.Closed _ _ _) = (refl, refl, λ rest. refl)
record_kept (form.Tally _ _ _ _ _) = (refl, refl, λ rest. refl)
record_kept (form.Pause _) = (refl, refl, λ rest. refl)
record_kept (form.Resume _) = (refl, refl, λ rest. refl)

pub faithful : Faithful
faithful = record {
  head_is = λ h. tagged h.phase;
  head_back = head_back;
  words_back = words_back;
  answer_once = answer_once;
  form_is = λ r. (record_kept r).0;
  record_back = λ r. (record_kept r).1;
  rest_ignored = λ r. (record_kept r).2;
}
