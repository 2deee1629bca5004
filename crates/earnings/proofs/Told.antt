-- The search's answer beside the takings. It is given where no question fails, so that the state is sound and the audit
-- has told its takings.
use mathlib.Core.Path.{◌≡◌, refl, ap, ◌∙◌}
use mathlib.Core.List.{List}
use Prim.Native.Nat.{ℕ, zero, suc}
use lib.ListN.{length}
use Rattle.std.specs.Prelude.{Some, None}
use Rattle.audit.specs.declared.Audit.{Audit}
use Rattle.audit.proofs.Audits.{audit_some, audit_none}
use Rattle.day.specs.declared.Day.{Day}
use Rattle.day.specs.Day.{head_of, campaign, total_takings, sound, audited}
use Rattle.std.specs.Prelude.{Ok, Err}
use Rattle.refusal.specs.declared.Refusal.{Refusal}
use Rattle.optimum.specs.Optimum.{failed, most_of, answer_of}
use Rattle.refusal.specs.Refusal.{refusal}
use Rattle.questions.specs.Questions.{first_failed}
use Rattle.earnings.specs.Earnings.{earnings_of, question_of, earned}

takings_told : (s : Day) {a : Audit} → Some a ≡ audited s → a.takings ≡ total_takings s
unfolding audited total_takings
takings_told s e = ap (λ (x : Audit). x.takings) (audit_some (head_of s) (campaign s) e).1

-- of a state that is not sound
pub unsound_told : (s : Day) (views : List ℕ) → None ≡ audited s → Err (refusal 1) ≡ earned s views
unfolding audited sound earned question_of first_failed
unsound_told s views e = rw (audit_none (head_of s) (campaign s) e)

refused_of : (n t g : ℕ) {r : Refusal} → Err r ≡ answer_of n g → Err r ≡ earnings_of n t g
refused_of zero t g e = cc
refused_of (suc n) t g e = cc

figures_of : (n g x : ℕ) → Ok x ≡ answer_of n g → (n ≡ 0) × (x ≡ g)
figures_of zero g x e = (refl, cc)
figures_of (suc n) g x e = (cc, cc)

module _ (s : Day) (views a c v : List ℕ) (la : length a ≡ 256) (lc : length c ≡ 64) (lv : length v ≡ 256) where
  same_question : failed s views a c v ≡ question_of s views
  unfolding failed question_of
  same_question = rw (la, lc, lv)

  same_answer : answer_of (failed s views a c v) (most_of s views) ≡ answer_of (question_of s views) (most_of s views)
  same_answer = ap (λ (n : ℕ). answer_of n (most_of s views)) same_question

  pub refused_told : {r : Refusal} → Err r ≡ answer_of (failed s views a c v) (most_of s views) → Err r ≡ earned s views
  unfolding earned
  refused_told {r} e = refused_of (question_of s views) (total_takings s) (most_of s views) (e ∙ same_answer)

  pub figures_told : {x : ℕ} → Ok x ≡ answer_of (failed s views a c v) (most_of s views) → {w : Audit}
      → Some w ≡ audited s → Ok (record { takings = w.takings; greatest = x }) ≡ earned s views
  unfolding earned question_of
  figures_told {x} e {w} i =
      let f = figures_of (question_of s views) (most_of s views) x (e ∙ same_answer) in
      rw (takings_told s i, f.1, f.0)
