-- The two questions, then spaces, the last line and the others. Question 1 and the takings come from one audit; the
-- figures of a sound state fit, so each line has its 41 bytes.
use mathlib.Core.Path.{◌≡◌, refl, sym, ap, subst, ◌∙◌}
use mathlib.Core.Bool.{true}
use mathlib.Core.List.{List, [], ◌∷◌, ◌++◌}
use Prim.Native.Nat.{ℕ, ◌+◌, ◌*◌, ◌-◌, ◌^◌, ◌≤◌, ◌<◌}
use native.Mathlib.Omega.{arith}
use lib.ListN.{length, take, drop, replicate}
use Rattle.std.proofs.lemmas.List.{length-take-le}
use Rattle.std.proofs.Common.{rules, Err, Some, None}
use Rattle.audit.specs.declared.Audit.{Audit}
use Rattle.audit.proofs.Audits.{audit_some, audit_none}
use Rattle.day.specs.declared.Day.{Day}
use Rattle.day.specs.Day.{head_of, campaign, state_of, total_takings, audited, sound}
use Rattle.day.proofs.State.{Sound, sound_facts}
use Rattle.refusal.specs.Refusal.{refusal}
use Rattle.page.specs.Page.{line_length, total_text}
use Rattle.page.specs.Cited.{Lays}
use Rattle.page.proofs.Lays.{cleared_length}
use Rattle.page.proofs.Promises.{row_fits, takings_fit}
use Rattle.page.proofs.Printed.{unsound, no_room, laid}
use Rattle.page.proofs.print_page.Goals as goal

-- what is known of a state that has an audit
module _ (s : Day) {a : Audit} (e : Some a ≡ audited s) where
  is_sound : sound s ≡ true
  unfolding audited sound
  is_sound = (audit_some (head_of s) (campaign s) e).0

  facts : Sound s
  facts = sound_facts s is_sound

  takings_are : a.takings ≡ total_takings s
  unfolding audited total_takings
  takings_are = ap (λ (x : Audit). x.takings) (audit_some (head_of s) (campaign s) e).1

  takings_small : a.takings < 10 ^ 13
  takings_small = omega (arith, takings_are, takings_fit s facts)

pub returns-in_err-audit : goal.returns-in_err-audit
unfolding audited sound
returns-in_err-audit c =
    let s = state_of c.args.head c.args.terms.now c.args.counts.now in
    let e : c.audited.result ≡ None = c.in_err-audit.ensures.ok_part in
    let told : c.from_residual.result ≡ Err (refusal 1) = search rules in
    let none = unsound s c.args.out.now (audit_none (head_of s) (campaign s) (sym e ∙ c.audited.ensures)) in
    (told ∙ none.0, none.1)

pub overflow_mul-len : goal.overflow_mul-len
overflow_mul-len c =
    let s = state_of c.args.head c.args.terms.now c.args.counts.now in
    omega (arith, (facts s (sym c.in_ok-audit.ensures.ok_part ∙ c.audited.ensures)).few)

pub overflow_add-len : goal.overflow_add-len
overflow_add-len c =
    let s = state_of c.args.head c.args.terms.now c.args.counts.now in
    omega (arith, (facts s (sym c.in_ok-audit.ensures.ok_part ∙ c.audited.ensures)).few)

pub returns-then-out-len : goal.returns-then-out-len
returns-then-out-len c =
    let s = state_of c.args.head c.args.terms.now c.args.counts.now in
    no_room s c.args.out.now (is_sound s (sym c.in_ok-audit.ensures.ok_part ∙ c.audited.ensures)) c.if-out-len.true

-- the page's place holds spaces
filled : (d e : List ℕ) (n : ℕ) → n ≤ length d
    → (((y : ℕ) → y ≡ 32 → y ≡ 32) → e ≡ replicate (length (take n d)) 32) → e ++ drop n d ≡ replicate n 32 ++ drop n d
filled d e n h f =
    ap (λ (x : List ℕ). x ++ drop n d) (f (λ y q. q) ∙ ap (λ (m : ℕ). replicate m 32) (length-take-le n d h))

pub put_total-requires : goal.put_total-requires
put_total-requires c =
    let s = state_of c.args.head c.args.terms.now c.args.counts.now in
    let clear = filled c.args.out.now c.fill.new.self _ c.if-out-len.false c.fill.ensures.after in
    let same = cleared_length c.args.out.now _ c.if-out-len.false clear in (
      (omega arith, omega (arith, same, c.if-out-len.false)),
      takings_small s (sym c.in_ok-audit.ensures.ok_part ∙ c.audited.ensures),
    )

pub put_rows-requires : goal.put_rows-requires
put_rows-requires c =
    let s = state_of c.args.head c.args.terms.now c.args.counts.now in
    let clear = filled c.args.out.now c.fill.new.self _ c.if-out-len.false c.fill.ensures.after in
    let same = c.put_total.ensures.same ∙ cleared_length c.args.out.now _ c.if-out-len.false clear in
    let h = facts s (sym c.in_ok-audit.ensures.ok_part ∙ c.audited.ensures) in
    record {
      few = h.few;
      room = omega (arith, same, c.if-out-len.false);
      all_fit = row_fits s h;
    }

pub returns : goal.returns
returns c =
    let s = state_of c.args.head c.args.terms.now c.args.counts.now in
    let e = sym c.in_ok-audit.ensures.ok_part ∙ c.audited.ensures in
    let len = line_length * s.count + line_length in
    let clear = filled c.args.out.now c.fill.new.self len c.if-out-len.false c.fill.ensures.after in
    let total = subst (λ (t : ℕ). Lays (c.fill.new.self ++ drop len c.args.out.now) c.put_total.new.out (len - line_length) len
    (total_text t ++ (10 ∷ []))) (takings_are s e) c.put_total.ensures in
    laid s c.args.out.now (is_sound s e) len refl c.if-out-len.false clear total c.put_rows.ensures
