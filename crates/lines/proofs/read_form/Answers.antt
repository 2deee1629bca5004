-- The bytes at 1, 3, 4 and 6 leave one form (`leaves`), and its code holds the line to that form; `answers` joins the
-- two.
use mathlib.Core.Path.{◌≡◌, refl, ap, sym, ◌∙◌}
use mathlib.Core.Bool.{false}
use mathlib.Core.List.{List}
use Prim.Native.Nat.{ℕ}
use native.Mathlib.Omega.{arith}
use lib.Dec.{eqb}
use lib.ListN.{get_or}
use borrow.Author.Tests.{ne_eqb}
use Rattle.std.specs.Prelude.{Result, Err}
use Rattle.refusal.specs.declared.Refusal.{Refusal}
use Rattle.refusal.specs.Refusal.{refusal}
use Rattle.lines.specs.declared.Record.{Record}
use Rattle.lines.specs.declared.Record.TheVariants.{Plan, Campaign, Start, View, Close, Done, Play, Nobody}
use Rattle.lines.specs.declared.Record.TheVariants.{Refused, Closed, Tally, Pause, Resume}
use Rattle.lines.specs.Form.{template}
use Rattle.lines.specs.Reading.{forms, first_of, made, held_or}
use Rattle.lines.proofs.Choice.{leaves, chosen, first_chosen}
use Rattle.lines.proofs.Fields.{reads}
use Rattle.lines.proofs.Fields.Scanned.{last_word}
use Rattle.lines.proofs.read_form.Goals as goal

-- The byte at 1 is b, and with the bytes behind it it leaves the form f: a is what f reads.
answers : (l : List ℕ) {b r : ℕ} → r ≡ get_or l 1 0 → r ≡ b → (f : Record) {a : Result Record Refusal}
    → leaves b (get_or l 3 0) (get_or l 4 0) (get_or l 6 0) ≡ f → a ≡ held_or (Err (refusal 17)) f l
    → a ≡ first_of forms l
unfolding chosen
answers l k e f p q =
    let chosen_is : chosen l ≡ f = rw (sym k ∙ e) p in
    q ∙ ap (λ (x : Record). held_or (Err (refusal 17)) x l) (sym chosen_is) ∙ sym (first_chosen l)

-- a byte that was looked at is not the one asked for
other : {r b k : ℕ} → r ≡ b → (r ≡ k → ⊥) → eqb b k ≡ false
other {b = b} {k = k} e h = ne_eqb b k (λ p. h (e ∙ p))

pub returns-in-118 : goal.returns-in-118
returns-in-118 c = answers c.args.s.now c.byte.ensures c.in-118.is (View 0) refl c.read_view.ensures

pub returns-in-110-byte : goal.returns-in-110-byte
returns-in-110-byte c =
    answers c.args.s.now c.byte.ensures c.in-112.is (Plan 0 0)
    (rw (sym c.byte-in-112.ensures ∙ c.in-110-byte.is)) c.read_plan.ensures

pub returns-in-115-byte : goal.returns-in-115-byte
returns-in-115-byte c =
    answers c.args.s.now c.byte.ensures c.in-112.is (Pause 0)
    (rw (sym c.byte-in-112.ensures ∙ c.in-115-byte.is)) c.read_pause.ensures

pub returns-in_default-byte : goal.returns-in_default-byte
returns-in_default-byte c =
    let fourth = c.byte-in-112.ensures in
    answers c.args.s.now c.byte.ensures c.in-112.is (Play 0 0)
    (rw (other {k = 110} fourth (λ q. omega arith), other {k = 115} fourth (λ q. omega arith))) c.read_play.ensures

pub returns-in-41 : goal.returns-in-41
unfolding template made
returns-in-41 c =
    answers c.args.s.now c.byte.ensures c.in-99.is Close
    (rw (sym c.byte-in-99.ensures ∙ c.in-41.is))
    (reads Close (last_word refl) c.ended.ensures)

pub returns-in-100 : goal.returns-in-100
returns-in-100 c =
    answers c.args.s.now c.byte.ensures c.in-99.is (Closed 0 0 0)
    (rw (sym c.byte-in-99.ensures ∙ c.in-100.is)) c.read_closed.ensures

pub returns-in_default-byte-2 : goal.returns-in_default-byte-2
returns-in_default-byte-2 c =
    let sixth = c.byte-in-99.ensures in
    answers c.args.s.now c.byte.ensures c.in-99.is (Campaign 0 0)
    (rw (other {k = 41} sixth (λ q. omega arith), other {k = 100} sixth (λ q. omega arith))) c.read_campaign.ensures

pub returns-in-115 : goal.returns-in-115
unfolding template made
returns-in-115 c =
    answers c.args.s.now c.byte.ensures c.in-115.is Start refl (reads Start (last_word refl) c.ended-in-115.ensures)

pub returns-in-111 : goal.returns-in-111
unfolding template made
returns-in-111 c =
    answers c.args.s.now c.byte.ensures c.in-111.is Done refl (reads Done (last_word refl) c.ended-in-111.ensures)

pub returns-in-110 : goal.returns-in-110
unfolding template made
returns-in-110 c =
    answers c.args.s.now c.byte.ensures c.in-110.is Nobody refl (reads Nobody (last_word refl) c.ended-in-110.ensures)

pub returns-in-115-byte-2 : goal.returns-in-115-byte-2
returns-in-115-byte-2 c =
    answers c.args.s.now c.byte.ensures c.in-114.is (Resume 0)
    (rw (sym c.byte-in-114.ensures ∙ c.in-115-byte-2.is)) c.read_resume.ensures

pub returns-in_default-byte-3 : goal.returns-in_default-byte-3
returns-in_default-byte-3 c =
    answers c.args.s.now c.byte.ensures c.in-114.is (Refused 0)
    (rw (other {k = 115} c.byte-in-114.ensures (λ q. omega arith))) c.read_refused.ensures

-- no other byte at 1 was found
pub returns-in_default : goal.returns-in_default
returns-in_default c =
    let is_not = ne_eqb c.byte.result in
    answers c.args.s.now c.byte.ensures refl (Tally 0 0 0 0 0)
    (rw (
      is_not 118 (λ q. omega arith),
      is_not 112 (λ q. omega arith),
      is_not 99 (λ q. omega arith),
      is_not 115 (λ q. omega arith),
      is_not 111 (λ q. omega arith),
      is_not 110 (λ q. omega arith),
      is_not 114 (λ q. omega arith),
    )) c.read_tally.ensures
