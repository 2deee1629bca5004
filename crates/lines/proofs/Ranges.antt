-- A form's range computes to the tests of its numbers, one behind the other.
use mathlib.Core.Path.{◌≡◌, refl}
use mathlib.Core.Bool.{Bool, true, ◌&&◌}
use mathlib.Core.Logic.{◌↔◌}
use Prim.Native.Nat.{ℕ, ◌≤◌}
use lib.Dec.{leb}
use Rattle.finite.proofs.Tests.{both_left, both_join}
use Rattle.finite.proofs.Meanings.{leb_means, both_means}
use Rattle.lines.specs.Limits.{max_input, max_output, max_campaign, max_question, max_money, max_u64}
use Rattle.lines.specs.Form.{template, numbers, in_slot, numbers_after, in_slots, in_range}
use Rattle.lines.specs.Ranges.{Ranges}

-- the last number of a form: no test is behind its own
last : {a : Bool} {P : Type 0} → ((a ≡ true) ↔ P) → ((a && true) ≡ true) ↔ P
last {a} f = (λ e. f.0 (both_left a true e), λ p. both_join a true (f.1 p) refl)

at_most : (m n : ℕ) → (leb n m ≡ true) ↔ (n ≤ m)
at_most m n = leb_means n m

pub ranges : Ranges
unfolding template numbers in_slot numbers_after in_slots in_range
ranges =
    let input = at_most max_input in
    let output = at_most max_output in
    let name = at_most max_campaign in
    let money = at_most max_money in
    record {
      plan = λ depth width. both_means (input depth) (last (input width));
      campaign = λ price budget. both_means (input price) (last (input budget));
      start = refl;
      view = λ set. last (at_most max_u64 set);
      close = refl;
      done = refl;
      play = λ campaign paid. both_means (name campaign) (last (output paid));
      nobody = refl;
      refused = λ number. last (both_means (leb_means 1 number) (at_most max_question number));
      closed = λ takings claim full.
          let all = both_means (money takings) (both_means (money claim) (last (money full))) in
          (λ e. let p = all.0 e in (p.0, p.1.0, p.1.1), λ p. all.1 (p.0, (p.1, p.2)));
      tally = λ campaign plays turns age named.
          let all = both_means (name campaign)
          (both_means (output plays) (both_means (output turns) (both_means (output age) (last (output named))))) in (
            λ e. let p = all.0 e in (p.0, p.1.0, p.1.1.0, p.1.1.1.0, p.1.1.1.1),
            λ p. all.1 (p.0, (p.1, (p.2, (p.3, p.4)))),
          );
      pause = λ campaign. last (name campaign);
      resume = λ campaign. last (name campaign);
    }
