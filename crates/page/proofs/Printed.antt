-- The two refusals and the page: each way out of printing is a case of the definitions.
use mathlib.Core.Path.{◌≡◌, ap, ◌∙◌}
use mathlib.Core.Bool.{true, false}
use mathlib.Core.List.{List, [], ◌∷◌, ◌++◌}
use Prim.Native.Nat.{ℕ, ◌+◌, ◌*◌, ◌-◌, ◌≤◌, ◌<◌}
use native.Mathlib.Omega.{arith}
use lib.Dec.{leb}
use lib.ListN.{length, drop, replicate}
use borrow.Author.Tests.{le-leb, lt-leb}
use Rattle.finite.proofs.Tables.{length_table}
use Rattle.day.specs.declared.Day.{Day}
use Rattle.day.specs.Day.{campaign, total_takings}
use Rattle.questions.specs.Questions.{first_failed}
use Rattle.day.specs.Day.{sound}
use Rattle.day.proofs.State.{sound_facts}
use Rattle.refusal.specs.Refusal.{refusal}
use Rattle.std.specs.Prelude.{Ok, Err}
use Rattle.page.specs.Page.{line_length, total_text, page}
use Rattle.page.specs.Figures.{page_row, figures}
use Rattle.page.specs.Printing.{page_of, page_question, printing, printed}
use Rattle.page.specs.Cited.{Lays, campaign_lines}
use Rattle.page.proofs.Lays.{lays_before}
use Rattle.page.proofs.ReadBack.{page_length}
use Rattle.page.proofs.Promises.{sound_fits}

module _ (s : Day) (d : List ℕ) where
  pub unsound : sound s ≡ false → (Err (refusal 1) ≡ printing s d) × (d ≡ printed s d)
  unfolding printing printed page_question first_failed
  unsound e = (rw e, rw e)

  module _ (e : sound s ≡ true) where
    -- a line for each campaign, and the last
    pub long : length (page_of s) ≡ line_length * s.count + line_length
    unfolding figures
    long =
        omega (arith, page_length (figures s) (sound_fits s e), length_table s.count (λ i. page_row (campaign s i)))

    pub no_room : length d < line_length * s.count + line_length → (Err (refusal 18) ≡ printing s d) × (d ≡ printed s d)
    unfolding printing printed page_question first_failed
    no_room l =
        let f : leb (length (page_of s)) (length d) ≡ false =
        lt-leb (length (page_of s)) (length d) (omega (arith, long)) in
        (rw (e, f), rw (e, f))

    -- spaces, the last line, and the others before it
    pub laid : {d₁ d₂ d₃ : List ℕ} (n : ℕ) → n ≡ line_length * s.count + line_length → n ≤ length d
        → d₁ ≡ replicate n 32 ++ drop n d → Lays d₁ d₂ (n - line_length) n (total_text (total_takings s) ++ (10 ∷ []))
        → Lays d₂ d₃ 0 (line_length * s.count) (campaign_lines s.count (campaign s))
        → (Ok n ≡ printing s d) × (d₃ ≡ printed s d)
    unfolding printing printed page_question first_failed page figures
    laid {d₁} {d₂} {d₃} n k l c p q =
        let f : leb (length (page_of s)) (length d) ≡ true =
        le-leb (length (page_of s)) (length d) (omega (arith, long)) in
        let m : n ≡ length (page_of s) = omega (arith, long) in
        let mid : n - line_length ≡ line_length * s.count = omega arith in
        let all = lays_before (rw mid at p) q in
        let stands = all.lays (drop n d) (record { is = c }) in (
          rw (e, f) (ap Ok m),
          rw (e, f) (stands.is ∙ ap (λ (j : ℕ). page_of s ++ drop j d) m),
        )

    -- with room for 64 campaigns a page is never refused, and stands at the front
    module _ (room : 2665 ≤ length d) where
      no_question : page_question s d ≡ 0
      unfolding page_question first_failed
      no_question =
          let few = (sound_facts s e).few in
          rw (e, le-leb (length (page_of s)) (length d) (omega (arith, long)))

      pub prints : printing s d ≡ Ok (length (page_of s))
      unfolding printing
      prints = rw no_question

      pub stands : printed s d ≡ page_of s ++ drop (length (page_of s)) d
      unfolding printed
      stands = rw no_question
