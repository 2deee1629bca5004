-- Campaigns that no free view names: they stay so where a view is given, and one more gets known.
use mathlib.Core.Path.{◌≡◌, ap, sym, ◌∙◌, subst⁻¹}
use mathlib.Core.Logic.{⊎_elim}
use mathlib.Core.Bool.{Bool, false, ◌&&◌}
use mathlib.Core.List.{List}
use Prim.Native.Nat.{ℕ, ◌<◌}
use native.Mathlib.Omega.{arith}
use lib.Dec.{eqb}
use lib.ListN.{length, set}
use borrow.Author.Tests.{ne_eqb}
use Rattle.sets.specs.Set.{member, including}
use Rattle.sets.proofs.Algebra.{including_other}
use Rattle.allotments.specs.Allotment.{at}
use Rattle.allotments.proofs.Cases.{same_or_not}
use Rattle.exchange.specs.Cited.{free, Bare}
use Rattle.exchange.proofs.Entries.{at_same, at_other}

pub bare_set : (views to : List ℕ) (j c bare : ℕ) → c < 64 → j < length to → Bare views to bare
    → Bare views (set to j c) bare
bare_set views to j c bare small room b d l m i k = ⊎_elim
    (λ q.
    let s : at (set to j c) i ≡ c = ap (at (set to j c)) q ∙ at_same to j c room in
    ap (λ (x : ℕ). eqb x 64 && member (at views i) d) s
    ∙ ap (λ (t : Bool). t && member (at views i) d) (ne_eqb c 64 (λ (e : c ≡ 64). omega arith)))
    (λ ne. ap (λ (x : ℕ). eqb x 64 && member (at views i) d) (at_other to j c i ne) ∙ b d l m i k)
    (same_or_not i j)

pub bare_more : (views to : List ℕ) (c bare : ℕ) → ((j : ℕ) → j < length views → free views to c j ≡ false)
    → Bare views to bare → Bare views to (including bare c)
bare_more views to c bare none b d l m j k = ⊎_elim
    (λ q. subst⁻¹ (λ (x : ℕ). free views to x j ≡ false) q (none j k))
    (λ ne. b d l (sym (including_other bare c d l ne) ∙ m) j k)
    (same_or_not d c)
