-- Candidates that are able alike, and of which the able ones displace one another alike, are chosen alike: by induction
-- on their number.
use mathlib.Core.Path.{◌≡◌, refl}
use mathlib.Core.Bool.{Bool, true, false, cond}
use Prim.Native.Nat.{ℕ, zero, suc, ◌<◌}
use native.Mathlib.Nat.{le_refl, le_step}
use Rattle.campaigns.specs.Choice.{Choice, against, best}
use Rattle.campaigns.specs.Choice.Choice.{nobody, plays}
use Rattle.campaigns.proofs.Choices.{Fits, best_fits}

-- of two able ones, the lower against the higher
abbrev pub Alike : (n : ℕ) → (ℕ → Bool) → (front front' : ℕ → ℕ → Bool) → Type 0
Alike n able front front' =
    (m i : ℕ) → m < i → i < n → able m ≡ true → able i ≡ true → front m i ≡ front' m i

pub best_eq : (n : ℕ) (able able' : ℕ → Bool) (front front' : ℕ → ℕ → Bool) → ((i : ℕ) → i < n → able i ≡ able' i)
    → Alike n able front front' → best n able front ≡ best n able' front'
unfolding best
best_eq zero able able' front front' h k = refl
best_eq (suc n) able able' front front' h k =
    let e : best n able front ≡ best n able' front' =
    best_eq n able able' front front' (λ i l. h i (le_step l)) (λ m i l l'. k m i l (le_step l')) in
    rw (← e, ← h n (le_refl (suc n))) (go (able n) refl (best n able front) (best_fits n able front))
  where
    go : (t : Bool) → able n ≡ t → (c : Choice) → Fits n able c
        → cond t (against front c n) c ≡ cond t (against front' c n) c
    go false e c f = refl
    go true e nobody f = refl
    go true e (plays m) f = rw (k m n f.0 (le_refl (suc n)) f.1 e)
