-- What rule 1 asks of a choice, and that the choice alone does it.
use Rattle.std.specs.Prelude.{◌≡◌, Bool, true, false, ℕ, ◌≤◌, ◌<◌}
use Rattle.campaigns.specs.Choice.{Choice, choice}
use Rattle.campaigns.specs.Choice.Choice.{nobody, plays}

-- of the n candidates, m is able, none that is able has a greater figure, and of equal figures it has the lower number
pub record Best (n : ℕ) (able : ℕ → Bool) (figure : ℕ → ℕ) (m : ℕ) : Type 0 where
  pub below : m < n
  pub is_able : able m ≡ true
  pub top : (i : ℕ) → i < n → able i ≡ true → figure i ≤ figure m
  pub lowest : (i : ℕ) → i < m → able i ≡ true → figure i < figure m

-- rule 1: the best one plays; nobody does if none is able
abbrev pub Right : ℕ → (ℕ → Bool) → (ℕ → ℕ) → Choice → Type 0
Right n able figure nobody = (i : ℕ) → i < n → able i ≡ false
Right n able figure (plays m) = Best n able figure m

-- of any candidates and figures the choice is right, and nothing else is
abbrev pub ChoiceRight : Type 0
ChoiceRight = (n : ℕ) (able : ℕ → Bool) (figure : ℕ → ℕ) → Right n able figure (choice n able figure)

abbrev pub ChoiceOnly : Type 0
ChoiceOnly = (n : ℕ) (able : ℕ → Bool) (figure : ℕ → ℕ) (ch : Choice) → Right n able figure ch
    → ch ≡ choice n able figure
