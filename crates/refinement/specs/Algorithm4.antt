-- Algorithm 4 of document 000, "Equal-Bid Ad Allocation in (k, d)-graphs", line by line, with C as in its Theorem 5.1.
-- The quoted lines are the document's, and so are the names of the variables.
use Rattle.std.specs.Prelude.{Bool, cond, not, ◌&&◌, List, [], ◌∷◌, ℕ, suc, ◌-◌, ◌*◌, leb, eqb}
use Rattle.finite.specs.Finite.{sum}
use Rattle.campaigns.specs.Choice.{Choice, best}
use Rattle.campaigns.specs.Choice.Choice.{nobody, plays}
use Rattle.refinement.specs.Fraction.{Fraction, ◌÷◌, integer, ◌⊕◌, ◌⊖◌, ◌⊗◌, power, inverse, less, equal, lesser}

-- What is given up-front: the k and d of a (k, d)-graph, and the advertisers i ∈ L, numbered below n, each with a bid
-- b_i, "the same value for all neighboring ad slots", and a budget B_i.
pub record Instance : Type 0 where
  pub k : ℕ
  pub d : ℕ
  pub n : ℕ
  pub b : ℕ → ℕ
  pub B : ℕ → ℕ

-- An ad slot j ∈ R arrives with its edges: i ∈ N(j).
abbrev pub Neighbors : Type 0
Neighbors = ℕ → Bool

-- z_i, z_i^c, and x_{i,j}, which is 0 until it is set
pub record Variables : Type 0 where
  pub z : ℕ → Fraction
  pub zᶜ : ℕ → Fraction
  pub x : ℕ → ℕ → ℕ

-- "Theorem 5.1. Algorithm 4 with C = 1/((d/(d−1))^k − 1)"
unfoldable pub C : Instance → Fraction
C I = inverse (power (I.d ÷ (I.d - 1)) I.k ⊖ integer 1)

-- b_i/B_i, what one copy contributes of i's budget
abbrev pub part : Instance → ℕ → Fraction
part I i = I.b i ÷ I.B i

-- "feasible advertisers, whose residual budget is sufficient to pay their actual bid": the residual budget is B_i less
-- b_i · x_{i,j} over the slots up to j
unfoldable pub feasible : Instance → Variables → (j : ℕ) → ℕ → Bool
feasible I v j i = leb (I.b i) (I.B i - sum (suc j) (λ j'. I.b i * v.x i j'))

-- a feasible neighbor of j
abbrev pub feasible_neighbor : Instance → Variables → (j : ℕ) → Neighbors → ℕ → Bool
feasible_neighbor I v j N i = N i && feasible I v j i

-- "z_i^c · B_i + C · b_i"
abbrev pub quantity : Instance → Variables → ℕ → Fraction
quantity I v i = v.zᶜ i ⊗ integer (I.B i) ⊕ C I ⊗ integer (I.b i)

-- "1: Init: set z_i ← 0, z_i^c ← 0 for all i ∈ L"
abbrev pub line_1 : Variables
line_1 = record { z = λ i. integer 0; zᶜ = λ i. integer 0; x = λ i j. 0 }

-- i displaces m: its quantity is greater, so that equal quantities go to the lower number (document 01)
abbrev pub displaces : Instance → Variables → (m i : ℕ) → Bool
displaces I v m i = less (quantity I v m) (quantity I v i)

-- "4: match j to feasible neighbor i maximizing z_i^c · B_i + C · b_i.": of those, tried in turn, the one that no later
-- one displaces
unfoldable pub line_4 : Instance → (j : ℕ) → Neighbors → Variables → Choice
line_4 I j N v = best I.n (feasible_neighbor I v j N) (displaces I v)

-- "5: set x_{i,j} ← 1."
abbrev pub line_5 : (j i : ℕ) → Variables → Variables
line_5 j i v = record { z = v.z; zᶜ = v.zᶜ; x = λ i' j'. cond (eqb i' i && eqb j' j) 1 (v.x i' j') }

-- "6: set z_i^c ← b_i/B_i."
abbrev pub line_6 : Instance → (i : ℕ) → Variables → Variables
line_6 I i v = record { z = v.z; zᶜ = λ i'. cond (eqb i' i) (part I i) (v.zᶜ i'); x = v.x }

-- "z_{i'}^c · (d/(d−1)) + 1/(d−1) · C · b_{i'}/B_{i'}", from a value z of z_{i'}^c
abbrev pub grown : Instance → ℕ → Fraction → Fraction
grown I i' z = z ⊗ (I.d ÷ (I.d - 1)) ⊕ 1 ÷ (I.d - 1) ⊗ C I ⊗ part I i'

-- "8: set z_{i'}^c ← min{b_{i'}/B_{i'}, z_{i'}^c · (d/(d−1)) + 1/(d−1) · C · b_{i'}/B_{i'}}"
abbrev pub line_8 : Instance → Variables → ℕ → Fraction
line_8 I v i' = lesser (part I i') (grown I i' (v.zᶜ i'))

-- "7: for all feasible neighbor of j, i' ≠ i do" line 8
abbrev pub line_7 : Instance → (j : ℕ) → Neighbors → (i : ℕ) → Variables → Variables
line_7 I j N i v = record {
  z = v.z;
  zᶜ = λ i'. cond (feasible_neighbor I v j N i' && not (eqb i' i)) (line_8 I v i')
      (v.zᶜ i');
  x = v.x;
}

-- "3: if j has a feasible neighbor i then" lines 4 to 8: line 4 has matched one, or there is none
abbrev pub line_3 : Instance → (j : ℕ) → Neighbors → Choice → Variables → Variables
line_3 I j N nobody v = v
line_3 I j N (plays i) v = line_7 I j N i (line_6 I i (line_5 j i v))

-- "9: for all i' ∈ N(j) with z_{i'}^c = b_{i'}/B_{i'} do" lines 10 and 11
abbrev pub line_9 : Instance → Neighbors → Variables → ℕ → Bool
line_9 I N v i' = N i' && equal (v.zᶜ i') (part I i')

-- "10: set z_{i'} ← z_{i'} + z_{i'}^c."
abbrev pub line_10 : Variables → ℕ → Fraction
line_10 v i' = v.z i' ⊕ v.zᶜ i'

-- "11: set z_{i'}^c ← 0."
abbrev pub line_11 : Fraction
line_11 = integer 0

abbrev pub lines_9_to_11 : Instance → Neighbors → Variables → Variables
lines_9_to_11 I N v = record {
  z = λ i'. cond (line_9 I N v i') (line_10 v i') (v.z i');
  zᶜ = λ i'. cond (line_9 I N v i') line_11 (v.zᶜ i');
  x = v.x;
}

-- what is done for one ad slot j
unfoldable pub lines_3_to_11 : Instance → (j : ℕ) → Neighbors → Variables → Variables
lines_3_to_11 I j N v = lines_9_to_11 I N (line_3 I j N (line_4 I j N v) v)

-- "2: for all j ∈ R do": the variables after the slots that arrive from j on, and the matches made
unfoldable pub line_2 : Instance → (j : ℕ) → List Neighbors → Variables → Variables
line_2 I j [] v = v
line_2 I j (N ∷ Ns) v = line_2 I (suc j) Ns (lines_3_to_11 I j N v)

unfoldable pub matches_from : Instance → (j : ℕ) → List Neighbors → Variables → List Choice
matches_from I j [] v = []
matches_from I j (N ∷ Ns) v = line_4 I j N v ∷ matches_from I (suc j) Ns (lines_3_to_11 I j N v)

-- the whole algorithm: the variables at its end, and whom it matched to each slot
abbrev pub algorithm_4 : Instance → List Neighbors → Variables
algorithm_4 I R = line_2 I 0 R line_1

abbrev pub matches : Instance → List Neighbors → List Choice
matches I R = matches_from I 0 R line_1
