-- What comes out of the search is greatest: no allotment takes more, and its takings are the most that the views bring.
use mathlib.Core.Path.{◌≡◌}
use mathlib.Core.List.{List}
use Prim.Native.Nat.{ℕ, ◌≤◌}
use lib.ListN.{length}
use Rattle.allotments.specs.Allotment.{at, takings, Greatest}
use Rattle.allotments.specs.Most.{most}
use Rattle.allotments.proofs.Duality.{test_certified, test_greatest}
use Rattle.allotments.proofs.Most.{certified_most}
use Rattle.matching.specs.Cited.{BestIs}

module _ (n : ℕ) (prices wholes views to to' us us' vs vs' : List ℕ) (few : n ≤ 64) (b : BestIs n prices wholes views
    to to' us us' vs vs') where
  pub best_greatest : Greatest n (at prices) (at wholes) (length views) (at views) (at to')
  best_greatest = test_greatest n (at prices) (at wholes) (length views) (at views) (at to') (at us') (at vs') few
      b.accepted

  pub best_most : takings n (at prices) (length views) (at to') ≡ most n (at prices) (at wholes) (length views)
      (at views)
  best_most = certified_most n (at prices) (at views) few (at wholes) (length views) (at to') (at us') (at vs')
      (test_certified n (at prices) (at wholes) (length views) (at views) (at to') (at us') (at vs') b.accepted)
