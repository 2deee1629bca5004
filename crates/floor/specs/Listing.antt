-- Document 01's listing under demand 3: a day of several plays and prices on which no campaign falls short, so that an
-- allotment's takings are covered whole.
use Rattle.std.specs.Prelude.{◌≡◌, [], ◌∷◌, map, ℕ, get_or}
use Rattle.allotments.specs.Allotment.{nobody}
use Rattle.day.specs.Day.{blank}
use Rattle.demands.specs.Transcript.{transcript}
use Rattle.demands.specs.Cases.{calls_made, listing}
use Rattle.floor.specs.History.{Starts, History, day_takings, history}
use Rattle.floor.specs.Floor.{price_of, whole_of, named_in, NoneShort, Allotted, takings_of, Covered}

-- its day
abbrev pub listing_day : History
listing_day = history (transcript blank (calls_made listing))

-- an allotment gives the five accepted views {0, 1}, {0, 1}, {0, 1}, {0} and {1} to 0, 0, 1, nobody and 1
abbrev pub listing_to : ℕ → ℕ
listing_to j = get_or (0 ∷ 0 ∷ 1 ∷ nobody ∷ 1 ∷ []) j nobody

-- each campaign was named 4 times, depth 2 × its 2 whole plays, so that none falls short; the allotment takes 16 cents,
-- as the day did
pub record NamedEnough (h : History) : Type 0 where
  pub named : map (named_in h) (0 ∷ 1 ∷ []) ≡ 4 ∷ 4 ∷ []
  pub plays : map (whole_of h) (0 ∷ 1 ∷ []) ≡ 2 ∷ 2 ∷ []
  pub none_short : NoneShort h
  pub allotted : Allotted h listing_to
  pub takes : takings_of h (price_of h) listing_to ≡ 16
  pub took : day_takings h ≡ 16

-- so demand 3 says that 3 × 16 ≤ 4 × 16
pub record ListingCovered : Type 0 where
  pub starts : Starts blank (calls_made listing)
  pub enough : NamedEnough listing_day
  pub covered : Covered listing_day 16
