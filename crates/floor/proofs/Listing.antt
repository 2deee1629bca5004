-- Document 01's listing under demand 3: its exchanges are known, its day is read off them, and the theorem covers the
-- allotment.
use mathlib.Core.Path.{refl, subst, subst⁻¹}
use mathlib.Core.Bool.{not}
use mathlib.Core.List.{List}
use Prim.Native.Nat.{ℕ}
use borrow.Author.Tests.{not-true}
use Rattle.finite.specs.Finite.{sum, count, every, total}
use Rattle.finite.proofs.Tests.{every_at}
use Rattle.sets.specs.Set.{member, collect, without}
use Rattle.allotments.specs.Allotment.{times, takings}
use Rattle.day.specs.Day.{blank}
use Rattle.demands.specs.Transcript.{Exchange}
use Rattle.demands.specs.Cases.{calls_made, listing}
use Rattle.demands.proofs.Cases.{listing_runs}
use Rattle.floor.specs.History.{Starts, continued, history}
use Rattle.floor.specs.History.Starts.{from_blank}
use Rattle.floor.specs.Floor.{falls_short, Covered}
use Rattle.floor.specs.Listing.{listing_day, listing_to, NamedEnough, ListingCovered}
use Rattle.floor.proofs.Tight.{allotted_of}
use Rattle.floor.proofs.Floor.{demand_3}

read : NamedEnough (history listing)
unfolding continued sum count every total member collect without times takings
read = record {
  named = refl;
  plays = refl;
  none_short =
      λ i l.
      not-true (falls_short (history listing) i) (every_at 2 (λ j. not (falls_short (history listing) j)) refl i l);
  allotted = allotted_of (history listing) listing_to refl refl;
  takes = refl;
  took = refl;
}

pub listing_covered : ListingCovered
listing_covered =
    let enough : NamedEnough listing_day =
    subst⁻¹ (λ (xs : List Exchange). NamedEnough (history xs)) listing_runs read in
    let starts : Starts blank (calls_made listing) = from_blank (calls_made listing) in
    record {
      starts = starts;
      enough = enough;
      covered =
          subst (λ (x : ℕ). Covered listing_day x) enough.takes
          ((demand_3 blank (calls_made listing) starts).floor enough.none_short listing_to enough.allotted);
    }
