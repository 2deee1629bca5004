-- The proviso of demand 3 is needed: of its day campaign 0 was named often enough, and campaign 1 falls short.
use mathlib.Core.Path.{◌≡◌, refl, subst⁻¹}
use mathlib.Core.Bool.{false}
use Rattle.finite.specs.Finite.{total}
use Rattle.sets.specs.Set.{member}
use Rattle.floor.specs.History.{History}
use Rattle.floor.specs.History.Starts.{from_blank}
use Rattle.floor.specs.Floor.{falls_short}
use Rattle.floor.specs.Short.{short_calls, ProvisoNeeded}
use Rattle.floor.proofs.TwoViews.{day, days_are, Struck, struck}

enough : falls_short (day 0) 0 ≡ false
unfolding day total member
enough = refl

pub proviso_needed : ProvisoNeeded
proviso_needed =
    let c = subst⁻¹ Struck days_are.0 (struck 0) in
    record {
      starts = from_blank short_calls;
      allotted = c.allotted;
      enough = subst⁻¹ (λ (h : History). falls_short h 0 ≡ false) days_are.0 enough;
      short = c.short;
      not_covered = c.not_covered;
      covered = c.covered;
    }
