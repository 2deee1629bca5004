-- Demand 3: the claim bounds what an allotment takes once the campaigns that fall short are struck out, and full covers
-- the claim.
use mathlib.Core.Path.{◌≡◌, ◌∙◌, subst}
use mathlib.Core.Bool.{true}
use mathlib.Core.List.{List}
use Prim.Native.Nat.{ℕ, ◌*◌, ◌≤◌}
use native.Mathlib.Nat.{le_trans}
use lib.ListN.{length}
use borrow.Author.Tests.{eqb-true}
use Rattle.finite.proofs.Meanings.{ltb_means}
use Rattle.powers.specs.Power.{share}
use Rattle.allotments.proofs.Takings.{takings_eq}
use Rattle.campaigns.specs.declared.Phase.{Phase}
use Rattle.campaigns.specs.declared.Plan.{Plan}
use Rattle.campaigns.specs.Phase.{phase_holds}
use Rattle.campaigns.specs.View.{full}
use Rattle.day.specs.declared.Day.{Day}
use Rattle.day.specs.Day.{total_takings, sound}
use Rattle.day.specs.Calls.{Call}
use Rattle.day.proofs.State.{sound_facts}
use Rattle.demands.specs.Transcript.{transcript, final}
use Rattle.floor.specs.History.{Starts, History, day_takings, history}
use Rattle.floor.specs.Floor.{price_of, whole_of, named_in, ShortMeans, unstruck, Allotted, takings_of}
use Rattle.floor.specs.Floor.{Covered, Floor, Demand3}
use Rattle.floor.proofs.Reach.{Reached, reached}
use Rattle.floor.proofs.Noon.{noon_of}

pub short_means : ShortMeans
short_means h i = ltb_means (named_in h i) (h.plan.depth * whole_of h i)

module _ (s : Day) (h : History) (r : Reached s h) where
  -- what an allotment takes of the campaigns that do not fall short is within the claim, and the claim within full
  covers : (to : ℕ → ℕ) → Allotted h to → Covered h (takings_of h (unstruck h) to)
  covers to al =
      let n = noon_of s h r in
      subst (λ (pl : Plan). share pl.depth pl.width * takings_of h (unstruck h) to ≤ full pl (day_takings h))
      n.plan_is
      (subst (λ (t : ℕ). share s.plan.depth s.plan.width * takings_of h (unstruck h) to ≤ full s.plan t)
      n.takings_is (le_trans (n.claim_bounds to al) n.claim_below))

  pub floor_of : Floor h s
  floor_of = record {
    floor =
        λ none to al.
        subst (λ (x : ℕ). Covered h x)
        (takings_eq (length h.terms) (unstruck h) (price_of h) (length h.views) to (λ i l. rw (none i l)))
        (covers to al);
    struck = covers;
    takings_is = r.tracks.paid_is;
    closed_is =
        λ x e.
        eqb-true x (total_takings s)
        (subst (λ (q : Phase). phase_holds q s.accepted (total_takings s) ≡ true) e
        (sound_facts s r.is_sound).phased)
        ∙ r.tracks.paid_is;
  }

pub demand_3 : Demand3
demand_3 s cs st = floor_of (final s cs) (history (transcript s cs)) (reached s cs st)

-- the state at the end of a list is sound, so that no later call is refused with 1
pub always_sound : (s : Day) (cs : List Call) → Starts s cs → sound (final s cs) ≡ true
always_sound s cs st = (reached s cs st).is_sound
