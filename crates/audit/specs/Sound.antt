-- Soundness: the tests of its sentence in document 01, of a state's head and its entries (f i is entry i); and the
-- audit, which also gives the figures of a sound state.
use Rattle.std.specs.Prelude.{Bool, cond, not, ◌&&◌, ◌||◌, List, [], ◌∷◌, ℕ, leb, ltb, eqb}
use Rattle.std.specs.Prelude.{Option, Some, None}
use Rattle.finite.specs.Finite.{all, every}
use Rattle.sets.specs.Set.{within}
use Rattle.campaigns.specs.declared.Campaign.{Campaign}
use Rattle.campaigns.specs.declared.Head.{Head}
use Rattle.campaigns.specs.Limits.{max_campaigns, max_budget, max_views}
use Rattle.campaigns.specs.Phase.{is_filling, phase_holds}
use Rattle.campaigns.specs.Campaign.{sound_plan, empty, sound_campaign}
use Rattle.campaigns.specs.View.{budgets, takings, claims, full}
use Rattle.audit.specs.declared.Audit.{Audit}

-- an entry of the record: a sound campaign, or past the last all zero
abbrev pub sound_entry : Head → (ℕ → Campaign) → ℕ → Bool
sound_entry h f i = cond (ltb i h.count) (sound_campaign h.phase h.plan h.accepted (f i)) (empty (f i))

-- the paused marks of document 02: none past the last campaign, and in Filling none at all
abbrev pub marks_hold : Head → Bool
marks_hold h = within h.count h.paused && (eqb h.paused 0 || not (is_filling h.phase))

abbrev pub sound_tests : Head → (ℕ → Campaign) → List Bool
sound_tests h f =
    sound_plan h.plan ∷ leb h.count max_campaigns ∷ leb h.accepted max_views ∷ marks_hold h ∷
    every max_campaigns (sound_entry h f) ∷ leb (budgets h.count f) max_budget ∷
    phase_holds h.phase h.accepted (takings h.plan h.count f) ∷
    leb (claims h.plan h.count f) (full h.plan (takings h.plan h.count f)) ∷ []

unfoldable pub sound_record : Head → (ℕ → Campaign) → Bool
sound_record h f = all (sound_tests h f)

-- an audit that fails
abbrev pub not_sound : Option Audit
not_sound = None

-- one that passes: the sum of the budgets, the takings, the total claim and full
abbrev pub sound_figures : Head → (ℕ → Campaign) → Audit
sound_figures h f = record {
  budgets = budgets h.count f;
  takings = takings h.plan h.count f;
  claim = claims h.plan h.count f;
  full = full h.plan (takings h.plan h.count f);
}

unfoldable pub audit_of : Head → (ℕ → Campaign) → Option Audit
audit_of h f = cond (sound_record h f) (Some (sound_figures h f)) not_sound
