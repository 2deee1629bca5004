-- The floor at noon: the turns of each campaign reach what is due to it, a claim is at least the share of its turns,
-- and the total claim is at most full; so full is at least the share of what is due, at every moment that calls reach,
-- and the claim at least the share of what an allotment takes.
use mathlib.Core.Path.{◌≡◌, refl, ap, sym, ◌∙◌, subst, subst⁻¹}
use mathlib.Core.List.{List, [], ◌∷◌, ◌++◌}
use mathlib.Core.Logic.{◌⊎◌, inl, inr}
use Prim.Native.Nat.{ℕ, ◌*◌, ◌≤◌, ◌<◌}
use native.Mathlib.Nat.{le_trans, mul-le-mul_left, not-suc-le-zero}
use native.Mathlib.Omega.{arith}
use lib.ListN.{length}
use Rattle.finite.specs.Finite.{sum}
use Rattle.finite.proofs.Sums.{sum_le, sum_eq, sum_mul}
use Rattle.powers.specs.Power.{share}
use Rattle.campaigns.specs.declared.Plan.{Plan}
use Rattle.campaigns.proofs.Laws.{Sized, plan_sized}
use Rattle.day.specs.declared.Day.{Day}
use Rattle.day.specs.Day.{campaign, blank, total_claim}
use Rattle.day.specs.Calls.{Call}
use Rattle.day.specs.Calls.Call.{open_plan}
use Rattle.day.proofs.State.{Sound, sound_facts, held_at}
use Rattle.noon.specs.Noon.{due, total_due, floor_figure}
use Rattle.noon.proofs.Dues.{noon_sound}
use Rattle.demands.specs.Transcript.{transcript, final}
use Rattle.demands.proofs.Laws.{claim_of, claim_turns}
use Rattle.floor.specs.History.{Starts, History, history}
use Rattle.floor.specs.History.Starts.{from_blank, from_opening}
use Rattle.floor.specs.Floor.{price_of, unstruck, Allotted, takings_of}
use Rattle.floor.specs.Noon.{due_of, day_due, NoonFloor, AtEveryMoment}
use Rattle.floor.proofs.Follows.{turns_reach}
use Rattle.floor.proofs.Reach.{Reached, reached, whole_is}
use Rattle.floor.proofs.Due.{due_enough}

module _ (s : Day) (h : History) (r : Reached s h) where
  p : Sound s
  p = sound_facts s r.is_sound

  sized : Sized s.plan
  sized = plan_sized s.plan p.plan_sound

  -- d^k − (d−1)^k
  part : ℕ
  part = share s.plan.depth s.plan.width

  turns_enough : (i : ℕ) → i < s.count → due s.plan.depth (campaign s i) ≤ (campaign s i).turns
  turns_enough i l =
      turns_reach s.plan s.accepted (campaign s i) (held_at s p i l) (r.tracks.follows i l).turning

  claim_due : (i : ℕ) → i < s.count
      → part * ((campaign s i).price * due s.plan.depth (campaign s i)) ≤ claim_of s.plan (campaign s i)
  unfolding part
  claim_due i l =
      le_trans (mul-le-mul_left part (mul-le-mul_left (campaign s i).price (turns_enough i l)))
      (claim_turns s.plan sized (campaign s i) (held_at s p i l).young)

  claim_above : floor_figure s ≤ total_claim s
  unfolding part total_due total_claim
  claim_above =
      let term : ℕ → ℕ = λ i. (campaign s i).price * due s.plan.depth (campaign s i) in
      omega (
        arith,
        sum_mul s.count part term,
        sum_le s.count (λ i. part * term i) (λ i. claim_of s.plan (campaign s i)) claim_due,
      )

  -- the record's figures are the day's
  due_same : (i : ℕ) → i < s.count
      → (campaign s i).price * due s.plan.depth (campaign s i) ≡ price_of h i * due_of h i
  unfolding due
  due_same i l =
      let f = r.tracks.follows i l in
      cc (f.price_is, whole_is s h r i l, f.named_is, r.tracks.plan_is)

  due_is : total_due s ≡ day_due h
  unfolding total_due
  due_is =
      sum_eq s.count (λ i. (campaign s i).price * due s.plan.depth (campaign s i))
      (λ i. price_of h i * due_of h i) due_same
      ∙ ap (λ (n : ℕ). sum n (λ i. price_of h i * due_of h i)) (sym r.tracks.many)

  claim_bounds : (to : ℕ → ℕ) → Allotted h to → part * takings_of h (unstruck h) to ≤ total_claim s
  unfolding part
  claim_bounds to al =
      let deep : 0 < h.plan.depth = subst (λ (pl : Plan). 0 < pl.depth) r.tracks.plan_is sized.deep in
      let enough : takings_of h (unstruck h) to ≤ total_due s =
      subst⁻¹ (λ (x : ℕ). takings_of h (unstruck h) to ≤ x) due_is (due_enough h deep to al) in
      le_trans (mul-le-mul_left part enough) claim_above

  pub noon_of : NoonFloor h s
  unfolding part
  noon_of = record {
    floor_now = le_trans claim_above p.covered;
    claim_above = claim_above;
    claim_below = p.covered;
    claim_bounds = claim_bounds;
    plan_is = r.tracks.plan_is;
    count_is = sym r.tracks.many;
    price_is = λ i l. (r.tracks.follows i l).price_is;
    whole_is = whole_is s h r;
    named_is = λ i l. (r.tracks.follows i l).named_is;
    accepted_is = r.tracks.accepted_is;
    takings_is = r.tracks.paid_is;
    paused_is = r.tracks.paused_is;
    due_is = due_is;
    turns_enough = turns_enough;
    answered = noon_sound s r.is_sound;
  }

-- at the end of every list
pub noon_at_end : (s : Day) (cs : List Call) → Starts s cs → NoonFloor (history (transcript s cs)) (final s cs)
noon_at_end s cs st = noon_of (final s cs) (history (transcript s cs)) (reached s cs st)

-- a list is begun as each list is that begins with the same call
begun : (s : Day) (xs : List Call) → Starts s xs → (c : Call) (cs ds : List Call) → xs ≡ c ∷ cs → Starts s (c ∷ ds)
begun _ _ (from_blank xs) c cs ds e = from_blank (c ∷ ds)
begun _ _ (from_opening s pl xs a) c cs ds e =
    let same : open_plan pl ≡ c = cc in subst (λ (k : Call). Starts s (k ∷ ds)) same (from_opening s pl ds a)

front : (s : Day) (before after : List Call) → Starts s (before ++ after) → (s ≡ blank) ⊎ (0 < length before)
    → Starts s before
front s [] after st (inl e) = subst⁻¹ (λ (x : Day). Starts x []) e (from_blank [])
front s [] after st (inr l) = absurd (not-suc-le-zero l)
front s (c ∷ cs) after st e = begun s (c ∷ (cs ++ after)) st c (cs ++ after) cs refl

pub at_every_moment : AtEveryMoment
at_every_moment s before after st e = noon_at_end s before (front s before after st e)
