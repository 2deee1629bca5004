-- One view of any sound state beside one slot of Algorithm 4: from variables that represent the state, whoever made it,
-- the slot is matched as the view is answered, and the variables after it represent the state after it.
use Rattle.std.specs.Prelude.{◌≡◌, true, [], ◌∷◌, ℕ, suc, ◌≤◌, ◌<◌, ltb, get_or}
use Rattle.finite.specs.Finite.{one_if}
use Rattle.campaigns.specs.declared.Phase.TheVariants.{Running}
use Rattle.campaigns.specs.declared.Terms.{Terms}
use Rattle.campaigns.specs.declared.View.{View}
use Rattle.campaigns.specs.Choice.Choice.{plays}
use Rattle.campaigns.specs.Campaign.{whole_plays, whole, fresh}
use Rattle.campaigns.specs.View.{names}
use Rattle.day.specs.declared.Answer.TheVariants.{Played}
use Rattle.day.specs.declared.Day.{Day}
use Rattle.day.specs.Day.{campaign, state_with, no_terms, sound}
use Rattle.day.specs.Calls.{found, view_answer, call}
use Rattle.day.specs.Calls.Call.{show_view}
use Rattle.floor.specs.History.{accepted}
use Rattle.floor.specs.Paused.{both}
use Rattle.refinement.specs.Fraction.{integer, ◌⊗◌}
use Rattle.refinement.specs.Algorithm4.{Instance, Variables, part, line_4, lines_3_to_11}
use Rattle.refinement.specs.Correspondence.{BuysAlike, instance, copy, Represents}

-- the instance I and its variables v before slot j represent the state s: k, d, n and the bids are its own, each B_i
-- buys its whole plays, the counts of each campaign represent the variables, and no slot from j on is matched
pub record RepresentsState (I : Instance) (j : ℕ) (v : Variables) (s : Day) : Type 0 where
  pub depth_is : I.k ≡ s.plan.depth
  pub width_is : I.d ≡ s.plan.width
  pub count_is : I.n ≡ s.count
  pub bid_is : (i : ℕ) → i < s.count → I.b i ≡ (campaign s i).price
  pub copies_are : (i : ℕ) → i < s.count → whole_plays (I.b i) (I.B i) ≡ whole (campaign s i)
  pub counts_are : (i : ℕ) → i < s.count → Represents I j v i (campaign s i)
  pub unmatched : (i j' : ℕ) → i < s.count → j ≤ j' → v.x i j' ≡ 0

-- every sound state, and every view that it accepts; the neighbours are what the view found
abbrev pub OneSlot : Type 0
OneSlot =
    (s : Day) → sound s ≡ true → (I : Instance) (j : ℕ) (v : Variables) → RepresentsState I j v s → (w : View)
    → accepted (call s (show_view w)).answer ≡ true
    → ((call s (show_view w)).answer ≡ view_answer I.b (line_4 I j (names (found s w)) v))
    × RepresentsState I (suc j) (lines_3_to_11 I j (names (found s w)) v) (call s (show_view w)).day

-- There are such variables for every such state: z_i is the turns' part, z_i^c what a copy of that age has, and the
-- plays stand at the first slots.
abbrev pub terms_at : Day → ℕ → Terms
terms_at s i = record { price = (campaign s i).price; budget = (campaign s i).budget }

abbrev pub instance_at : (Terms → ℕ) → Day → Instance
instance_at B s = instance B s.plan s.count (terms_at s)

abbrev pub variables_at : Instance → Day → Variables
variables_at I s = record {
  z = λ i. integer (campaign s i).turns ⊗ part I i;
  zᶜ = λ i. copy I i (campaign s i).age;
  x = λ i j. one_if (ltb j (campaign s i).plays);
}

abbrev pub Represented : Type 0
Represented =
    (B : Terms → ℕ) → BuysAlike B → (s : Day) → sound s ≡ true
    → RepresentsState (instance_at B s) s.accepted (variables_at (instance_at B s) s) s

-- A sound state that no list of calls reaches (campaign 0 can pay, and was named more often than depth × turns + age);
-- a view names both its campaigns, of scores 5 and 6.
abbrev pub made_up : Day
made_up = state_with
    (record { phase = Running; plan = record { depth = 2; width = 2 }; count = 2; accepted = 5; paused = 0 })
    (λ i. get_or (record { price = 5; budget = 10; plays = 1; turns = 1; age = 0; named = 3 } ∷
    record { price = 3; budget = 6; plays = 0; turns = 0; age = 1; named = 1 } ∷ []) i (fresh no_terms))

-- the paper's instance for it
abbrev pub made_up_instance : Instance
made_up_instance = instance_at (λ t. t.budget) made_up

-- both sides of the theorem, computed
pub record MadeUp : Type 0 where
  pub is_sound : sound made_up ≡ true
  pub answered : (call made_up (show_view both)).answer ≡ Played 1 3
  pub matched : line_4 made_up_instance 5 (names (found made_up both)) (variables_at made_up_instance made_up)
      ≡ plays 1
  pub after : RepresentsState made_up_instance 6
      (lines_3_to_11 made_up_instance 5 (names (found made_up both)) (variables_at made_up_instance made_up))
      (call made_up (show_view both)).day
