-- What a walk over the named campaigns stores: those below its place are marked as passed over, the others are as they
-- were; then the play corrects one mark. A store touches one place of each column (`left`), so that it changes one
-- campaign (`put_counts`).
use Rattle.std.specs.Prelude.{Some}
use mathlib.Core.Path.{◌≡◌, refl, ap, sym, ◌∙◌}
use mathlib.Core.Bool.{Bool, true, false, cond}
use mathlib.Core.List.{List}
use Prim.Native.Nat.{ℕ, ◌+◌, ◌≤◌, ◌<◌}
use native.Mathlib.Omega.{arith}
use lib.Dec.{ltb, eqb}
use lib.ListN.{length, set, get_or, length-set}
use lib.Seq.{get_or-set_same, get_or-set_other}
use borrow.Author.Tests.{lt-ltb, le-ltb, ltb-true, ltb-false, eqb-true, eqb-false}
use Rattle.sets.specs.Walk.{Next}
use Rattle.campaigns.specs.declared.Campaign.{Campaign}
use Rattle.campaigns.specs.declared.Plan.{Plan}
use Rattle.campaigns.specs.declared.View.{View}
use Rattle.choice.specs.declared.Candidate.{Candidate}
use Rattle.campaigns.specs.Choice.{Role, role_of}
use Rattle.campaigns.specs.Choice.Role.{absent, spent, chosen, passed}
use Rattle.campaigns.specs.Campaign.{aged, campaign_at}
use Rattle.campaigns.specs.View.{names, pays, becomes}
use Rattle.campaigns.specs.Cited.{Sized, played}
use Rattle.campaigns.proofs.Laws.{played_passed}
use Rattle.choice.specs.Candidates.{no_candidate, after_view}
use Rattle.choice.specs.Cited.{put, Counts}

-- a view leaves price and budget, and adds at most 1 to each count
pub record Grown (c v : Campaign) : Type 0 where
  pub price_same : v.price ≡ c.price
  pub budget_same : v.budget ≡ c.budget
  pub plays_grown : v.plays ≤ c.plays + 1
  pub turns_grown : v.turns ≤ c.turns + 1
  pub age_grown : v.age ≤ c.age + 1
  pub named_grown : v.named ≤ c.named + 1

-- from the counts alone
grown : (c : Campaign) (p t a n : ℕ) → p ≤ c.plays + 1 → t ≤ c.turns + 1 → a ≤ c.age + 1 → n ≤ c.named + 1
    → Grown c (record { price = c.price; budget = c.budget; plays = p; turns = t; age = a; named = n })
grown c p t a n hp ht ha hn = record {
  price_same = refl;
  budget_same = refl;
  plays_grown = hp;
  turns_grown = ht;
  age_grown = ha;
  named_grown = hn;
}

pub becomes_grown : (pl : Plan) (w : View) (i : ℕ) (r : Role) (c : Campaign) → Grown c (becomes pl w i r c)
becomes_grown pl w i absent c =
    grown c c.plays c.turns c.age c.named (omega arith) (omega arith) (omega arith) (omega arith)
becomes_grown pl w i spent c =
    grown c c.plays c.turns c.age (c.named + 1) (omega arith) (omega arith) (omega arith) (omega arith)
becomes_grown pl w i chosen c =
    grown c (c.plays + 1) (c.turns + 1) 0 (c.named + 1) (omega arith) (omega arith) (omega arith) (omega arith)
becomes_grown pl w i passed c = go (eqb (c.age + 1) pl.depth)
  where
    go : (b : Bool) → Grown c (aged b c)
    go true =
        grown c c.plays (c.turns + 1) 0 (c.named + 1) (omega arith) (omega arith) (omega arith) (omega arith)
    go false =
        grown c c.plays c.turns (c.age + 1) (c.named + 1)
        (omega arith) (omega arith) (omega arith) (omega arith)

pub played_grown : (c : Campaign) → Grown c (played c)
played_grown c =
    grown c (c.plays + 1) (cond (eqb c.age 0) c.turns (c.turns + 1)) 0 c.named (omega arith)
    (go (eqb c.age 0)) (omega arith) (omega arith)
  where
    go : (b : Bool) → cond b c.turns (c.turns + 1) ≤ c.turns + 1
    go true = omega arith
    go false = omega arith

-- an array that holds the counts of g holds those of campaigns that are the same
pub same_counts : {g h : ℕ → Campaign} {t n : List ℕ} → ((j : ℕ) → j < 64 → g j ≡ h j) → Counts g t n → Counts h t n
same_counts e m = record { room = m.room; at = λ j l. m.at j l ∙ e j l }

-- a store of campaign v's counts at i
module _ (n : List ℕ) (i : ℕ) (v : Campaign) where
  abbrev one : List ℕ
  one = set n i v.plays

  abbrev two : List ℕ
  two = set one (i + 64) v.turns

  abbrev three : List ℕ
  three = set two (i + 128) v.age

  -- leaves every other place
  left : (q : ℕ) → (q ≡ i → ⊥) → (q ≡ i + 64 → ⊥) → (q ≡ i + 128 → ⊥) → (q ≡ i + 192 → ⊥)
      → get_or (put n i v) q 0 ≡ get_or n q 0
  left q a b c d =
      get_or-set_other three (i + 192) q v.named 0 d ∙ get_or-set_other two (i + 128) q v.age 0 c
      ∙ get_or-set_other one (i + 64) q v.turns 0 b ∙ get_or-set_other n i q v.plays 0 a

  module _ (t : List ℕ) (h : i < 64) where
    -- so that it leaves the other campaigns
    pub put_other : (j : ℕ) → j < 64 → (j ≡ i → ⊥) → campaign_at t (put n i v) j ≡ campaign_at t n j
    put_other j l x =
        rw (
          left j (λ e. omega arith) (λ e. omega arith) (λ e. omega arith) (λ e. omega arith),
          left (j + 64) (λ e. omega arith) (λ e. omega (arith, x)) (λ e. omega arith) (λ e. omega arith),
          left (j + 128) (λ e. omega arith) (λ e. omega arith) (λ e. omega (arith, x)) (λ e. omega arith),
          left (j + 192) (λ e. omega arith) (λ e. omega arith) (λ e. omega arith) (λ e. omega (arith, x)),
        )

    -- the columns of campaign i, each past those that are stored after it
    module _ (e : length n ≡ 256) where
      named_here : get_or (put n i v) (i + 192) 0 ≡ v.named
      named_here = get_or-set_same three (i + 192) v.named 0 (simp length-set (omega arith))

      age_here : get_or (put n i v) (i + 128) 0 ≡ v.age
      age_here =
          get_or-set_other three (i + 192) (i + 128) v.named 0 (λ e. omega arith)
          ∙ get_or-set_same two (i + 128) v.age 0 (simp length-set (omega arith))

      turns_here : get_or (put n i v) (i + 64) 0 ≡ v.turns
      turns_here =
          get_or-set_other three (i + 192) (i + 64) v.named 0 (λ e. omega arith)
          ∙ get_or-set_other two (i + 128) (i + 64) v.age 0 (λ e. omega arith)
          ∙ get_or-set_same one (i + 64) v.turns 0 (simp length-set (omega arith))

      plays_here : get_or (put n i v) i 0 ≡ v.plays
      plays_here =
          get_or-set_other three (i + 192) i v.named 0 (λ e. omega arith)
          ∙ get_or-set_other two (i + 128) i v.age 0 (λ e. omega arith)
          ∙ get_or-set_other one (i + 64) i v.turns 0 (λ e. omega arith)
          ∙ get_or-set_same n i v.plays 0 (omega arith)

      -- and campaign i has v's counts
      pub put_here : v.price ≡ get_or t i 0 → v.budget ≡ get_or t (i + 64) 0 → campaign_at t (put n i v) i ≡ v
      put_here p b = rw (plays_here, turns_here, age_here, named_here, ← p, ← b)

-- with a campaign of the same price and budget stored at i, that campaign alone is another
pub put_counts : (g : ℕ → Campaign) (t n : List ℕ) (i : ℕ) (v : Campaign) → i < 64 → Counts g t n
    → v.price ≡ (g i).price → v.budget ≡ (g i).budget → Counts (λ j. cond (eqb j i) v (g j)) t (put n i v)
put_counts g t n i v h m p b = record { room = kept; at = λ j l. go j l (eqb j i) refl }
  where
    kept : Sized t (put n i v)
    kept = record {
      terms_length = m.room.terms_length;
      counts_length = simp length-set m.room.counts_length;
    }

    here : campaign_at t (put n i v) i ≡ v
    here =
        put_here n i v t h m.room.counts_length (p ∙ sym (ap (λ (c : Campaign). c.price) (m.at i h)))
        (b ∙ sym (ap (λ (c : Campaign). c.budget) (m.at i h)))

    go : (j : ℕ) → j < 64 → (x : Bool) → eqb j i ≡ x → campaign_at t (put n i v) j ≡ cond x v (g j)
    go j l true e = ap (campaign_at t (put n i v)) (eqb-true j i e) ∙ here
    go j l false e = put_other n i v t h j l (eqb-false j i e) ∙ m.at j l

module _ (pl : Plan) (w : View) (f : ℕ → Campaign) where
  -- each campaign as one that is passed over
  abbrev pub marks : ℕ → Campaign
  marks = after_view pl w no_candidate f

  -- the campaigns below i marked so
  abbrev pub cut : ℕ → ℕ → Campaign
  cut i j = cond (ltb j i) (marks j) (f j)

  pub cut_here : (i : ℕ) → cut i i ≡ f i
  cut_here i = rw (le-ltb i i (omega arith))

  -- an unnamed campaign stays as it was
  unnamed : (j : ℕ) → names w j ≡ false → marks j ≡ f j
  unnamed j e = rw e

  -- up to the next named campaign nothing changes
  pub cut_gap : (a r j : ℕ) → Next w.set a r → cut a j ≡ cut r j
  cut_gap a r j n = go (ltb j a) refl (ltb j r) refl
    where
      go : (b : Bool) → ltb j a ≡ b → (c : Bool) → ltb j r ≡ c → cond b (marks j) (f j) ≡ cond c (marks j) (f j)
      go true e true q = refl
      go true e false q = absurd (omega (arith, ltb-true j a e, ltb-false j r q, n.low))
      go false e true q = sym (unnamed j (n.gap j (ltb-false j a e) (ltb-true j r q)))
      go false e false q = refl

  -- the mark of campaign i is the step to i + 1
  pub cut_step : (i j : ℕ) (v : Campaign) → v ≡ marks i → cond (eqb j i) v (cut i j) ≡ cut (i + 1) j
  cut_step i j v e = go (eqb j i) refl (ltb j i) refl (ltb j (i + 1)) refl
    where
      go : (t : Bool) → eqb j i ≡ t → (b : Bool) → ltb j i ≡ b → (c : Bool) → ltb j (i + 1) ≡ c
          → cond t v (cond b (marks j) (f j)) ≡ cond c (marks j) (f j)
      go true x b y true z = e ∙ ap marks (sym (eqb-true j i x))
      go true x b y false z = absurd (omega (arith, eqb-true j i x, ltb-false j (i + 1) z))
      go false x true y true z = refl
      go false x false y false z = refl
      go false x true y false z = absurd (omega (arith, ltb-true j i y, ltb-false j (i + 1) z))
      go false x false y true z = absurd (eqb-false j i x (omega (arith, ltb-false j i y, ltb-true j (i + 1) z)))

  pub cut_end : (j : ℕ) → j < 64 → cut 64 j ≡ marks j
  cut_end j l = ap (λ (b : Bool). cond b (marks j) (f j)) (lt-ltb j 64 l)

  -- with the play of its candidate, they are what the view makes of them
  pub played_marks : (b : Candidate) (v : Campaign) → v ≡ played (marks b.campaign)
      → names w b.campaign ≡ true → pays pl w b.campaign (f b.campaign) ≡ true → (j : ℕ)
      → cond (eqb j b.campaign) v (marks j) ≡ after_view pl w (Some b) f j
  played_marks b v q n e j = go (eqb j b.campaign) refl
    where
      go : (x : Bool) → eqb j b.campaign ≡ x
          → cond x v (marks j) ≡ becomes pl w j (role_of (names w j) (pays pl w j (f j)) x) (f j)
      go true x = q ∙ rw (eqb-true j b.campaign x, n, e) (played_passed pl.depth (f b.campaign))
      go false x = refl
