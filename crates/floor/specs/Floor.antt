-- Demand 3: the floor under the takings of the day that any list of calls makes.
use Rattle.std.specs.Prelude.{◌≡◌, Bool, true, false, cond, List, ◌↔◌, ℕ, ◌*◌, ◌≤◌, ◌<◌, ltb, get_or, length}
use Rattle.finite.specs.Finite.{one_if, total}
use Rattle.powers.specs.Power.{share}
use Rattle.allotments.specs.Allotment.{Allotment, takings}
use Rattle.campaigns.specs.declared.Phase.TheVariants.{Closed}
use Rattle.campaigns.specs.declared.Terms.{Terms}
use Rattle.campaigns.specs.declared.View.{View}
use Rattle.campaigns.specs.Campaign.{whole_plays}
use Rattle.campaigns.specs.View.{names, full}
use Rattle.day.specs.declared.Day.{Day}
use Rattle.day.specs.Day.{no_terms, total_takings}
use Rattle.day.specs.Calls.{Call}
use Rattle.demands.specs.Transcript.{transcript, final}
use Rattle.floor.specs.History.{History, day_takings, Starts, history}

-- the price and budget that were handed to the accepted adding of campaign i
abbrev pub terms_of : History → ℕ → Terms
terms_of h i = get_or h.terms i no_terms

abbrev pub price_of : History → ℕ → ℕ
price_of h i = (terms_of h i).price

abbrev pub whole_of : History → ℕ → ℕ
whole_of h i = whole_plays (terms_of h i).price (terms_of h i).budget

-- how many of the day's views named campaign i while it was not paused, also after it is spent
abbrev pub named_in : History → ℕ → ℕ
named_in h i = total (λ w. one_if (names w i)) h.views

-- a campaign falls short when that number is below depth × whole plays
abbrev pub falls_short : History → ℕ → Bool
falls_short h i = ltb (named_in h i) (h.plan.depth * whole_of h i)

-- the same as a proposition
abbrev pub ShortMeans : Type 0
ShortMeans = (h : History) (i : ℕ) → (falls_short h i ≡ true) ↔ (named_in h i < h.plan.depth * whole_of h i)

-- no campaign of the day does
abbrev pub NoneShort : History → Type 0
NoneShort h = (i : ℕ) → i < length h.terms → falls_short h i ≡ false

-- the price that counts once the campaigns that fall short are struck out
abbrev pub unstruck : History → ℕ → ℕ
unstruck h i = cond (falls_short h i) 0 (price_of h i)

-- what a list of views is read as past its end
abbrev pub no_view : View
no_view = record { set = 0 }

-- the names that view j of the day found
abbrev pub names_at : History → ℕ → ℕ
names_at h j = (get_or h.views j no_view).set

-- an allotment of the day's accepted views, and its takings where a campaign's price is `price`
abbrev pub Allotted : History → (ℕ → ℕ) → Type 0
Allotted h to = Allotment (length h.terms) (whole_of h) (length h.views) (names_at h) to

abbrev pub takings_of : History → (price : ℕ → ℕ) → (ℕ → ℕ) → ℕ
takings_of h price to = takings (length h.terms) price (length h.views) to

-- (width to the power depth, less (width − 1) to the power depth) × an amount is at most width to the power depth × the
-- day's takings
abbrev pub Covered : History → ℕ → Type 0
Covered h x = share h.plan.depth h.plan.width * x ≤ full h.plan (day_takings h)

-- the day h, at whose end the state is s
pub record Floor (h : History) (s : Day) : Type 0 where
  -- provided that no campaign falls short, the takings of every allotment are covered
  pub floor : NoneShort h → (to : ℕ → ℕ) → Allotted h to → Covered h (takings_of h (price_of h) to)
  -- in any case they are without the part of the campaigns that fall short
  pub struck : (to : ℕ → ℕ) → Allotted h to → Covered h (takings_of h (unstruck h) to)
  -- the takings of the state, and those that its phase holds if it is Closed, are the day's takings
  pub takings_is : total_takings s ≡ day_takings h
  pub closed_is : (x : ℕ) → s.phase ≡ Closed x → x ≡ day_takings h

abbrev pub Demand3 : Type 0
Demand3 = (s : Day) (cs : List Call) → Starts s cs → Floor (history (transcript s cs)) (final s cs)
