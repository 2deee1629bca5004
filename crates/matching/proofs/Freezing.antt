-- The levels of a set of campaigns are written by the walk of the set: those that are not left have theirs.
use mathlib.Core.Path.{◌≡◌, ap, sym, ◌∙◌}
use mathlib.Core.Bool.{Bool, cond}
use mathlib.Core.List.{List}
use Prim.Native.Nat.{ℕ, ◌^◌, ◌<◌}
use native.Mathlib.Omega.{arith}
use lib.ListN.{length, set, length-set}
use Rattle.sets.specs.Set.{member, next, beyond}
use Rattle.allotments.specs.Allotment.{at}
use Rattle.allotments.proofs.Walks.{Walking, walking_end, hand_small, hand_in, walking_turn}
use Rattle.matching.specs.Cited.{Frozen}
use Rattle.exchange.proofs.Entries.{at_same, at_other}

-- the level that a campaign is to have
abbrev Has : (level now : List ℕ) (who price : ℕ) → ℕ → Type 0
Has level now who price d = at now d ≡ cond (member who d) price (at level d)

pub record Freezing (level now : List ℕ) (who price left : ℕ) : Type 0 where
  pub long : length now ≡ 64
  pub walk : Walking who left (Has level now who price)

pub freeze_start : {level : List ℕ} {who price : ℕ} → length level ≡ 64 → who < 2 ^ 64 → Freezing level level who
    price who
freeze_start {level} {who} {price} len small = record {
  long = len;
  walk = record {
    small = small;
    part = λ d l m. m;
    done = λ d l m. sym (ap (λ (b : Bool). cond b price (at level d))
        m);
  };
}

pub freeze_turn : {level now : List ℕ} {who price left c left' : ℕ} → (left ≡ 0 → ⊥) → c ≡ next left 0 → left' ≡
    beyond left c → Freezing level now who price left
    → Freezing level (set now c price) who price left'
freeze_turn {level} {now} {who} {price} {left} {c} {left'} some c_is e f =
    let small = f.walk.small in
    let l = hand_small left small some c c_is in
    record {
      long = length-set now c price ∙ f.long;
      walk = walking_turn left small some c c_is who left' (Has level now who price) (Has level (set now c price) who
          price) e f.walk
          (λ d k ne h. at_other now c price d ne ∙ h)
          (at_same now c price (omega (arith, f.long)) ∙ sym (ap (λ (b : Bool). cond b price (at level c))
          (f.walk.part c l (hand_in left small some c c_is))));
    }

pub freeze_end : {level now : List ℕ} {who price left : ℕ} → left ≡ 0 → length level ≡ 64 → Freezing level now who
    price left → Frozen level now who price
freeze_end {level} {now} {who} {price} {left} e len f = record {
  long = f.long ∙ sym len;
  each = walking_end who left
      (Has level now who price) f.walk e;
}
