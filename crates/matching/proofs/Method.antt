-- The method, in its steps: who is served next is of the plan, and no chain is left for a campaign that is closed.
use mathlib.Core.Path.{◌≡◌, ap, sym, ◌∙◌, subst}
use mathlib.Core.Logic.{⊎_elim}
use mathlib.Core.Bool.{true}
use mathlib.Core.List.{List}
use Prim.Native.Nat.{ℕ, ◌≤◌, ◌<◌}
use native.Mathlib.Omega.{arith}
use lib.ListN.{length}
use borrow.Author.Tests.{ltb-true}
use Rattle.sets.specs.Set.{member}
use Rattle.allotments.specs.Allotment.{at}
use Rattle.exchange.specs.Chain.{Chain}
use Rattle.exchange.specs.Chain.Chain.{given, moved}
use Rattle.matching.specs.Method.{Served, ByFallingPrice}
use Rattle.matching.specs.Method.ByFallingPrice.{start, serve}
use Rattle.matching.specs.Cited.{ServedIs, Standing}
use Rattle.matching.proofs.Choosing.{was_in}

-- a view that names a closed campaign is held by one
abbrev Shut : (n : ℕ) (views to : List ℕ) (closed : ℕ) → Type 0
Shut n views to closed = (d : ℕ) → d < n → member closed d ≡ true → (j : ℕ) → j < length views
    → member (at views j) d ≡ true → (at to j < n) × (member closed (at to j) ≡ true)

-- so that a chain never comes to a free view
no_chain : (n closed : ℕ) {views to to' : List ℕ} {c : ℕ} → n ≤ 64 → Shut n views to closed → c < n
    → member closed c ≡ true → Chain views to to' c → ⊥
no_chain n closed {c = c} few h l m (given j k nm e) = omega (arith, few, (h c l m j k nm).0, e)
no_chain n closed {c = c} few h l m (moved j k nm ne e ch _) =
    let r = h c l m j k nm in
    no_chain n closed few h (subst (λ (x : ℕ). x < n) e r.0) (sym (ap (member closed) e) ∙ r.1) ch

-- a campaign is served when its search ends
pub served : {n c closed closed' bare unserved : ℕ} {prices wholes views to to' level : List ℕ} → n ≤ 64 → c < n
    → Standing n prices wholes views to' level closed' unserved
    → ServedIs views to to' c closed (at wholes c) closed' bare → Served views to to' c (at wholes c)
served {n} {c} {closed' = closed'} {views = views} {to' = to'} few l st sv = record {
  plays = sv.plays;
  found = sv.gains.found;
  most = sv.most;
  ended = λ k next ch. ⊎_elim (λ q. omega (arith, q.0)) (λ f. no_chain n closed' few shut l f.self ch) sv.ended;
}
  where
    shut : Shut n views to' closed'
    shut d k m j i nm =
        let h = st.held d k m j i nm in
        (⊎_elim (λ e. absurd (omega (arith, h.0, e))) (λ e. e.0) (st.entries j i), h.1)

module _ {n : ℕ} {price : ℕ → ℕ} {views : List ℕ} where
  pub planned : {whole : ℕ → ℕ} {to : List ℕ} {unserved : ℕ} → ByFallingPrice n price whole views to unserved
      → (d : ℕ) → d < 64 → member unserved d ≡ true → d < n
  planned (start free all) d l m = ltb-true d n (sym (all d l) ∙ m)
  planned (serve {unserved = unserved} {c = c} by ch sv) d l m = planned by d l (was_in unserved c d l m)

  -- whole plays that are the same for the plan's campaigns
  pub same_wholes : {whole whole' : ℕ → ℕ} {to : List ℕ} {unserved : ℕ} → ((i : ℕ) → i < n → whole i ≡ whole' i)
      → ByFallingPrice n price whole views to unserved → ByFallingPrice n price whole' views to unserved
  same_wholes h (start free all) = start free all
  same_wholes h (serve {to} {to'} {unserved} {c} by ch sv) = serve (same_wholes h by) ch
      (subst (λ (x : ℕ). Served views to to' c x) (h c (planned by c ch.inside ch.waiting)) sv)
