-- The calls one by one: what each makes of the state and of the takings is what it makes of the day's history, the
-- takings fit, and three words in hand are one call. The loop keeps a day whose takings are those added up so far, from
-- which what is left to run comes to the whole list's day (`Rest`).
use mathlib.Core.Path.{◌≡◌, refl, ap, sym, ◌∙◌, subst, subst⁻¹}
use mathlib.Core.Bool.{Bool, true, false, cond}
use mathlib.Core.List.{List, [], ◌∷◌, ◌++◌}
use Prim.Native.Nat.{ℕ, suc, ◌+◌, ◌*◌, ◌^◌, ◌≤◌, ◌<◌}
use native.Mathlib.Omega.{arith}
use lib.Dec.{eqb}
use lib.ListN.{get_or, length}
use borrow.Author.Tests.{ltb-true, eq-eqb, ne_eqb}
use Rattle.finite.specs.Finite.{total}
use Rattle.finite.proofs.Tables.{total_snoc}
use Rattle.campaigns.specs.declared.Plan.{Plan}
use Rattle.campaigns.specs.declared.View.{View}
use Rattle.campaigns.specs.Choice.{Choice}
use Rattle.campaigns.specs.Choice.Choice.{nobody, plays}
use Rattle.campaigns.specs.View.{able, figure}
use Rattle.campaigns.specs.Limits.{max_price, max_views}
use Rattle.campaigns.proofs.Laws.{price_most}
use Rattle.day.specs.declared.Answer.{Answer}
use Rattle.day.specs.declared.Answer.TheVariants.{Refused, Done, Played, Nobody, Tallied, Closing}
use Rattle.day.specs.declared.Day.{Day}
use Rattle.day.specs.declared.Outcome.{Outcome}
use Rattle.day.specs.Day.{blank_plan, campaign}
use Rattle.day.specs.Calls.{number, Call, questions, found, player, offers, view_answer, result, call}
use Rattle.day.specs.Calls.Call.{open_plan, add_campaign, start_day, show_view, ask_tally, close_day, mark_campaign}
use Rattle.day.specs.declared.Call.{Call as Asked}
use Rattle.day.specs.declared.Call.TheVariants.{Open, Add, Start, Show, Tally, Close, Pause, Resume}
use Rattle.day.specs.InPlace.{asked}
use Rattle.day.proofs.Questions.{Yes, call_elim}
use Rattle.day.proofs.State.{Sound, sound_facts, held_at}
use Rattle.demands.specs.Choice.{Right}
use Rattle.demands.specs.Transcript.{Exchange, transcript, final}
use Rattle.demands.proofs.Choice.{player_right}
use Rattle.floor.specs.History.{accepted, paid_in, History, day_takings, opening, with_call, entered, continued}
use Rattle.floor.specs.History.{history}
use Rattle.floor.specs.Floor.{Floor}
use Rattle.floor.specs.Noon.{NoonFloor}
use Rattle.floor.proofs.Floor.{demand_3}
use Rattle.floor.proofs.Noon.{noon_at_end}
use Rattle.replay.specs.declared.Replayed.{Replayed}
use Rattle.replay.specs.Replay.{call_in, decode, Replays}
use Rattle.replay.specs.Cited.{at, ReplaysTo}

-- a sound state pays at most 1,000,000 for a view
pays_most : (s : Day) (w : View) → Sound s → paid_in (view_answer (offers s w) (player s w)) ≤ max_price
pays_most s w h = go (player s w) (player_right s w)
  where
    go : (ch : Choice)
        → Right s.count (able s.plan (found s w) (campaign s))
        (λ i. figure s.plan (found s w) i (campaign s i)) ch
        → paid_in (view_answer (offers s w) ch) ≤ max_price
    go nobody r = omega arith
    go (plays m) r = price_most (campaign s m) (held_at s h m r.below).is_priced

-- What an accepted call makes of a day's takings.
abbrev exchange : Call → Answer → Exchange
exchange c a = record { made = c; answer = a }

quiet : (h : History) (c : Call) (a : Answer) → day_takings (with_call h c a) ≡ day_takings h
    → day_takings (entered h (exchange c a)) ≡ day_takings h
quiet h c a e = go (accepted a)
  where
    go : (b : Bool) → day_takings (cond b (with_call h c a) h) ≡ day_takings h
    go true = e
    go false = refl

-- a refused view pays nothing
view_takings : (h : History) (w : View) (a : Answer)
    → day_takings (entered h (exchange (show_view w) a)) ≡ day_takings h + paid_in a
view_takings h w (Refused q) = go (eqb q 0)
  where
    go : (b : Bool)
        → day_takings (cond b (with_call h (show_view w) (Refused q)) h) ≡ day_takings h + 0
    go true = total_snoc paid_in h.answers (Refused q)
    go false = omega arith
view_takings h w Done = total_snoc paid_in h.answers Done
view_takings h w (Played i x) = total_snoc paid_in h.answers (Played i x)
view_takings h w Nobody = total_snoc paid_in h.answers Nobody
view_takings h w (Tallied x t y n) = total_snoc paid_in h.answers (Tallied x t y n)
view_takings h w (Closing t x f) = total_snoc paid_in h.answers (Closing t x f)

-- The takings are at most 1,000,000 for each accepted view.
abbrev pub Bounded : Day → ℕ → Type 0
Bounded s p = p ≤ max_price * s.accepted

abbrev Still : History → Call → Outcome → Type 0
Still h c o = Bounded o.day (day_takings (entered h (exchange c o.answer)))

module _ (s : Day) (h : History) (b : Bounded s (day_takings h)) where
  bounded_refusal : (c : Call) (q : ℕ) → Still h c (record { day = s; answer = Refused (suc q) })
  bounded_refusal c q = rw (ne_eqb (suc q) 0 (λ z. omega arith)) b

  bounded_result : (c : Call) → Yes (questions s c) → Still h c (result s c)
  unfolding total
  bounded_result (open_plan pl) y = omega arith
  bounded_result (add_campaign t) y = b
  bounded_result start_day y = b
  bounded_result (show_view w) y =
      omega (
        arith,
        view_takings h w (result s (show_view w)).answer,
        pays_most s w (sound_facts s y.0),
      )
  bounded_result (ask_tally i) y = b
  bounded_result close_day y = b
  bounded_result (mark_campaign m i) y = b

  bounded_call : (c : Call) → Still h c (call s c)
  bounded_call c = call_elim (Still h c) s c (bounded_refusal c) (bounded_result c)

-- a view's payment can be added
pub view_fits : (s : Day) (p : ℕ) (w : View) → Bounded s p → p < 2 ^ 64
    → p + paid_in (call s (show_view w)).answer < 2 ^ 64
view_fits s p w b f =
    call_elim (λ (o : Outcome). p + paid_in o.answer < 2 ^ 64) s (show_view w) (λ q. omega arith)
    (λ y. omega (arith, pays_most s w (sound_facts s y.0), ltb-true s.accepted max_views y.1.1.0))

bounded_calls : (cs : List Call) (s : Day) (h : History) → Bounded s (day_takings h)
    → Bounded (final s cs) (day_takings (continued h (transcript s cs)))
unfolding final transcript continued
bounded_calls [] s h b = b
bounded_calls (c ∷ cs) s h b =
    bounded_calls cs (call s c).day (entered h (exchange c (call s c).answer)) (bounded_call s h b c)

-- One call as the code makes it.
module _ (s : Day) (p : ℕ) (c : Call) (o : Outcome) (e : o ≡ call s c) (x : ℕ)
    (paid : (h : History) → day_takings h ≡ p → day_takings (entered h (exchange c o.answer)) ≡ x) where
  pub one_call : ReplaysTo s p (c ∷ []) (at o.day x)
  unfolding final transcript continued
  one_call h q =
      subst (λ (r : Outcome). at o.day x ≡ at r.day (day_takings (entered h (exchange c r.answer)))) e
      (ap (at o.day) (sym (paid h q)))

module _ (s : Day) (p : ℕ) (pl : Plan) (o : Outcome) (e : o ≡ call s (open_plan pl)) where
  -- an opening's answer tells whether the takings begin again
  pub opened : number o.answer ≡ 0 → ReplaysTo s p (open_plan pl ∷ []) (at o.day 0)
  unfolding total
  opened z = one_call s p (open_plan pl) o e 0 (λ h q. rw (eq-eqb (number o.answer) 0 z))

  pub not_opened : (number o.answer ≡ 0 → ⊥) → ReplaysTo s p (open_plan pl ∷ []) (at o.day p)
  not_opened z = one_call s p (open_plan pl) o e p (λ h q. rw (ne_eqb (number o.answer) 0 z) q)

pub viewed_once : (s : Day) (p : ℕ) (w : View) (o : Outcome) → o ≡ call s (show_view w)
    → ReplaysTo s p (show_view w ∷ []) (at o.day (p + paid_in o.answer))
viewed_once s p w o e =
    one_call s p (show_view w) o e (p + paid_in o.answer)
    (λ h q. view_takings h w o.answer ∙ ap (λ (n : ℕ). n + paid_in o.answer) q)

-- the other calls leave the takings
other_calls : (d : Asked) → ((pl : Plan) → d ≡ Open pl → ⊥) → ((w : View) → d ≡ Show w → ⊥) → (h : History) (a : Answer)
    → day_takings (with_call h (asked d) a) ≡ day_takings h
other_calls (Open pl) n m h a = absurd (n pl refl)
other_calls (Add t) n m h a = refl
other_calls Start n m h a = refl
other_calls (Show w) n m h a = absurd (m w refl)
other_calls (Tally i) n m h a = refl
other_calls Close n m h a = refl
other_calls (Pause i) n m h a = refl
other_calls (Resume i) n m h a = refl

pub unpaid : (s : Day) (p : ℕ) (d : Asked) (o : Outcome) → o ≡ call s (asked d) → ((pl : Plan) → d ≡ Open pl → ⊥)
    → ((w : View) → d ≡ Show w → ⊥) → ReplaysTo s p (asked d ∷ []) (at o.day p)
unpaid s p d o e n m =
    one_call s p (asked d) o e p (λ h q. quiet h (asked d) o.answer (other_calls d n m h o.answer) ∙ q)

-- A list and what follows it.
final_append : (cs ds : List Call) (s : Day) → final s (cs ++ ds) ≡ final (final s cs) ds
unfolding final
final_append [] ds s = refl
final_append (c ∷ cs) ds s = final_append cs ds (call s c).day

continued_append : (cs ds : List Call) (s : Day) (h : History)
    → continued h (transcript s (cs ++ ds)) ≡ continued (continued h (transcript s cs)) (transcript (final s cs) ds)
unfolding final transcript continued
continued_append [] ds s h = refl
continued_append (c ∷ cs) ds s h =
    continued_append cs ds (call s c).day (entered h (exchange c (call s c).answer))

-- three words are one call
three : (x : List ℕ) → length x ≡ 3 → x ≡ get_or x 0 0 ∷ get_or x 1 0 ∷ get_or x 2 0 ∷ []
three [] h = absurd (omega (arith, h))
three (a ∷ []) h = absurd (omega (arith, h))
three (a ∷ b ∷ []) h = absurd (omega (arith, h))
three (a ∷ b ∷ c ∷ []) h = refl
three (a ∷ b ∷ c ∷ d ∷ l) h = absurd (omega (arith, h))

decode_three : (x rest : List ℕ) → length x ≡ 3
    → decode (x ++ rest) ≡ call_in (get_or x 0 0) (get_or x 1 0) (get_or x 2 0) ++ decode rest
unfolding decode
decode_three x rest h = ap (λ (y : List ℕ). decode (y ++ rest)) (three x h)

-- What is left to run of ws, from the state s₁ and the takings p, comes to what the whole list comes to from s.
pub record Rest (s : Day) (ws left : List ℕ) (s₁ : Day) (p : ℕ) : Type 0 where
  pub day : History
  pub takings_are : day_takings day ≡ p
  pub bounded : Bounded s₁ p
  pub state_left : final s₁ (decode left) ≡ final s (decode ws)
  pub day_left : continued day (transcript s₁ (decode left)) ≡ history (transcript s (decode ws))

pub rest_start : (s : Day) (ws : List ℕ) → Rest s ws ws s 0
unfolding total
rest_start s ws = record {
  day = opening blank_plan;
  takings_are = refl;
  bounded = omega arith;
  state_left = refl;
  day_left = refl;
}

-- with what three words call
pub rest_step : (s : Day) (ws left x rest : List ℕ) (s₁ : Day) (p : ℕ) (r : Replayed) → left ≡ x ++ rest
    → length x ≡ 3 → Rest s ws left s₁ p
    → ReplaysTo s₁ p (call_in (get_or x 0 0) (get_or x 1 0) (get_or x 2 0)) r → Rest s ws rest r.day r.paid
rest_step s ws left x rest s₁ p r e l k runs =
    let cs : List Call = call_in (get_or x 0 0) (get_or x 1 0) (get_or x 2 0) in
    let ds : List Call = decode rest in
    let now : decode left ≡ cs ++ ds = ap decode e ∙ decode_three x rest l in
    let day : History = continued k.day (transcript s₁ cs) in
    let e : r ≡ at (final s₁ cs) (day_takings day) = runs k.day k.takings_are in
    let here : Rest s ws rest (final s₁ cs) (day_takings day) =
    record {
      day = day;
      takings_are = refl;
      bounded = bounded_calls cs s₁ k.day (subst⁻¹ (Bounded s₁) k.takings_are k.bounded);
      state_left = sym (final_append cs ds s₁) ∙ ap (final s₁) (sym now) ∙ k.state_left;
      day_left =
          sym (continued_append cs ds s₁ k.day)
          ∙ ap (λ (l : List Call). continued k.day (transcript s₁ l)) (sym now)
          ∙ k.day_left;
    } in
    subst⁻¹ (λ (y : Replayed). Rest s ws rest y.day y.paid) e here

-- fewer than three
decode_short : (l : List ℕ) → length l < 3 → decode l ≡ []
unfolding decode
decode_short [] h = refl
decode_short (x ∷ []) h = refl
decode_short (x ∷ y ∷ []) h = refl
decode_short (x ∷ y ∷ z ∷ l) h = absurd (omega arith)

pub no_calls : (s : Day) (p : ℕ) → ReplaysTo s p [] (at s p)
unfolding final transcript continued
no_calls s p h q = ap (at s) (sym q)

-- nothing is left
pub replayed : (s : Day) (ws left : List ℕ) (s₁ : Day) (p : ℕ) → length left < 3 → Rest s ws left s₁ p
    → Replays s ws (at s₁ p)
unfolding final transcript continued
replayed s ws left s₁ p l k =
    let none : decode left ≡ [] = decode_short left l in
    let ran : s₁ ≡ final s (decode ws) = sym (ap (final s₁) none) ∙ k.state_left in
    let day : k.day ≡ history (transcript s (decode ws)) =
    sym (ap (λ (cs : List Call). continued k.day (transcript s₁ cs)) none) ∙ k.day_left in
    record {
      ran = ran;
      paid_is = sym k.takings_are ∙ ap day_takings day;
      demand_3 = λ st.
          subst⁻¹ (λ (d : Day). Floor (history (transcript s (decode ws))) d) ran (demand_3 s (decode ws) st);
      noon = λ st.
          subst⁻¹ (λ (d : Day). NoonFloor (history (transcript s (decode ws))) d) ran (noon_at_end s (decode ws) st);
    }

-- a kind that is none of the eight is past them; in two steps, since each "not" makes a case
past_four : (k : ℕ) → (k ≡ 0 → ⊥) → (k ≡ 1 → ⊥) → (k ≡ 2 → ⊥) → (k ≡ 3 → ⊥) → 4 ≤ k
past_four k a b c d = omega arith

past_rest : (k : ℕ) → 4 ≤ k → (k ≡ 4 → ⊥) → (k ≡ 5 → ⊥) → (k ≡ 6 → ⊥) → (k ≡ 7 → ⊥) → 8 ≤ k
past_rest k l e f g h = omega arith

pub past_eight : (k : ℕ) → (k ≡ 0 → ⊥) → (k ≡ 1 → ⊥) → (k ≡ 2 → ⊥) → (k ≡ 3 → ⊥) → (k ≡ 4 → ⊥) → (k ≡ 5 → ⊥)
    → (k ≡ 6 → ⊥) → (k ≡ 7 → ⊥) → 8 ≤ k
past_eight k a b c d e f g h = past_rest k (past_four k a b c d) e f g h
