-- Any lines keep the demands. Lines make calls, and their answers are those of the calls, so what holds of any list of
-- calls (demand 3, Algorithm 4) holds of any list of lines. What was paid is read off the text: the first line of an
-- answer reads back as the record of that answer, and each line adds to the sum what its call adds to the history.
use mathlib.Core.Path.{◌≡◌, refl, sym, ap, ap₂, ◌∙◌, subst⁻¹}
use mathlib.Core.Bool.{Bool, true, false, cond, ◌&&◌}
use mathlib.Core.List.{List, [], ◌∷◌, ◌++◌}
use Prim.Native.Nat.{ℕ, suc, ◌+◌, ◌≤◌}
use native.Mathlib.Omega.{arith}
use borrow.Author.Tests.{ne_eqb}
use Rattle.std.specs.Prelude.{Result, Ok, Err}
use Rattle.refusal.specs.declared.Refusal.{Refusal}
use Rattle.finite.specs.Finite.{total}
use Rattle.finite.proofs.Tables.{total_snoc}
use Rattle.lines.specs.declared.Record.{Record}
use Rattle.lines.specs.declared.Record.TheVariants.{Plan, Campaign, Start, View, Close, Done, Play, Nobody, Refused}
use Rattle.lines.specs.declared.Record.TheVariants.{Closed, Tally, Pause, Resume}
use Rattle.lines.specs.Reading.{reading}
use Rattle.campaigns.specs.declared.Terms.{Terms}
use Rattle.campaigns.specs.declared.View.{View as Lift}
use Rattle.campaigns.specs.View.{full}
use Rattle.campaigns.specs.Choice.{Choice}
use Rattle.campaigns.specs.Choice.Choice.{nobody, plays}
use Rattle.day.specs.declared.Answer.{Answer}
use Rattle.day.specs.declared.Answer.TheVariants.{Refused as refusing, Done as done, Played as played}
use Rattle.day.specs.declared.Answer.TheVariants.{Nobody as no_one, Tallied as tallied, Closing as closing}
use Rattle.day.specs.declared.Day.{Day}
use Rattle.day.specs.declared.Outcome.{Outcome}
use Rattle.day.specs.Day.{blank, blank_plan, campaign, total_takings, total_claim}
use Rattle.day.specs.Calls.{Call, player, offers, view_answer, call}
use Rattle.day.specs.Calls.Call.{open_plan, add_campaign, start_day, show_view, ask_tally, close_day, mark_campaign}
use Rattle.day.proofs.Questions.{call_elim}
use Rattle.noon.specs.Noon.{floor_figure}
use Rattle.demands.specs.Transcript.{Exchange, transcript, final}
use Rattle.floor.specs.History.{History, paid_in, day_takings, opening, with_call, entered, continued, history}
use Rattle.floor.specs.History.Starts.{from_blank}
use Rattle.floor.specs.Floor.{Floor}
use Rattle.floor.specs.Noon.{NoonFloor}
use Rattle.floor.proofs.Floor.{demand_3}
use Rattle.floor.proofs.Noon.{noon_at_end}
use Rattle.refinement.specs.Correspondence.{BuysAlike}
use Rattle.refinement.specs.Days.{DayAgrees}
use Rattle.refinement.proofs.Days.{days_as_algorithm_4}
use Rattle.reply.specs.Reply.{Request, request, request_of, executed, outcome, tally_records, answer_records}
use Rattle.reply.specs.Reply.{is_closing, reply_records, reply, next}
use Rattle.reply.specs.Reply.Request.{makes, fails}
use Rattle.reply.specs.Session.{first_line}
use Rattle.reply.specs.Answered.{OutputLines}
use Rattle.reply.proofs.Replies.{Said, line_said, answers_each}
use Rattle.stream.specs.Input.{after_lines}
use Rattle.programs.specs.Lines.{with_request, calls_of, with_exchange, exchanges, is_plan, is_ok}
use Rattle.programs.specs.Lines.{price_in, of_reading, sum_after, sum_over, sum_paid, day_of}
use Rattle.programs.specs.Lines.{LinesMakeCalls, LinesKeepTheDemands}

-- The first line of an answer reads as its record.

-- the record of an answer; no line asks for one tally
abbrev record_of : Answer → Record
record_of (refusing q) = Refused q
record_of done = Done
record_of (played i p) = Play i p
record_of no_one = Nobody
record_of (tallied p t a n) = Tally 0 p t a n
record_of (closing t c f) = Closed t c f

first_reads : (a : Answer) → Said a → (w : List ℕ) (rs : List Record) → OutputLines w (answer_records a ++ rs)
    → reading (first_line w) ≡ Ok (record_of a)
first_reads (refusing q) h w rs o = o.0.reads
first_reads done h w rs o = o.0.reads
first_reads (played i p) h w rs o = o.0.reads
first_reads no_one h w rs o = o.0.reads
first_reads (tallied p t a n) h w rs o = absurd h
first_reads (closing t c f) h w rs o = o.0.reads

said_is : (s : Day) (l : List ℕ) → reading (first_line (reply s l)) ≡ Ok (record_of (outcome s l).answer)
unfolding reply_records
said_is s l =
    let o = outcome s l in
    first_reads o.answer (line_said s l) (reply s l)
    (cond (is_closing o.answer) (tally_records (campaign o.day) o.day.count) []) (answers_each s l).lines_are

-- The calls.

final_step : (s : Day) (r : Request) (cs : List Call) → final (executed s r).day cs ≡ final s (with_request r cs)
unfolding final
final_step s (makes c) cs = refl
final_step s (fails q) cs = refl

state_is : (s : Day) (ls : List (List ℕ)) → after_lines s ls ≡ final s (calls_of ls)
unfolding after_lines calls_of next outcome final
state_is s [] = refl
state_is s (l ∷ ls) = state_is (next s l) ls ∙ final_step s (request_of (reading l)) (calls_of ls)

transcript_step : (s : Day) (r : Request) (cs : List Call)
    → with_exchange r (executed s r).answer (transcript (executed s r).day cs) ≡ transcript s (with_request r cs)
unfolding transcript
transcript_step s (makes c) cs = refl
transcript_step s (fails q) cs = refl

exchanges_are : (s : Day) (ls : List (List ℕ)) → exchanges s ls ≡ transcript s (calls_of ls)
unfolding exchanges calls_of next outcome transcript
exchanges_are s [] = refl
exchanges_are s (l ∷ ls) =
    let r = request_of (reading l) in
    ap (with_exchange r (executed s r).answer) (exchanges_are (next s l) ls) ∙ transcript_step s r (calls_of ls)

pub lines_make_calls : LinesMakeCalls
lines_make_calls s ls = record { state_is = state_is s ls; exchanges_are = exchanges_are s ls }

-- What was paid.

none_more : (p : ℕ) → p ≡ p + 0
none_more p = omega arith

pub refused_entered : (h : History) (c : Call) (q : ℕ) → entered h (record { made = c; answer = refusing (suc q) }) ≡ h
refused_entered h c q =
    ap (λ (b : Bool). cond b (with_call h c (refusing (suc q))) h) (ne_eqb (suc q) 0 (λ e. omega arith))

-- the day with a line more
abbrev pub stepped : History → Request → Answer → History
stepped h (makes c) a = entered h (record { made = c; answer = a })
stepped h (fails q) a = h

pub continued_step : (h : History) (r : Request) (a : Answer) (xs : List Exchange)
    → continued h (with_exchange r a xs) ≡ continued (stepped h r a) xs
unfolding continued
continued_step h (makes c) a xs = refl
continued_step h (fails q) a xs = refl

-- the sum with a line more, whose reading is l and whose answer is a
abbrev summed : ℕ → Result Record Refusal → Answer → ℕ
summed p l a = cond (of_reading is_plan false l && is_ok (record_of a)) 0 (p + price_in (record_of a))

module _ (s : Day) (h : History) where
  abbrev Adds : Record → Call → Outcome → Type 0
  Adds r c o =
      day_takings (entered h (record { made = c; answer = o.answer })) ≡ summed (day_takings h) (Ok r) o.answer

  -- of a refusal
  refused_adds : (c : Call) (q : ℕ)
      → day_takings (entered h (record { made = c; answer = refusing (suc q) })) ≡ day_takings h + 0
  refused_adds c q = ap day_takings (refused_entered h c q) ∙ none_more (day_takings h)

  view_adds : (w : Lift) (ch : Choice)
      → day_takings (entered h (record { made = show_view w; answer = view_answer (offers s w) ch }))
      ≡ day_takings h + price_in (record_of (view_answer (offers s w) ch))
  view_adds w nobody = total_snoc paid_in h.answers no_one
  view_adds w (plays m) = total_snoc paid_in h.answers (played m (offers s w m))

  -- a marking pays nothing
  mark_adds : (r : Record) (b : Bool) (i : ℕ)
      → ((a : Answer) → summed (day_takings h) (Ok r) a ≡ day_takings h + price_in (record_of a))
      → Adds r (mark_campaign b i) (call s (mark_campaign b i))
  mark_adds r b i e =
      let c = mark_campaign b i in
      call_elim (Adds r c) s c (λ q. refused_adds c q ∙ sym (e (refusing (suc q))))
      (λ y. none_more (day_takings h) ∙ sym (e done))

  record_adds : (r : Record)
      → day_takings (stepped h (request r) (executed s (request r)).answer)
      ≡ summed (day_takings h) (Ok r) (executed s (request r)).answer
  unfolding total
  record_adds (Plan k d) =
      let c = open_plan (record { depth = k; width = d }) in
      call_elim (Adds (Plan k d) c) s c (λ q. refused_adds c q) (λ y. refl)
  record_adds (Campaign p b) =
      let c = add_campaign (record { price = p; budget = b }) in
      call_elim (Adds (Campaign p b) c) s c (λ q. refused_adds c q) (λ y. none_more (day_takings h))
  record_adds Start =
      call_elim (Adds Start start_day) s start_day (λ q. refused_adds start_day q) (λ y. none_more (day_takings h))
  record_adds (View v) =
      call_elim (Adds (View v) (show_view (record { set = v }))) s (show_view (record { set = v }))
      (λ q. refused_adds (show_view (record { set = v })) q)
      (λ y. view_adds (record { set = v }) (player s (record { set = v })))
  record_adds Close =
      call_elim (Adds Close close_day) s close_day (λ q. refused_adds close_day q) (λ y. none_more (day_takings h))
  record_adds Done = none_more (day_takings h)
  record_adds (Play i p) = none_more (day_takings h)
  record_adds Nobody = none_more (day_takings h)
  record_adds (Refused q) = none_more (day_takings h)
  record_adds (Closed t c f) = none_more (day_takings h)
  record_adds (Tally i p t a n) = none_more (day_takings h)
  record_adds (Pause i) = mark_adds (Pause i) true i (λ a. refl)
  record_adds (Resume i) = mark_adds (Resume i) false i (λ a. refl)

  reading_adds : (l : Result Record Refusal)
      → day_takings (stepped h (request_of l) (executed s (request_of l)).answer)
      ≡ summed (day_takings h) l (executed s (request_of l)).answer
  reading_adds (Ok r) = record_adds r
  reading_adds (Err e) = none_more (day_takings h)

  line_adds : (l : List ℕ)
      → day_takings (stepped h (request_of (reading l)) (outcome s l).answer) ≡ sum_after (day_takings h) l (reply s l)
  unfolding outcome
  line_adds l =
      reading_adds (reading l)
      ∙ sym (ap after (said_is s l))
    where
      -- the sum where the first line of the answer reads as x
      after : Result Record Refusal → ℕ
      after x =
          cond (of_reading is_plan false (reading l) && of_reading is_ok false x) 0
          (day_takings h + of_reading price_in 0 x)

paid_is : (s : Day) (h : History) (ls : List (List ℕ))
    → day_takings (continued h (exchanges s ls)) ≡ sum_over (day_takings h) s ls
unfolding continued exchanges sum_over
paid_is s h [] = refl
paid_is s h (l ∷ ls) =
    let r = request_of (reading l) in
    let a = (outcome s l).answer in
    ap day_takings (continued_step h r a (exchanges (next s l) ls))
    ∙ paid_is (next s l) (stepped h r a) ls
    ∙ ap (λ (p : ℕ). sum_over p (next s l) ls) (line_adds s h l)

-- Closing: the line has takings, total claim and full.
abbrev closed_by : Day → Record
closed_by s = Closed (total_takings s) (total_claim s) (full s.plan (total_takings s))

closed_takings : (t c f t' c' f' : ℕ) → Closed t c f ≡ Closed t' c' f' → t ≡ t'
closed_takings t c f t' c' f' e = cc

closed_claim : (t c f t' c' f' : ℕ) → Closed t c f ≡ Closed t' c' f' → c ≡ c'
closed_claim t c f t' c' f' e = cc

closed_full : (t c f t' c' f' : ℕ) → Closed t c f ≡ Closed t' c' f' → f ≡ f'
closed_full t c f t' c' f' e = cc

module _ (s : Day) (t c f : ℕ) where
  abbrev Closes : Outcome → Type 0
  Closes o = record_of o.answer ≡ Closed t c f → Closed t c f ≡ closed_by s

  call_closes : (k : Call) → Closes (executed s (makes k))
  call_closes (open_plan pl) = call_elim Closes s (open_plan pl) (λ q e. cc) (λ y e. cc)
  call_closes (add_campaign x) = call_elim Closes s (add_campaign x) (λ q e. cc) (λ y e. cc)
  call_closes start_day = call_elim Closes s start_day (λ q e. cc) (λ y e. cc)
  call_closes (show_view w) = call_elim Closes s (show_view w) (λ q e. cc) (λ y. go (player s w))
    where
      go : (ch : Choice) → record_of (view_answer (offers s w) ch) ≡ Closed t c f → Closed t c f ≡ closed_by s
      go nobody e = cc
      go (plays m) e = cc
  call_closes (ask_tally i) = call_elim Closes s (ask_tally i) (λ q e. cc) (λ y e. cc)
  call_closes close_day = call_elim Closes s close_day (λ q e. cc) (λ y e. cc)
  call_closes (mark_campaign b i) = call_elim Closes s (mark_campaign b i) (λ q e. cc) (λ y e. cc)

  request_closes : (r : Request) → Closes (executed s r)
  request_closes (makes k) = call_closes k
  request_closes (fails q) = λ e. cc

  line_closes : (l : List ℕ) → reading (first_line (reply s l)) ≡ Ok (Closed t c f) → Closed t c f ≡ closed_by s
  unfolding outcome
  line_closes l e =
      request_closes (request_of (reading l)) (got (record_of (outcome s l).answer) (sym (said_is s l) ∙ e))
    where
      got : (r : Record) → ◌≡◌ {A = Result Record Refusal} (Ok r) (Ok (Closed t c f)) → r ≡ Closed t c f
      got r q = cc

-- All of it.
floor_is : (ls : List (List ℕ)) → Floor (day_of ls) (after_lines blank ls)
floor_is ls =
    subst⁻¹ (λ (x : Day). Floor (day_of ls) x) (state_is blank ls)
    (subst⁻¹ (λ (xs : List Exchange). Floor (history xs) (final blank (calls_of ls))) (exchanges_are blank ls)
    (demand_3 blank (calls_of ls) (from_blank (calls_of ls))))

noon_is : (ls : List (List ℕ)) → NoonFloor (day_of ls) (after_lines blank ls)
noon_is ls =
    subst⁻¹ (λ (x : Day). NoonFloor (day_of ls) x) (state_is blank ls)
    (subst⁻¹ (λ (xs : List Exchange). NoonFloor (history xs) (final blank (calls_of ls))) (exchanges_are blank ls)
    (noon_at_end blank (calls_of ls) (from_blank (calls_of ls))))

module _ (ls : List (List ℕ)) (t c f : ℕ) (e : Closed t c f ≡ closed_by (after_lines blank ls)) where
  closing_takings : t ≡ total_takings (after_lines blank ls)
  closing_takings = closed_takings t c f _ _ _ e

  closing_claim : c ≡ total_claim (after_lines blank ls)
  closing_claim = closed_claim t c f _ _ _ e

  closing_full : f ≡ full (day_of ls).plan t
  closing_full = closed_full t c f _ _ _ e ∙ ap₂ full (noon_is ls).plan_is (sym closing_takings)

  closing_figures : (floor_figure (after_lines blank ls) ≤ c) × (c ≤ f)
  closing_figures =
      let s = after_lines blank ls in
      let n = noon_is ls in (
        subst⁻¹ (λ (x : ℕ). floor_figure s ≤ x) closing_claim n.claim_above,
        subst⁻¹ (λ (x : ℕ). x ≤ f) closing_claim
            (subst⁻¹ (λ (x : ℕ). total_claim s ≤ x) (closed_full t c f _ _ _ e) n.claim_below),
      )

agrees_is : (ls : List (List ℕ)) (B : Terms → ℕ) → BuysAlike B → DayAgrees B (day_of ls) (after_lines blank ls)
agrees_is ls B b =
    subst⁻¹ (λ (x : Day). DayAgrees B (day_of ls) x) (state_is blank ls)
    (subst⁻¹ (λ (xs : List Exchange). DayAgrees B (history xs) (final blank (calls_of ls))) (exchanges_are blank ls)
    (days_as_algorithm_4 B b blank (calls_of ls) (from_blank (calls_of ls))))

pub lines_keep_the_demands : LinesKeepTheDemands
unfolding total
lines_keep_the_demands ls =
    let p : day_takings (day_of ls) ≡ sum_paid ls = paid_is blank (opening blank_plan) ls in
    record {
      calls = lines_make_calls blank ls;
      paid_is = p;
      floor = floor_is ls;
      noon = noon_is ls;
      closing_is = λ l t c f e.
          let k = line_closes (after_lines blank ls) t c f l e in (
            closing_takings ls t c f k ∙ (floor_is ls).takings_is ∙ p,
            closing_claim ls t c f k,
            closing_full ls t c f k,
          );
      closing_noon = λ l t c f e. closing_figures ls t c f (line_closes (after_lines blank ls) t c f l e);
      agrees = agrees_is ls;
    }
