-- The views that are kept are the day's own. The state counts the accepted views of its day; the entry behind them is
-- written by every line, and is one of them only where that number grows. By induction on the lines; the bytes of an
-- input record what its lines do.
use mathlib.Core.Path.{◌≡◌, refl, sym, ap, ap₂, ◌∙◌, subst, subst⁻¹}
use mathlib.Core.Bool.{Bool, true, false}
use mathlib.Core.List.{List, [], ◌∷◌, ◌++◌, append-nil, map, map-append}
use Prim.Native.Nat.{ℕ, suc, min, ◌+◌, ◌≤◌, ◌<◌}
use native.Mathlib.Omega.{arith}
use native.Mathlib.Numerals.{add-one}
use lib.Dec.{leb, ltb}
use lib.ListN.{length, take, set, length-append, length-set}
use lib.Seq.{take_all, take-set-le, take-suc-set, take-append-le, set_out}
use borrow.Author.Tests.{eq-eqb, leb-true, leb-false, ltb-true, ltb-false}
use Rattle.std.specs.Prelude.{Result}
use Rattle.refusal.specs.declared.Refusal.{Refusal}
use Rattle.lines.specs.declared.Record.{Record}
use Rattle.sets.specs.Set.{without}
use Rattle.lines.specs.Limits.{line_buffer}
use Rattle.lines.specs.Reading.{reading}
use Rattle.campaigns.specs.declared.View.{View}
use Rattle.campaigns.specs.View.{unmarked}
use Rattle.day.specs.declared.Day.{Day}
use Rattle.day.specs.declared.Outcome.{Outcome}
use Rattle.day.specs.Day.{blank, blank_plan}
use Rattle.day.specs.Calls.{number, marked, Call, result, call}
use Rattle.day.specs.Calls.Call.{open_plan, add_campaign, start_day, show_view, ask_tally, close_day, mark_campaign}
use Rattle.day.proofs.Questions.{call_elim}
use Rattle.demands.proofs.Refusals.{result_number}
use Rattle.floor.specs.History.{History, opening, with_call, entered, continued}
use Rattle.reply.specs.Reply.{Request, request_of, executed, outcome, next, reply}
use Rattle.reply.specs.Reply.Request.{makes, fails}
use Rattle.reply.specs.Session.{Session, longer, ended, fed}
use Rattle.reply.proofs.Sessions.{cut_reading, cut_next, byte_end}
use Rattle.batch.proofs.Rests.{rest_fed}
use Rattle.stream.specs.Stream.{session, session_of, new_stream, silent}
use Rattle.stream.specs.Input.{joined, Plain, AllPlain, Split, last_line, all_lines, after_lines}
use Rattle.stream.proofs.Chunking.{fed_lines, state_at_end}
use Rattle.programs.specs.Lines.{exchanges, day_of}
use Rattle.programs.proofs.Lines.{refused_entered, stepped, continued_step}
use Rattle.floor.specs.History.{own_views}
use Rattle.recording.specs.Recording.{shown_by_call, shown_in, noted, recorded}
use Rattle.recording.specs.Recording.{last_session, last_views, AnyRecording}
use Rattle.recording.proofs.Bytes.{recorded_append, recorded_plain}

-- the state s holds the day h, and the n entries v have its views, as many as they can
pub record Keeps (n : ℕ) (s : Day) (h : History) (v : List ℕ) : Type 0 where
  pub counted : s.accepted ≡ length (own_views h)
  pub paused_is : s.paused ≡ h.paused
  pub long : length v ≡ n
  pub entries : take s.accepted v ≡ take n (own_views h)

module _ (n : ℕ) (s : Day) (h : History) (v : List ℕ) (k : Keeps n s h v) where
  -- no view more, whatever stands behind those that there are
  keeps_unshown : (a : ℕ) (t : Day) (g : History) → t.accepted ≡ s.accepted → g.views ≡ h.views
      → t.paused ≡ g.paused → Keeps n t g (set v s.accepted a)
  keeps_unshown a t g e f p =
      let same = ap (λ (vs : List View). map (λ (u : View). u.set) vs) f in
      record {
        counted = e ∙ k.counted ∙ sym (ap length same);
        paused_is = p;
        long = length-set v s.accepted a ∙ k.long;
        entries =
            ap (λ (i : ℕ). take i (set v s.accepted a)) e
            ∙ take-set-le s.accepted v s.accepted a (omega arith)
            ∙ k.entries ∙ sym (ap (take n) same);
      }

  -- a view more
  more_entries : (a : ℕ) → take (suc s.accepted) (set v s.accepted a) ≡ take n (own_views h ++ (a ∷ []))
  more_entries a = go (ltb s.accepted n) refl
    where
      i : ℕ
      i = s.accepted

      go : (b : Bool) → ltb s.accepted n ≡ b
          → take (suc s.accepted) (set v s.accepted a) ≡ take n (own_views h ++ (a ∷ []))
      go true e =
          let l : s.accepted < n = ltb-true s.accepted n e in
          take-suc-set v s.accepted a (omega (arith, k.long))
          ∙ ap (λ (m : List ℕ). m ++ (a ∷ [])) (k.entries ∙ take_all n (own_views h) (omega (arith, k.counted)))
          ∙ sym (take_all n (own_views h ++ (a ∷ [])) (omega (arith, k.counted, length-append (own_views h) (a ∷ []))))
      go false e =
          let l : n ≤ s.accepted = ltb-false s.accepted n e in
          ap (take (suc s.accepted)) (set_out v s.accepted a (omega (arith, k.long)))
          ∙ take_all (suc s.accepted) v (omega (arith, k.long))
          ∙ sym (take_all s.accepted v (omega (arith, k.long)))
          ∙ k.entries
          ∙ sym (take-append-le n (own_views h) (a ∷ []) (omega (arith, k.counted)))

  keeps_shown : (w : View) (t : Day) (g : History) → t.accepted ≡ s.accepted + 1
      → g.views ≡ h.views ++ (unmarked h.paused w ∷ []) → t.paused ≡ g.paused
      → Keeps n t g (set v s.accepted (without w.set s.paused))
  keeps_shown w t g e f p =
      let a = without w.set s.paused in
      let one = e ∙ add-one s.accepted in
      let more : own_views g ≡ own_views h ++ (a ∷ []) =
      ap (λ (vs : List View). map (λ (u : View). u.set) vs) f
      ∙ map-append (λ (u : View). u.set) h.views (unmarked h.paused w ∷ [])
      ∙ sym (ap (λ (m : ℕ). own_views h ++ (without w.set m ∷ [])) k.paused_is) in
      record {
        counted = omega (arith, e, k.counted, ap length more, length-append (own_views h) (a ∷ []));
        paused_is = p;
        long = length-set v s.accepted a ∙ k.long;
        entries =
            ap (λ (i : ℕ). take i (set v s.accepted a)) one ∙ more_entries a ∙ sym (ap (take n) more);
      }

  -- none at all
  keeps_opened : (a : ℕ) (t : Day) (g : History) → t.accepted ≡ 0 → g.views ≡ [] → t.paused ≡ g.paused
      → Keeps n t g (set v s.accepted a)
  keeps_opened a t g e f p =
      let none = ap (λ (vs : List View). map (λ (u : View). u.set) vs) f in
      record {
        counted = e ∙ sym (ap length none);
        paused_is = p;
        long = length-set v s.accepted a ∙ k.long;
        entries =
            ap (λ (i : ℕ). take i (set v s.accepted a)) e
            ∙ sym (take_all n [] (omega arith)) ∙ sym (ap (take n) none);
      }

  -- an accepted call
  result_keeps : (c : Call) → Keeps n (result s c).day (with_call h c (result s c).answer)
      (set v s.accepted (without (shown_by_call c) s.paused))
  result_keeps (open_plan pl) = keeps_opened _ _ _ refl refl refl
  result_keeps (add_campaign t) = keeps_unshown _ _ _ refl refl k.paused_is
  result_keeps start_day = keeps_unshown _ _ _ refl refl k.paused_is
  result_keeps (show_view w) = keeps_shown w _ _ refl refl k.paused_is
  result_keeps (ask_tally i) = keeps_unshown _ _ _ refl refl k.paused_is
  result_keeps close_day = keeps_unshown _ _ _ refl refl k.paused_is
  result_keeps (mark_campaign b i) = keeps_unshown _ _ _ refl refl (ap (marked b i) k.paused_is)

  call_keeps : (c : Call) → Keeps n (call s c).day (entered h (record { made = c; answer = (call s c).answer }))
      (set v s.accepted (without (shown_by_call c) s.paused))
  call_keeps c =
      let a = without (shown_by_call c) s.paused in
      let w = set v s.accepted a in
      call_elim (λ (o : Outcome). Keeps n o.day (entered h (record { made = c; answer = o.answer })) w) s c
      (λ q. subst⁻¹ (λ (g : History). Keeps n s g w) (refused_entered h c q)
      (keeps_unshown a s h refl refl k.paused_is))
      (λ y. rw (eq-eqb (number (result s c).answer) 0 (result_number s c)) (result_keeps c))

  line_keeps : (l : List ℕ)
      → Keeps n (next s l) (stepped h (request_of (reading l)) (outcome s l).answer) (noted s l v)
  unfolding next outcome noted
  line_keeps l = go (request_of (reading l))
    where
      go : (r : Request) → Keeps n (executed s r).day (stepped h r (executed s r).answer)
          (set v s.accepted (without (shown_in r) s.paused))
      go (makes c) = call_keeps c
      go (fails q) = keeps_unshown (without 0 s.paused) s h refl refl k.paused_is

-- Lines.

unfoldable noted_lines : Day → (v : List ℕ) → List (List ℕ) → List ℕ
noted_lines s v [] = v
noted_lines s v (l ∷ ls) = noted_lines (next s l) (noted s l v) ls

lines_keep : (n : ℕ) (ls : List (List ℕ)) (s : Day) (h : History) (v : List ℕ) → Keeps n s h v
    → Keeps n (after_lines s ls) (continued h (exchanges s ls)) (noted_lines s v ls)
unfolding after_lines continued exchanges noted_lines
lines_keep n [] s h v k = k
lines_keep n (l ∷ ls) s h v k =
    let r = request_of (reading l) in
    let a = (outcome s l).answer in
    subst⁻¹ (λ (g : History). Keeps n (after_lines (next s l) ls) g (noted_lines (next s l) (noted s l v) ls))
    (continued_step h r a (exchanges (next s l) ls))
    (lines_keep n ls (next s l) (stepped h r a) (noted s l v) (line_keeps n s h v k l))

blank_keeps : (v : List ℕ) → Keeps (length v) blank (opening blank_plan) v
unfolding blank
blank_keeps v =
    record { counted = refl; paused_is = refl; long = refl; entries = sym (take_all (length v) [] (omega arith)) }

-- a last line
noted_last : (s : Day) (v : List ℕ) (ls : List (List ℕ)) (l : List ℕ)
    → noted_lines s v (ls ++ (l ∷ [])) ≡ noted (after_lines s ls) l (noted_lines s v ls)
unfolding noted_lines after_lines
noted_last s v [] l = refl
noted_last s v (k ∷ ls) l = noted_last (next s k) (noted s k v) ls l

-- Bytes.

cut_noted : (s : Day) (l v : List ℕ) → noted s (take line_buffer l) v ≡ noted s l v
unfolding noted
cut_noted s l v =
    ap (λ (r : Result Record Refusal). set v s.accepted (without (shown_in (request_of r)) s.paused)) (cut_reading l)

recorded_line : (y : Session) (v m : List ℕ)
    → recorded y v (10 ∷ m) ≡ recorded (ended y) (noted y.day y.pending v) m
unfolding recorded
recorded_line y v m =
    ap (λ (z : Session). recorded z (noted y.day y.pending v) m) (byte_end y 10 refl)

recorded_lines : (s : Day) (p v : List ℕ) (ls : List (List ℕ)) (rest : List ℕ) → AllPlain ls → Plain rest
    → recorded (record { day = s; pending = []; output = p }) v (joined ls rest) ≡ noted_lines s v ls
unfolding joined noted_lines
recorded_lines s p v [] rest a e = recorded_plain (record { day = s; pending = []; output = p }) v rest e
recorded_lines s p v (l ∷ ls) rest a e =
    let x : Session = record { day = s; pending = []; output = p } in
    let m = joined ls rest in
    let q = p ++ reply s (take line_buffer l) in
    recorded_append x v l (10 ∷ m)
    ∙ ap₂ (λ (y : Session) (w : List ℕ). recorded y w (10 ∷ m)) (rest_fed x l (omega arith) a.0)
    (recorded_plain x v l a.0)
    ∙ recorded_line (longer x l) v m
    ∙ ap₂ (λ (t : Day) (w : List ℕ). recorded (record { day = t; pending = []; output = q }) w m) (cut_next s l)
    (cut_noted s l v)
    ∙ recorded_lines (next s l) q (noted s l v) ls rest a.1 e

-- The whole input.

take_least : (k : ℕ) (l : List ℕ) → take (min k (length l)) l ≡ take k l
take_least k l = go (leb k (length l)) refl
  where
    go : (t : Bool) → leb k (length l) ≡ t → take (min k (length l)) l ≡ take k l
    go true q = let m : min k (length l) ≡ k = omega (arith, leb-true k (length l) q) in ap (λ (i : ℕ). take i l) m
    go false q =
        let f : length l < k = leb-false k (length l) q in
        let m : min k (length l) ≡ length l = omega arith in
        ap (λ (i : ℕ). take i l) m ∙ take_all (length l) l (omega arith) ∙ sym (take_all k l (omega arith))

-- the state and the pending bytes after an input, and what is recorded of it
module _ (input : List ℕ) (i : Split input) (v : List ℕ) where
  session_is : last_session input
      ≡ record { day = after_lines blank i.lines; pending = take line_buffer i.rest; output = [] }
  session_is =
      ap silent (ap (fed (session blank [] 0)) (sym i.whole)
      ∙ fed_lines blank [] i.lines i.rest i.lines_plain i.rest_plain)

  recorded_is : recorded (session_of new_stream) v input ≡ noted_lines blank v i.lines
  recorded_is =
      ap (recorded (session blank [] 0) v) (sym i.whole)
      ∙ recorded_lines blank [] v i.lines i.rest i.lines_plain i.rest_plain

  views_are : last_views input v ≡ noted (after_lines blank i.lines) i.rest (noted_lines blank v i.lines)
  views_are =
      ap₂ (λ (x : Session) (w : List ℕ). noted x.day x.pending w) session_is recorded_is
      ∙ cut_noted (after_lines blank i.lines) i.rest (noted_lines blank v i.lines)

-- the end, where a rest that has bytes is a last line
end_keeps : (n : ℕ) (ls : List (List ℕ)) (rest v : List ℕ) → Keeps n blank (opening blank_plan) v
    → Keeps n (after_lines blank (ls ++ last_line rest)) (day_of (ls ++ last_line rest))
    (noted (after_lines blank ls) rest (noted_lines blank v ls))
unfolding noted
end_keeps n ls [] v k =
    let s = after_lines blank ls in
    let z = lines_keep n ls blank (opening blank_plan) v k in
    subst⁻¹ (λ (ms : List (List ℕ)). Keeps n (after_lines blank ms) (day_of ms) (noted s [] (noted_lines blank v ls)))
    (append-nil ls)
    (keeps_unshown n s (day_of ls) (noted_lines blank v ls) z _ s (day_of ls) refl refl z.paused_is)
end_keeps n ls (b ∷ l) v k =
    let all = ls ++ ((b ∷ l) ∷ []) in
    subst (λ (w : List ℕ). Keeps n (after_lines blank all) (day_of all) w) (noted_last blank v ls (b ∷ l))
    (lines_keep n all blank (opening blank_plan) v k)

pub any_recording : AnyRecording
any_recording input i v =
    let e = end_keeps (length v) i.lines i.rest v (blank_keeps v) in
    let w = last_views input v in
    let s = after_lines blank (all_lines i) in
    let z : Keeps (length v) s (day_of (all_lines i)) w =
    subst⁻¹ (Keeps (length v) s (day_of (all_lines i))) (views_are input i v) e in
    record {
      day_is = state_at_end input i;
      views_are = take_least s.accepted w ∙ z.entries;
      count_is = z.counted;
    }
