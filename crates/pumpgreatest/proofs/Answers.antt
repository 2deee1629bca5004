-- What is told at the end of input. There are more entries than the search takes views, so that it is handed all of the
-- day's own, or so many that it refuses. A day that was read is sound, and its views name campaigns that it has: no
-- other question fails.
use mathlib.Core.Path.{◌≡◌, refl, sym, ap, ap₂, ◌∙◌, subst⁻¹}
use mathlib.Core.Bool.{Bool, true, false, cond}
use mathlib.Core.List.{List, [], ◌∷◌, ◌++◌, map}
use Prim.Native.Nat.{ℕ, zero, suc, ◌+◌, ◌-◌, ◌≤◌, ◌<◌}
use native.Mathlib.Omega.{arith}
use lib.Dec.{leb}
use lib.ListN.{length, take, drop, get_or, length-take, length-drop, length-map}
use lib.Seq.{take_all, length-take-le, take-append_seam, drop-append_seam}
use borrow.Author.Tests.{le-leb, lt-leb, leb-true, leb-false}
use Rattle.finite.specs.Finite.{every}
use Rattle.finite.proofs.Tests.{every_of}
use Rattle.sets.specs.Set.{within}
use Rattle.buffer.specs.Buffer.{Put}
use Rattle.buffer.proofs.Over.{over_part, over_front}
use Rattle.campaigns.specs.declared.View.{View}
use Rattle.day.specs.declared.Day.{Day}
use Rattle.day.specs.Day.{blank, total_takings}
use Rattle.day.proofs.State.{sound_facts}
use Rattle.questions.specs.Questions.{first_failed}
use Rattle.demands.specs.Transcript.{Exchange, final}
use Rattle.floor.specs.History.{History, history}
use Rattle.floor.specs.History.Starts.{from_blank}
use Rattle.floor.specs.Floor.{no_view}
use Rattle.floor.proofs.Reach.{Reached, reached}
use Rattle.allotments.specs.Allotment.{at}
use Rattle.allotments.specs.Limits.{max_handed_in}
use Rattle.optimum.specs.Optimum.{most_of}
use Rattle.stream.specs.Input.{after_lines}
use Rattle.programs.specs.Lines.{calls_of, day_of}
use Rattle.programs.proofs.Lines.{lines_make_calls}
use Rattle.floor.specs.History.{own_views}
use Rattle.std.specs.Prelude.{Ok, Err}
use Rattle.refusal.specs.Refusal.{refusal}
use Rattle.earnings.specs.Earnings.{question_of, earned}
use Rattle.pumpgreatest.specs.Prints.{answer, day_earnings, DayEarned}

-- the bytes that were put, as they stand in the buffer
pub put_stands : {d e : List ℕ} {at to : ℕ} {w : List ℕ} → Put d e at to w → to ≤ length d
    → take (to - at) (drop at e) ≡ w
put_stands {d} {e} {at} {to} {w} p h =
    let front : length (take at d) ≡ at = length-take-le at d (omega (arith, p.next)) in
    let m = drop at d in
    let x = w ++ drop (length w) m in
    let e_is : e ≡ take at d ++ x =
    p.here ∙ sym (over_part d at w (omega (arith, p.next)))
    ∙ ap (λ (l : List ℕ). take at d ++ l) (over_front m w (omega (arith, p.next, length-drop at d))) in
    let n : to - at ≡ length w = omega (arith, p.next) in
    ap₂ (λ (i : ℕ) (l : List ℕ). take i (drop at l)) n e_is
    ∙ ap (λ (i : ℕ). take (length w) (drop i (take at d ++ x))) (sym front)
    ∙ ap (take (length w)) (drop-append_seam (take at d) x)
    ∙ take-append_seam w (drop (length w) m)

-- a day that was read
reached_lines : (ls : List (List ℕ)) → Reached (after_lines blank ls) (day_of ls)
reached_lines ls =
    let o = lines_make_calls blank ls in
    subst⁻¹ (λ (s : Day). Reached s (day_of ls)) o.state_is
    (subst⁻¹ (λ (xs : List Exchange). Reached (final blank (calls_of ls)) (history xs)) o.exchanges_are
    (reached blank (calls_of ls) (from_blank (calls_of ls))))

own_at : (vs : List View) (j : ℕ) → at (map (λ (w : View). w.set) vs) j ≡ (get_or vs j no_view).set
own_at [] j = refl
own_at (v ∷ vs) zero = refl
own_at (v ∷ vs) (suc j) = own_at vs j

-- its questions, where the views are few, and where they are too many
module _ (s : Day) (h : History) (r : Reached s h) where
  all_inside : every (length (own_views h)) (λ j. within s.count (at (own_views h) j)) ≡ true
  all_inside =
      every_of (length (own_views h)) (λ j. within s.count (at (own_views h) j))
      (λ j l. ap (within s.count) (own_at h.views j)
      ∙ r.tracks.inside j (omega (arith, length-map h.views (λ (w : View). w.set))))

  few : length (own_views h) ≤ max_handed_in
      → earned s (own_views h) ≡ Ok (record { takings = total_takings s; greatest = most_of s (own_views h) })
  unfolding earned question_of first_failed
  few l =
      rw (
        r.is_sound,
        le-leb (length (own_views h)) max_handed_in l,
        all_inside,
        le-leb s.count 64 (sound_facts s r.is_sound).few,
      )

  many : (vs : List ℕ) → max_handed_in < length vs → earned s vs ≡ Err (refusal 19)
  unfolding earned question_of first_failed
  many vs l = rw (r.is_sound, lt-leb (length vs) max_handed_in l)

  pub answered : (n : ℕ) → max_handed_in < n → earned s (take n (own_views h)) ≡ answer s (own_views h)
  answered n l = go (leb (length (own_views h)) max_handed_in) refl
    where
      go : (b : Bool) → leb (length (own_views h)) max_handed_in ≡ b
          → earned s (take n (own_views h))
          ≡ cond b (Ok (record { takings = total_takings s; greatest = most_of s (own_views h) }))
          (Err (refusal 19))
      go true e =
          let f = leb-true (length (own_views h)) max_handed_in e in
          ap (earned s) (take_all n (own_views h) (omega arith)) ∙ few f
      go false e =
          let f : max_handed_in < length (own_views h) = leb-false (length (own_views h)) max_handed_in e in
          many (take n (own_views h)) (omega (arith, length-take n (own_views h)))

pub lines_answered : (ls : List (List ℕ)) (n : ℕ) → max_handed_in < n
    → earned (after_lines blank ls) (take n (own_views (day_of ls))) ≡ day_earnings ls
lines_answered ls n l = answered (after_lines blank ls) (day_of ls) (reached_lines ls) n l

pub day_earned : DayEarned
day_earned ls =
    let v = own_views (day_of ls) in
    let n = suc (max_handed_in + length v) in
    ap (earned (after_lines blank ls)) (sym (take_all n v (omega arith))) ∙ lines_answered ls n (omega arith)
