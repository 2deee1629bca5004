-- The page of the state at an input's end. Every line keeps a state sound, so that the page is never refused.
use mathlib.Core.Path.{◌≡◌, sym, ap, ap₂, ◌∙◌, subst}
use mathlib.Core.Bool.{true, false}
use mathlib.Core.List.{List, [], ◌∷◌}
use Prim.Native.Nat.{ℕ, ◌≤◌}
use native.Mathlib.Omega.{arith}
use lib.ListN.{length, take, drop, length-append}
use lib.Seq.{take-append_seam}
use Rattle.std.specs.Prelude.{Some}
use Rattle.finite.proofs.Tests.{never}
use Rattle.day.specs.declared.Day.{Day}
use Rattle.day.specs.Day.{blank, sound}
use Rattle.demands.proofs.Sound.{blank_sound}
use Rattle.reply.specs.Reply.{next}
use Rattle.reply.specs.Session.{Session, reply_room, fed}
use Rattle.reply.proofs.Ranges.{next_sound}
use Rattle.stream.specs.declared.feed.Stream.{Stream}
use Rattle.stream.specs.declared.feed.Fed.{Fed}
use Rattle.stream.specs.Stream.{finished, new_stream, session, session_of, Finishes}
use Rattle.stream.specs.Input.{last_line, after_lines, Split}
use Rattle.stream.proofs.Chunking.{last_comes, fed_lines, split, state_at_end}
use Rattle.wire.specs.Wires.{counted_on, input_of}
use Rattle.refusal.specs.declared.Refusal.{Refusal}
use Rattle.std.specs.Prelude.{Result, Ok, Err}
use Rattle.page.specs.Printing.{page_of, printing, printed}
use Rattle.page.proofs.Printed.{prints, stands}
use Rattle.teller.specs.declared.Teller.{Teller}
use Rattle.teller.specs.Telling.{Heard}
use Rattle.pumppage.specs.declared.told.Page.{Page}
use Rattle.pumppage.specs.declared.Reader.{Reader}
use Rattle.pumppage.specs.Telling.{Told}
use Rattle.pumppage.specs.Prints.{end_state, Prints}
use Rattle.pumppage.specs.Cited.{Took}

-- Every line keeps a state sound.

lines_sound : (s : Day) (ls : List (List ℕ)) → sound s ≡ true → sound (after_lines s ls) ≡ true
unfolding after_lines
lines_sound s [] h = h
lines_sound s (l ∷ ls) h = lines_sound (next s l) ls (next_sound s l h)

finished_sound : (x : Session) → sound x.day ≡ true → sound (finished x).day ≡ true
unfolding finished
finished_sound x h = lines_sound x.day (last_line x.pending) h

-- The page at the end: the state f of a stream k that has finished, and what printing it gave.

module _ (k : Stream) (d d₁ d₂ : List ℕ) (r : Fed) (room : reply_room ≤ length d) (h : sound k.day ≡ true)
    (f : Finishes k d d₁ r) (same : length d₁ ≡ length d) where
  last_day : r.stream.day ≡ (finished (session_of k)).day
  last_day = ap (λ (b : Fed). b.stream.day) (last_comes k d d₁ r room f).back_is

  last_sound : sound r.stream.day ≡ true
  last_sound = ap sound last_day ∙ finished_sound (session_of k) h

  module _ (x : Result ℕ Refusal) (p : (x ≡ printing r.stream.day d₁) × (d₂ ≡ printed r.stream.day d₁)) where
    printed_length : x ≡ Ok (length (page_of r.stream.day))
    printed_length = p.0 ∙ prints r.stream.day d₁ last_sound (omega (arith, same, room))

    -- the page stands at the front
    pub page_front : (n : ℕ) → x ≡ Ok n → take n d₂ ≡ page_of r.stream.day
    page_front n e =
        let s = r.stream.day in
        let m : n ≡ length (page_of s) = let z = printed_length in cc in
        ap₂ take m (p.1 ∙ stands s d₁ last_sound (omega (arith, same, room)))
        ∙ take-append_seam (page_of s) (drop (length (page_of s)) d₁)

    pub page_inside : (n : ℕ) → x ≡ Ok n → n ≤ length d₂
    page_inside n e =
        let s = r.stream.day in
        let m : n ≡ length (page_of s) = let z = printed_length in cc in
        let g = p.1 ∙ stands s d₁ last_sound (omega (arith, same, room)) in
        omega (arith, ap length g, length-append (page_of s) (drop (length (page_of s)) d₁))

    pub never_refused : (q : Refusal) → x ≡ Err q → ⊥
    never_refused q e = let z = printed_length in let y : ◌≡◌ {A = ℕ} 0 1 = cc in omega arith

fed_sound : (i : List ℕ) → sound (fed (session_of new_stream) i).day ≡ true
fed_sound i =
    let v = split i in
    let f = ap (fed (session blank [] 0)) (sym v.whole)
    ∙ fed_lines blank [] v.lines v.rest v.lines_plain v.rest_plain in
    ap (λ (y : Session). sound y.day) f ∙ lines_sound blank v.lines blank_sound

-- A whole run: what was heard led from a new stream to k.
module _ {n m : Reader} {w : Teller Page} (h : Heard (λ k l m. Took k.stream l m.stream) n m w)
    (new : n.stream ≡ new_stream) where
  abbrev input : List ℕ
  input = input_of h.blocks

  took : Took new_stream input m.stream
  took = subst (λ (k : Stream). Took k input m.stream) new h.took_is

  pub now_sound : sound m.stream.day ≡ true
  now_sound = ap (λ (x : Session). sound x.day) took ∙ fed_sound input

  -- the input has not ended, or a read failed
  pub ran_untold : (w.wire.failed ≡ false → w.wire.ended ≡ true → ⊥) → Prints w
  ran_untold never = record {
    blocks = h.blocks;
    none_empty = h.none_empty;
    input = split input;
    got_is = h.got_is;
    ended_is = λ f i. h.ended_is i;
    day_is = λ f e. absurd (never f e);
    told_is = λ f e. absurd (never f e);
    none_told = λ f. h.none_told;
    none_told_yet = λ f. h.none_told;
  }

  -- the input has ended, and its page was told
  pub ran_through : w.wire.failed ≡ false → w.wire.ended ≡ true → {u : Teller Page}
      → Told w (finished (session_of m.stream)).day u → Prints u
  ran_through s e {u} q =
      let i : Split input = split input in
      let state : (finished (session_of m.stream)).day ≡ end_state i =
      ap (λ (x : Session). (finished x).day) took ∙ state_at_end input i in
      record {
        blocks = h.blocks;
        none_empty = h.none_empty;
        input = i;
        got_is = q.writes.got_is ∙ h.got_is;
        ended_is = λ f j. q.writes.ended_is ∙ e;
        day_is = λ f j. q.told_is ∙ ap (λ (x : Day). Some (record { day = x })) state;
        told_is = λ f j. q.writes.told_is ∙ ap₂ (λ (a : ℕ) (x : Day). counted_on a (page_of x)) h.none_told state;
        none_told = λ f. absurd (never u.wire.failed (q.writes.failed_is ∙ s) f);
        none_told_yet = λ f. absurd (never u.wire.ended f (q.writes.ended_is ∙ e));
      }
