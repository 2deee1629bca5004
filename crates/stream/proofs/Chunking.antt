-- A stream that is handed an input in any blocks writes the answers to its lines, and ends with the state after them.
use mathlib.Core.Path.{◌≡◌, refl, sym, ap, ap₂, ◌∙◌, subst, subst⁻¹}
use mathlib.Core.Bool.{Bool, true, false, cond}
use mathlib.Core.List.{List, [], ◌∷◌, ◌++◌, append_assoc, append-nil}
use Prim.Native.Nat.{ℕ, suc, ◌+◌, ◌-◌, ◌≤◌}
use native.Mathlib.Omega.{arith}
use lib.Dec.{leb, eqb}
use lib.ListN.{length, take, drop, replicate, take-append-drop, length-append}
use lib.Seq.{take-append_seam, drop-append_seam, take_all}
use borrow.Author.Tests.{eqb-true, le-leb, lt-leb}
use Rattle.day.specs.declared.Day.{Day}
use Rattle.day.specs.Day.{blank}
use Rattle.reply.specs.Reply.{reply, next}
use Rattle.lines.specs.Limits.{line_buffer}
use Rattle.reply.specs.Session.{Session, reply_room, longer, ended, after_byte, fed, consumed_count, upto}
use Rattle.reply.proofs.Sessions.{cut_reply, cut_next, fed_append, byte_plain, byte_end}
use Rattle.stream.specs.declared.feed.Stream.{Stream}
use Rattle.stream.specs.declared.feed.Fed.{Fed}
use Rattle.stream.specs.Input.{joined, Plain, AllPlain, Split, last_line, all_lines, after_lines, replies}
use Rattle.stream.specs.Stream.{finished, session, new_stream, session_of, silent, handed_back}
use Rattle.stream.specs.Stream.{ComesTo, Feeds, Finishes}
use Rattle.stream.specs.Chunking.{Feeding, InBlocks, stream_after, all_written, all_output}
use Rattle.stream.specs.Chunking.{LastLineCounts, AnyInput, AlwaysSplit, RoomForAll, NoRoomStays}
use Rattle.stream.specs.Chunking.{KeepsBehind, AlwaysKeepsBehind, AnyChunking}
use Rattle.batch.proofs.Rests.{rest_fed}

abbrev pub with_said : Session → List ℕ → Session
with_said x w = record { day = x.day; pending = x.pending; output = w }

-- what was said before stays in front
pub fed_said : (x : Session) (l : List ℕ) → fed x l ≡ with_said (fed (silent x) l)
    (x.output ++ (fed (silent x) l).output)
unfolding fed
fed_said x [] = ap (with_said x) (sym (append-nil x.output))
fed_said x (b ∷ l) = go (eqb b 10) refl (fed_said (ended x) l) (fed_said (ended (silent x)) l)
    (fed_said (longer x (b ∷ [])) l)
  where
    go : (t : Bool) → eqb b 10 ≡ t
        → fed (ended x) l ≡ with_said (fed (silent (ended x)) l)
        ((x.output ++ reply x.day x.pending) ++ (fed (silent (ended x)) l).output)
        → fed (ended (silent x)) l ≡ with_said (fed (silent (ended x)) l)
        (reply x.day x.pending ++ (fed (silent (ended x)) l).output)
        → fed (longer x (b ∷ [])) l ≡ with_said (fed (silent (longer x (b ∷ []))) l)
        (x.output ++ (fed (silent (longer x (b ∷ []))) l).output)
        → fed (after_byte x b) l ≡ with_said (fed (after_byte (silent x) b) l)
        (x.output ++ (fed (after_byte (silent x) b) l).output)
    go true e p q r =
        let f : fed (after_byte (silent x) b) l ≡ with_said (fed (silent (ended x)) l)
        (reply x.day x.pending ++ (fed (silent (ended x)) l).output) =
        ap (λ (y : Session). fed y l) (byte_end (silent x) b (eqb-true b 10 e)) ∙ q in
        ap (λ (y : Session). fed y l) (byte_end x b (eqb-true b 10 e))
        ∙ p
        ∙ ap (with_said (fed (silent (ended x)) l)) (append_assoc x.output (reply x.day x.pending)
        (fed (silent (ended x)) l).output)
        ∙ sym (ap (λ (y : Session). with_said y (x.output ++ y.output)) f)
    go false e p q r =
        ap (λ (y : Session). fed y l) (byte_plain x b e)
        ∙ r
        ∙ sym (ap (λ (y : Session). with_said (fed y l) (x.output ++ (fed y l).output)) (byte_plain (silent x) b e))

-- so it does at the end of input
pub finished_said : (x : Session) → (finished x).output ≡ x.output ++ (finished (silent x)).output
unfolding finished
finished_said x = refl

pub output_said : (x : Session) (l : List ℕ) → all_output x l ≡ x.output ++ all_output (silent x) l
unfolding finished
output_said x l =
    let y = fed (silent x) l in
    ap (λ (z : Session). (finished z).output) (fed_said x l)
    ∙ append_assoc x.output y.output (replies y.day (last_line y.pending))

day_said : (x : Session) (l : List ℕ) → (finished (fed x l)).day ≡ (finished (fed (silent x) l)).day
unfolding finished
day_said x l = ap (λ (y : Session). (finished y).day) (fed_said x l)

-- In blocks.

-- what is put at the front is what was said
pub front_said : {y : Session} {n : ℕ} {d e : List ℕ} {r : Fed} → ComesTo y n d e r → take r.written e ≡ y.output
front_said {y} {n} {d} h =
    ap₂ (λ (b : Fed) (l : List ℕ). take b.written l) h.back_is h.out_is
    ∙ take-append_seam y.output (drop (length y.output) d)

-- the next block begins where the last one left off, its answers handed over
pub session_next : {y : Session} {n : ℕ} {d e : List ℕ} {r : Fed} → ComesTo y n d e r → session_of r.stream
    ≡ silent y
session_next {y} h =
    ap (λ (b : Fed). session_of b.stream) h.back_is
    ∙ ap (λ (l : List ℕ). record { day = y.day; pending = l; output = [] })
    (take-append_seam y.pending (replicate (line_buffer - length y.pending) 0))

-- places lie inside
pub count_inside : (n : ℕ) (x : Session) (l : List ℕ) → consumed_count n x l ≤ length l
unfolding consumed_count
count_inside n x [] = omega arith
count_inside n x (b ∷ l) = go (leb (length x.output + reply_room) n) (count_inside n (after_byte x b) l)
  where
    go : (t : Bool) {m : ℕ} → m ≤ length l → cond t (suc m) 0 ≤ suc (length l)
    go true h = omega arith
    go false h = omega arith

pub taken_inside : (k : Stream) (l d e : List ℕ) (r : Fed) → Feeds k l d e r → r.consumed ≤ length l
taken_inside k l d e r h =
    let c = ap (λ (b : Fed). b.consumed) h.back_is in
    omega (arith, c, count_inside (length d) (session_of k) l)

pub written_inside : {y : Session} {n : ℕ} {d e : List ℕ} {r : Fed} → ComesTo y n d e r → r.written ≤ length e
written_inside {y} {n} {d} h =
    let w = ap (λ (b : Fed). b.written) h.back_is in
    let e = ap length h.out_is in
    omega (arith, w, e, length-append y.output (drop (length y.output) d))

-- the end of input, with room for the longest answer
pub last_comes : (k : Stream) (d e : List ℕ) (r : Fed) → reply_room ≤ length d → Finishes k d e r
    → ComesTo (finished (session_of k)) 0 d e r
last_comes k d e r room f =
    subst (λ (b : Bool). ComesTo (cond b (finished (session_of k)) (session_of k)) 0 d e r)
    (le-leb reply_room (length d) room) f

-- the first of the blocks: what the stream comes to, and what is left of the input
module _ (k : Stream) (f : Feeding) where
  abbrev come : Session
  come = fed (session_of k) (take f.back.consumed f.block)

  abbrev left : List ℕ
  left = drop f.back.consumed f.block ++ f.later

  comes : Feeds k f.block f.before f.after f.back
      → ComesTo come f.back.consumed f.before f.after f.back
  comes h =
      subst⁻¹ (λ (i : ℕ). ComesTo (fed (session_of k) (take i f.block)) i f.before f.after f.back)
      (ap (λ (b : Fed). b.consumed) h.back_is) h

  left_follows : (l : List ℕ) → l ≡ f.block ++ f.later → fed (session_of k) l ≡ fed come left
  left_follows l e =
      let n = f.back.consumed in
      ap (fed (session_of k)) (e ∙ ap (λ (w : List ℕ). w ++ f.later) (sym (take-append-drop n f.block))
      ∙ append_assoc (take n f.block) (drop n f.block) f.later)
      ∙ fed_append (session_of k) (take n f.block) left

-- with the end of input, all that is written is what the whole input says, and the state is that at its end
module _ (d e : List ℕ) (r : Fed) (room : reply_room ≤ length d) where
  all_written_is : (k : Stream) (l : List ℕ) (fs : List Feeding) → InBlocks k l fs → Finishes (stream_after k fs) d e r
      → all_written fs ++ take r.written e ≡ all_output (session_of k) l
  unfolding fed
  all_written_is k l [] t h =
      front_said (last_comes k d e r room h) ∙ ap (all_output (session_of k)) (sym t)
  all_written_is k l (f ∷ fs) t h =
      let o = comes k f t.1 in
      append_assoc (take f.back.written f.after) (all_written fs) (take r.written e)
      ∙ ap₂ ◌++◌ (front_said o) (all_written_is f.back.stream (left k f) fs t.2 h
      ∙ ap (λ (s : Session). all_output s (left k f)) (session_next o))
      ∙ sym (output_said (come k f) (left k f))
      ∙ sym (ap (λ (s : Session). (finished s).output) (left_follows k f l t.0))

  state_left_is : (k : Stream) (l : List ℕ) (fs : List Feeding) → InBlocks k l fs → Finishes (stream_after k fs) d e r
      → r.stream.day ≡ (finished (fed (session_of k) l)).day
  unfolding fed
  state_left_is k l [] t h =
      ap (λ (b : Fed). b.stream.day) (last_comes k d e r room h).back_is
      ∙ ap (λ (m : List ℕ). (finished (fed (session_of k) m)).day) (sym t)
  state_left_is k l (f ∷ fs) t h =
      state_left_is f.back.stream (left k f) fs t.2 h
      ∙ ap (λ (s : Session). (finished (fed s (left k f))).day) (session_next (comes k f t.1))
      ∙ sym (day_said (come k f) (left k f))
      ∙ sym (ap (λ (s : Session). (finished s).day) (left_follows k f l t.0))

-- As lines.

-- a line and its byte 10
line_said : (s : Day) (p l : List ℕ) → Plain l → fed (record { day = s; pending = []; output = p }) (l ++ (10 ∷ []))
    ≡ record { day = next s l; pending = []; output = p ++ reply s l }
unfolding fed
line_said s p l e =
    let x : Session = record { day = s; pending = []; output = p } in
    fed_append x l (10 ∷ [])
    ∙ ap (λ (y : Session). fed y (10 ∷ [])) (rest_fed x l (omega arith) e)
    ∙ byte_end (longer x l) 10 refl
    ∙ ap (λ (d : Day). record { day = d; pending = []; output = p ++ reply s (take line_buffer l) }) (cut_next s l)
    ∙ ap (λ (w : List ℕ). record { day = next s l; pending = []; output = p ++ w }) (cut_reply s l)

-- the whole input: each line is answered as the whole line is, and of the rest at most `line_buffer` bytes are held
pub fed_lines : (s : Day) (p : List ℕ) (ls : List (List ℕ)) (rest : List ℕ) → AllPlain ls → Plain rest
    → fed (record { day = s; pending = []; output = p }) (joined ls rest)
    ≡ record { day = after_lines s ls; pending = take line_buffer rest; output = p ++ replies s ls }
unfolding joined after_lines replies
fed_lines s p [] rest a e = rest_fed (record { day = s; pending = []; output = p }) rest (omega arith) e
    ∙ ap (λ (w : List ℕ). record { day = s; pending = take line_buffer rest; output = w }) (sym (append-nil p))
fed_lines s p (l ∷ ls) rest a e =
    let x : Session = record { day = s; pending = []; output = p } in
    ap (fed x) (sym (append_assoc l (10 ∷ []) (joined ls rest)))
    ∙ fed_append x (l ++ (10 ∷ [])) (joined ls rest)
    ∙ ap (λ (y : Session). fed y (joined ls rest)) (line_said s p l a.0)
    ∙ fed_lines (next s l) (p ++ reply s l) ls rest a.1 e
    ∙ ap (λ (w : List ℕ). record { day = after_lines (next s l) ls; pending = take line_buffer rest; output = w })
    (append_assoc p (reply s l) (replies (next s l) ls))

-- lines and then lines
after_append : (s : Day) (ls ms : List (List ℕ)) → after_lines (after_lines s ls) ms ≡ after_lines s (ls ++ ms)
unfolding after_lines
after_append s [] ms = refl
after_append s (l ∷ ls) ms = after_append (next s l) ls ms

pub replies_append : (s : Day) (ls ms : List (List ℕ)) → replies s ls ++ replies (after_lines s ls) ms
    ≡ replies s (ls ++ ms)
unfolding after_lines replies
replies_append s [] ms = refl
replies_append s (l ∷ ls) ms =
    append_assoc (reply s l) (replies (next s l) ls) (replies (after_lines (next s l) ls) ms)
    ∙ ap (λ (w : List ℕ). reply s l ++ w) (replies_append (next s l) ls ms)

-- the end of input: a last line of which at most `line_buffer` bytes are held is answered as the whole
last_cut : (s : Day) (rest : List ℕ)
    → (after_lines s (last_line (take line_buffer rest)) ≡ after_lines s (last_line rest))
    × (replies s (last_line (take line_buffer rest)) ≡ replies s (last_line rest))
unfolding after_lines replies
last_cut s [] = (refl, refl)
last_cut s (b ∷ l) = (cut_next s (b ∷ l), ap (λ (w : List ℕ). w ++ []) (cut_reply s (b ∷ l)))

-- the session at the end of an input
pub any_input : AnyInput
unfolding finished
any_input s input i =
    let c = last_cut (after_lines s i.lines) i.rest in
    ap (λ (m : List ℕ). finished (fed (session s [] 0) m)) (sym i.whole)
    ∙ ap finished (fed_lines s [] i.lines i.rest i.lines_plain i.rest_plain)
    ∙ ap₂ (λ (x : Day) (w : List ℕ). record { day = x; pending = []; output = w })
    (c.0 ∙ after_append s i.lines (last_line i.rest))
    (ap (λ (w : List ℕ). replies s i.lines ++ w) c.1 ∙ replies_append s i.lines (last_line i.rest))

-- that of a new stream: its answers, and its state
pub output_at_end : (input : List ℕ) (i : Split input) → all_output (session_of new_stream) input
    ≡ replies blank (all_lines i)
output_at_end input i = ap (λ (y : Session). y.output) (any_input blank input i)

pub state_at_end : (input : List ℕ) (i : Split input) → (finished (silent (fed (session_of new_stream) input))).day
    ≡ after_lines blank (all_lines i)
unfolding finished
state_at_end input i = ap (λ (y : Session). y.day) (any_input blank input i)

-- the end of input, by what is pending
ends : (d : Day) (l w : List ℕ) → let x : Session = record { day = d; pending = l; output = w } in
    (l ≡ [] → finished x ≡ x) × ((l ≡ [] → ⊥) → finished x ≡ fed x (10 ∷ []))
unfolding finished after_lines replies fed after_byte
ends d [] w =
    (λ z. ap (λ (u : List ℕ). record { day = d; pending = []; output = u }) (append-nil w), λ n. absurd (n refl))
ends d (b ∷ l) w = (
  λ z. absurd (omega (arith, ap length z)),
  λ n. ap (λ (u : List ℕ). record { day = next d (b ∷ l); pending = []; output = w ++ u })
      (append-nil (reply d (b ∷ l))),
)

pub last_line_counts : LastLineCounts
last_line_counts x = ends x.day x.pending x.output

-- bytes that are kept are as bytes that come first
kept_first : (s : Day) (p l : List ℕ) → Plain p → length p ≤ line_buffer
    → fed (record { day = s; pending = p; output = [] }) l ≡ fed (session s [] 0) (p ++ l)
kept_first s p l plain short =
    let x = session s [] 0 in
    let held : fed x p ≡ record { day = s; pending = p; output = [] } =
    rest_fed x p (omega arith) plain
    ∙ ap (λ (w : List ℕ). record { day = s; pending = w; output = [] }) (take_all line_buffer p short) in
    ap (λ (y : Session). fed y l) (sym held) ∙ sym (fed_append x p l)

pub any_chunking : AnyChunking
any_chunking k input fs t d e r room h plain short i =
    let p = take k.kept k.pending in
    let end = ap finished (kept_first k.day p input plain short) ∙ any_input k.day (p ++ input) i in (
      all_written_is d e r room k input fs t h ∙ ap (λ (y : Session). y.output) end,
      state_left_is d e r room k input fs t h ∙ ap (λ (y : Session). y.day) end,
    )

-- without room for the longest answer nothing is done at the end of input
pub no_room_stays : NoRoomStays
no_room_stays k d e r short h =
    let x = session_of k in
    let o : ComesTo x 0 d e r =
    subst (λ (b : Bool). ComesTo (cond b (finished x) x) 0 d e r) (lt-leb reply_room (length d) short) h in
    let back = o.back_is in (
      ap (λ (b : Fed). b.stream) back,
      ap (λ (b : Fed). b.consumed) back,
      ap (λ (b : Fed). b.written) back,
      o.out_is,
    )

-- what stands behind the answers, and behind the bytes kept
behind : {y : Session} {n : ℕ} {d e : List ℕ} {r : Fed} → ComesTo y n d e r → KeepsBehind d e r
behind {y} {n} {d} {e} {r} h =
    subst⁻¹ (KeepsBehind d e) h.back_is (subst⁻¹ (λ (o : List ℕ). KeepsBehind d o (handed_back y n)) h.out_is
    (record {
      buffer_stays = drop-append_seam y.output (drop (length y.output) d);
      zeros_behind = drop-append_seam y.pending (replicate (line_buffer - length y.pending) 0);
    }))

pub always_keeps_behind : AlwaysKeepsBehind
always_keeps_behind k d e r = (λ l h. behind h, behind)

-- with room for all answers every byte is taken
answers_grow : (x : Session) (l : List ℕ) → length x.output ≤ length (fed x l).output
answers_grow x l =
    let same = ap (λ (y : Session). length y.output) (fed_said x l) in
    omega (arith, same, length-append x.output (fed (silent x) l).output)

pub room_for_all : RoomForAll
unfolding consumed_count fed
room_for_all n x [] h = refl
room_for_all n x (b ∷ l) h =
    rw (le-leb (length x.output + reply_room) n (omega (arith, h, answers_grow x (b ∷ l))))
    (ap suc (room_for_all n (after_byte x b) l h))

-- and every input is lines and a rest
plain_cons : (b : ℕ) (l : List ℕ) → eqb b 10 ≡ false → Plain l → Plain (b ∷ l)
unfolding upto
plain_cons b l e h = rw e (ap suc h)

pub plain_nil : Plain []
unfolding upto
plain_nil = refl

more_byte : (b : ℕ) (l : List ℕ) → eqb b 10 ≡ false → (ls : List (List ℕ)) (rest : List ℕ) → AllPlain ls → Plain rest
    → joined ls rest ≡ l → Split (b ∷ l)
unfolding joined
more_byte b l e [] rest a h w = record {
  lines = [];
  rest = b ∷ rest;
  lines_plain = tt;
  rest_plain =
      plain_cons b rest e h;
  whole = ap (λ (m : List ℕ). b ∷ m) w;
}
more_byte b l e (k ∷ ls) rest a h w = record {
  lines = (b ∷ k) ∷ ls;
  rest = rest;
  lines_plain =
      (plain_cons b k e a.0, a.1);
  rest_plain = h;
  whole = ap (λ (m : List ℕ). b ∷ m) w;
}

end_line : (b : ℕ) (l : List ℕ) → b ≡ 10 → Split l → Split (b ∷ l)
unfolding joined
end_line b l e s = record {
  lines = [] ∷ s.lines;
  rest = s.rest;
  lines_plain =
      (plain_nil, s.lines_plain);
  rest_plain = s.rest_plain;
  whole =
      ap (λ (m : List ℕ). 10 ∷ m) s.whole ∙ ap (λ (c : ℕ). c ∷ l) (sym e);
}

pub split : AlwaysSplit
unfolding joined
split [] = record { lines = []; rest = []; lines_plain = tt; rest_plain = plain_nil; whole = refl }
split (b ∷ l) = go (eqb b 10) refl (split l)
  where
    go : (t : Bool) → eqb b 10 ≡ t → Split l → Split (b ∷ l)
    go true e s = end_line b l (eqb-true b 10 e) s
    go false e s = more_byte b l e s.lines s.rest s.lines_plain s.rest_plain s.whole
