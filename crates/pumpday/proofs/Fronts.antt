-- The front of an input is answered as the first lines of that input are: the lines that end in it are their first, and
-- a line that it breaks off is not answered.
use mathlib.Core.Path.{◌≡◌, refl, sym, ap, ◌∙◌}
use mathlib.Core.List.{List, [], ◌∷◌, ◌++◌, append_assoc}
use Prim.Native.Nat.{ℕ}
use lib.ListN.{length, take}
use lib.Seq.{take-append_seam}
use Rattle.day.specs.Day.{blank}
use Rattle.reply.specs.Session.{Session, fed}
use Rattle.stream.specs.Stream.{new_stream, session, session_of}
use Rattle.stream.specs.Input.{joined, AllPlain, Split, last_line, all_lines, after_lines, replies}
use Rattle.stream.proofs.Chunking.{fed_lines, split}

joined_rest : (ls : List (List ℕ)) (rest b : List ℕ) → joined ls rest ++ b ≡ joined ls (rest ++ b)
unfolding joined
joined_rest [] rest b = refl
joined_rest (l ∷ ls) rest b =
    append_assoc l (10 ∷ joined ls rest) b ∙ ap (λ (m : List ℕ). l ++ (10 ∷ m)) (joined_rest ls rest b)

joined_more : (ls ms : List (List ℕ)) (rest : List ℕ) → joined ls (joined ms rest) ≡ joined (ls ++ ms) rest
unfolding joined
joined_more [] ms rest = refl
joined_more (l ∷ ls) ms rest = ap (λ (m : List ℕ). l ++ (10 ∷ m)) (joined_more ls ms rest)

all_plain_more : (ls ms : List (List ℕ)) → AllPlain ls → AllPlain ms → AllPlain (ls ++ ms)
all_plain_more [] ms a b = b
all_plain_more (l ∷ ls) ms a b = (a.0, all_plain_more ls ms a.1 b)

-- lines stand first, whatever comes behind them
first_lines : (ls ms ns : List (List ℕ)) → take (length ls) ((ls ++ ms) ++ ns) ≡ ls
first_lines ls ms ns = ap (take (length ls)) (append_assoc ls ms ns) ∙ take-append_seam ls (ms ++ ns)

-- the session of a new stream that was fed the bytes a, the front of the input i: it answered so many lines of i
pub record Front (a i : List ℕ) : Type 0 where
  pub input : Split i
  pub answered : ℕ
  pub state_is : (fed (session_of new_stream) a).day ≡ after_lines blank (take answered (all_lines input))
  pub output_is : (fed (session_of new_stream) a).output ≡ replies blank (take answered (all_lines input))

pub front : (a b i : List ℕ) → a ++ b ≡ i → Front a i
front a b i e =
    let v = split a in
    let w = split (v.rest ++ b) in
    let first = sym (first_lines v.lines w.lines (last_line w.rest)) in
    let f = ap (fed (session blank [] 0)) (sym v.whole)
    ∙ fed_lines blank [] v.lines v.rest v.lines_plain v.rest_plain in
    record {
      input = record {
        lines = v.lines ++ w.lines;
        rest = w.rest;
        lines_plain = all_plain_more v.lines w.lines v.lines_plain w.lines_plain;
        rest_plain = w.rest_plain;
        whole =
            sym (joined_more v.lines w.lines w.rest) ∙ ap (joined v.lines) w.whole
            ∙ sym (joined_rest v.lines v.rest b) ∙ ap (λ (m : List ℕ). m ++ b) v.whole ∙ e;
      };
      answered = length v.lines;
      state_is = ap (λ (y : Session). y.day) f ∙ ap (after_lines blank) first;
      output_is = ap (λ (y : Session). y.output) f ∙ ap (replies blank) first;
    }
