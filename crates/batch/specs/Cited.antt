-- Names for the contracts of inner functions: where a batch of lines stands, and what one line moves.
use Rattle.std.specs.Prelude.{◌≡◌, List, ◌++◌, ℕ, suc, ◌+◌, ◌≤◌, length, take, drop}
use Rattle.buffer.specs.Buffer.{Put}
use Rattle.day.specs.declared.Day.{Day}
use Rattle.reply.specs.Reply.{reply, next}
use Rattle.batch.specs.declared.Cursor.{Cursor}
use Rattle.day.specs.Day.{state_of}
use Rattle.lines.specs.Limits.{line_buffer}
use Rattle.reply.specs.Session.{Session, reply_room, fed, consumed_count, upto}

-- the state, how many bytes of a line are pending, and the places in the input and in the buffer for answers
pub record Position : Type 0 where
  pub day : Day
  pub kept : ℕ
  pub from : ℕ
  pub at : ℕ

abbrev pub position : Cursor → (terms counts : List ℕ) → Position
position c t n = record { day = state_of c.turn.head t n; kept = c.kept; from = c.from; at = c.turn.at }

-- what is held of a line of which the first k bytes of h and the bytes w are known
abbrev pub line_of : (h : List ℕ) → (k : ℕ) → (w : List ℕ) → List ℕ
line_of h k w = take line_buffer (take k h ++ w)

-- a turn from t to r: a line ends in what is left of the input, l; d is the buffer for answers, which became e
pub record Line (t : Position) (h l d e : List ℕ) (r : Position) : Type 0 where
  pub day : r.day ≡ next t.day (line_of h t.kept (take (upto l) l))
  pub kept : r.kept ≡ 0
  pub from : r.from ≡ t.from + suc (upto l)
  pub put : Put d e t.at r.at (reply t.day (line_of h t.kept (take (upto l) l)))
  pub fits : r.at ≤ t.at + reply_room

-- x after the first bytes of l: t says its state and places, h what the line buffer has, and e the answers
pub record Progress (x : Session) (l d : List ℕ) (t : Position) (h e : List ℕ) : Type 0 where
  pub day : t.day ≡ (fed x (take t.from l)).day
  pub pending : take t.kept h ≡ (fed x (take t.from l)).pending
  pub put : Put d e 0 t.at (fed x (take t.from l)).output
  pub taken : consumed_count (length d) x l
      ≡ t.from + consumed_count (length d) (fed x (take t.from l)) (drop t.from l)
  pub inside : t.from ≤ length l
  pub few : t.kept ≤ line_buffer
  pub wide : length h ≡ line_buffer
  pub fits : t.at ≤ length d

-- where a byte is kept, the n bytes of g are the line whose front the k bytes of h are, as much as is held of it; else
-- n and g are free
pub record Completed (h : List ℕ) (k : ℕ) (s g : List ℕ) (n : ℕ) : Type 0 where
  pub some : (k ≡ 0 → ⊥) → take n g ≡ line_of h k s
  pub few : n ≤ line_buffer
  pub wide : length g ≡ line_buffer

-- From p to q all lines of l are answered that end in it, as far as there is room: what stood at p, with the pending
-- bytes g and the answers e, stands at q, with h and f.
pub record Batch (l : List ℕ) (p : Position) (g e : List ℕ) (q : Position) (h f : List ℕ) : Type 0 where
  pub moves : (x : Session) (d : List ℕ) → Progress x l d p g e → Progress x l d q h f
  pub ends : (q.at + reply_room ≤ length f) → upto (drop q.from l) ≡ length (drop q.from l)
  pub inside : q.from ≤ length l
  pub fits : q.at ≤ length f
  pub few : q.kept ≤ line_buffer
  pub wide : length h ≡ line_buffer
