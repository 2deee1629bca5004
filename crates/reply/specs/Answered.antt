-- Every line is answered, whatever it is and whatever the state: as its call is, or by the refusal of its reading; by
-- lines of output forms with numbers in their ranges, which read back as the records that the answer is, begin with its
-- word and show its values. Input forms make the calls that their words name and hand them their numbers, output forms
-- get 17.
use Rattle.std.specs.Prelude.{◌≡◌, true, false, List, [], ◌∷◌, ℕ, suc, ◌≤◌, ◌<◌, length, take, drop, get_or}
use Rattle.std.specs.Prelude.{Ok, Err}
use Rattle.refusal.specs.Refusal.{refusal}
use Rattle.lines.specs.declared.Record.{Record}
use Rattle.lines.specs.declared.Record.TheVariants.{Done, Tally}
use Rattle.lines.specs.Limits.{max_question}
use Rattle.lines.specs.Form.{bytes, numbers, is_output, text, in_range}
use Rattle.lines.specs.Reading.{reading}
use Rattle.day.specs.declared.Answer.{Answer}
use Rattle.day.specs.declared.Answer.TheVariants.{Refused as refusing, Done as done, Played as played}
use Rattle.day.specs.declared.Answer.TheVariants.{Nobody as no_one, Tallied as tallied, Closing as closing}
use Rattle.day.specs.declared.Day.{Day}
use Rattle.day.specs.Day.{campaign}
use Rattle.day.specs.Calls.{Call, values, refused, call}
use Rattle.day.specs.Calls.Call.{open_plan, add_campaign, start_day, show_view, ask_tally, close_day, mark_campaign}
use Rattle.reply.specs.Reply.{request, outcome, reply_records, reply, next}
use Rattle.reply.specs.Reply.Request.{makes, fails}
use Rattle.reply.specs.Session.{upto, first_line}

-- the first line of w, without its byte 10, is read as r, an output form whose numbers are in their ranges
pub record OutputLine (w : List ℕ) (r : Record) : Type 0 where
  pub output : is_output r ≡ true
  pub ranged : in_range r ≡ true
  pub reads : reading (first_line w) ≡ Ok r
  pub ends : get_or w (upto w) 0 ≡ 10

-- the lines of w, and nothing else, are such lines of these records
abbrev pub OutputLines : List ℕ → List Record → Type 0
OutputLines w [] = w ≡ []
OutputLines w (r ∷ rs) = OutputLine w r × OutputLines (drop (suc (upto w)) w) rs

-- the text l begins with the bytes w
abbrev pub Prefix : (w l : List ℕ) → Type 0
Prefix w l = take (length w) l ≡ w

-- the word that begins the answer; a tally alone is asked for by no line
abbrev pub answer_word : Answer → List ℕ
answer_word (refusing q) = bytes "(refused "
answer_word done = bytes "(ok)"
answer_word (played i p) = bytes "(play "
answer_word no_one = bytes "(nobody)"
answer_word (tallied p t a n) = bytes "(tally "
answer_word (closing t c f) = bytes "(closed "

pub record Answered (s : Day) (l : List ℕ) : Type 0 where
  -- a line that is read as a record which makes a call hands back what the call does; one that makes none, or that is
  -- not read, its number and the unchanged state
  pub call_is : (r : Record) (c : Call) → reading l ≡ Ok r → request r ≡ makes c → outcome s l ≡ call s c
  pub no_call : (r : Record) (q : ℕ) → reading l ≡ Ok r → request r ≡ fails q → outcome s l ≡ refused s q
  pub unread : (q : ℕ) → reading l ≡ Err (refusal q) → outcome s l ≡ refused s q
  -- every refusal leaves the state; its number runs from 1 to the highest that the papers give
  pub refusal_is : (q : ℕ) → (outcome s l).answer ≡ refusing q → (next s l ≡ s) × (1 ≤ q) × (q ≤ max_question)
  pub lines_are : OutputLines (reply s l) (reply_records (outcome s l))
  pub word_is : Prefix (answer_word (outcome s l).answer) (reply s l)
  -- the first shows the answer's values: a refusal's number, the player and the price, or takings, claim and full
  pub values_are : numbers (get_or (reply_records (outcome s l)) 0 Done) ≡ values (outcome s l).answer
  -- it is the only line, but on an accepted closing there is one more for each campaign
  pub one_line : ((t c f : ℕ) → (outcome s l).answer ≡ closing t c f → ⊥) → length (reply_records (outcome s l)) ≡ 1
  pub count_is : (t c f : ℕ) → (outcome s l).answer ≡ closing t c f
      → length (reply_records (outcome s l)) ≡ suc (next s l).count
  -- its tally, in number order
  pub tallies_are : (t c f : ℕ) → (outcome s l).answer ≡ closing t c f → (i : ℕ) → i < (next s l).count
      → get_or (reply_records (outcome s l)) (suc i) Done
      ≡ Tally i (campaign (next s l) i).plays (campaign (next s l) i).turns (campaign (next s l) i).age
      (campaign (next s l) i).named

abbrev pub AnswersEach : Type 0
AnswersEach = (s : Day) (l : List ℕ) → Answered s l

-- the program answers each of the six output forms with 17
abbrev pub OutputRefused : Type 0
OutputRefused = (r : Record) → is_output r ≡ true → request r ≡ fails 17

-- the numbers that a call is handed
abbrev pub call_numbers : Call → List ℕ
call_numbers (open_plan pl) = pl.depth ∷ pl.width ∷ []
call_numbers (add_campaign t) = t.price ∷ t.budget ∷ []
call_numbers start_day = []
call_numbers (show_view w) = w.set ∷ []
call_numbers (ask_tally i) = i ∷ []
call_numbers close_day = []
call_numbers (mark_campaign b i) = i ∷ []

-- the word that begins a line which makes it; no line asks for one tally
abbrev pub call_word : Call → List ℕ
call_word (open_plan pl) = bytes "(plan "
call_word (add_campaign t) = bytes "(campaign "
call_word start_day = bytes "(start)"
call_word (show_view w) = bytes "(view"
call_word (ask_tally i) = bytes "(tally "
call_word close_day = bytes "(close)"
call_word (mark_campaign true i) = bytes "(pause "
call_word (mark_campaign false i) = bytes "(resume "

-- each of the seven input forms makes the call that its word names, and hands it the numbers that stand in the line
abbrev pub InputCalls : Type 0
InputCalls =
    (r : Record) → is_output r ≡ false
    → (c : Call) × (request r ≡ makes c) × (call_numbers c ≡ numbers r) × Prefix (call_word c) (text r)
