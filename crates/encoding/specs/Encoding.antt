-- Statuses, heads, answers, records and streams as words: the one definition of each encoding.
use Rattle.std.specs.Prelude.{Bool, cond, ◌&&◌, ◌||◌, List, [], ◌∷◌, ◌++◌, ℕ, leb, ltb, eqb, length, get_or, take}
use Rattle.std.specs.Prelude.{drop, replicate}
use Rattle.campaigns.specs.declared.Head.{Head}
use Rattle.campaigns.specs.declared.Phase.{Phase}
use Rattle.campaigns.specs.declared.Phase.TheVariants.{Filling, Running, Closed}
use Rattle.day.specs.declared.Answer.{Answer}
use Rattle.day.specs.declared.Answer.TheVariants.{Refused, Done, Played, Nobody, Tallied, Closing}
use Rattle.day.specs.Calls.{values}
use Rattle.lines.specs.declared.Record.{Record}
use Rattle.lines.specs.declared.Record.TheVariants as form
use Rattle.lines.specs.Limits.{line_buffer}
use Rattle.lines.specs.Form.{numbers}
use Rattle.lines.specs.Reading.{forms, made}

-- n words: the values, and 0 behind them
abbrev pub padded : ℕ → List ℕ → List ℕ
padded n vs = take n (vs ++ replicate n 0)

-- a head: the phase's tag, the takings that a Closed phase holds or 0, depth, width, number of campaigns, accepted
-- views, paused marks
abbrev pub tag_of : Phase → ℕ
tag_of Filling = 0
tag_of Running = 1
tag_of (Closed t) = 2

abbrev pub held_by : Phase → ℕ
held_by Filling = 0
held_by Running = 0
held_by (Closed t) = t

abbrev pub head_words : Head → List ℕ
head_words h =
    tag_of h.phase ∷ held_by h.phase ∷ h.plan.depth ∷ h.plan.width ∷ h.count ∷ h.accepted ∷
    h.paused ∷ []

-- words that are a head: a phase's tag, and takings held only where it is Closed
abbrev pub is_head : List ℕ → Bool
is_head w = leb (get_or w 0 0) 2 && (eqb (get_or w 0 0) 2 || eqb (get_or w 1 0) 0)

-- the head that they give
unfoldable pub phase_of : (tag held : ℕ) → Phase
phase_of tag t = cond (eqb tag 0) Filling (cond (eqb tag 1) Running (Closed t))

abbrev pub head_in : List ℕ → Head
head_in w = record {
  phase = phase_of (get_or w 0 0) (get_or w 1 0);
  plan = record { depth = get_or w 2 0; width = get_or w 3 0 };
  count = get_or w 4 0;
  accepted = get_or w 5 0;
  paused = get_or w 6 0;
}

-- an answer: its kind and its values. A refusal has no words and leaves w: its number is the status.
abbrev pub answer_words : (kind : ℕ) → Answer → List ℕ
answer_words k a = k ∷ padded 4 (values a)

unfoldable pub answer_after : Answer → (w : List ℕ) → List ℕ
answer_after (Refused q) w = w
answer_after Done w = answer_words 1 Done
answer_after (Played i p) w = answer_words 2 (Played i p)
answer_after Nobody w = answer_words 3 Nobody
answer_after (Tallied p t a n) w = answer_words 4 (Tallied p t a n)
answer_after (Closing t c f) w = answer_words 5 (Closing t c f)

-- a record: its form's number, which is its place among the forms, and its numbers
abbrev pub form_of : Record → ℕ
form_of (form.Plan _ _) = 0
form_of (form.Campaign _ _) = 1
form_of form.Start = 2
form_of (form.View _) = 3
form_of form.Close = 4
form_of form.Done = 5
form_of (form.Play _ _) = 6
form_of form.Nobody = 7
form_of (form.Refused _) = 8
form_of (form.Closed _ _ _) = 9
form_of (form.Tally _ _ _ _ _) = 10
form_of (form.Pause _) = 11
form_of (form.Resume _) = 12

unfoldable pub record_words : Record → List ℕ
record_words r = form_of r ∷ padded 5 (numbers r)

-- words that are a record, and the record that they give
abbrev pub is_form : List ℕ → Bool
is_form w = ltb (get_or w 0 0) (length forms)

unfoldable pub record_of : List ℕ → Record
record_of w = made (get_or forms (get_or w 0 0) form.Start) (drop 1 w)

-- a stream: how many bytes of a line are kept, and of its last block how many were taken and how many answer them
abbrev pub is_stream : List ℕ → Bool
is_stream w = leb (get_or w 0 0) line_buffer

abbrev pub stream_words : (kept taken written : ℕ) → List ℕ
stream_words k t w = k ∷ t ∷ w ∷ []

-- the statuses that no question gives: of misuse, and 104, which is the check's "no"
abbrev pub no_head : ℕ
no_head = 100

abbrev pub no_form : ℕ
no_form = 101

abbrev pub no_stream : ℕ
no_stream = 102

abbrev pub no_room : ℕ
no_room = 103

abbrev pub no_fit : ℕ
no_fit = 104
