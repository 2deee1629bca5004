-- The accepted views of a day, kept beside the stream that its bytes are fed to.
use Rattle.std.specs.Prelude.{◌≡◌, cond, List, [], ◌∷◌, ℕ, min, eqb, length, take, set}
use Rattle.lines.specs.Reading.{reading}
use Rattle.day.specs.declared.Day.{Day}
use Rattle.day.specs.Day.{blank}
use Rattle.day.specs.Calls.{Call, found}
use Rattle.day.specs.Calls.Call.{open_plan, add_campaign, start_day, show_view, ask_tally, close_day, mark_campaign}
use Rattle.floor.specs.History.{own_views}
use Rattle.reply.specs.Reply.{Request, request_of}
use Rattle.reply.specs.Reply.Request.{makes, fails}
use Rattle.reply.specs.Session.{Session, after_byte, fed}
use Rattle.stream.specs.Input.{after_lines, Split, all_lines}
use Rattle.stream.specs.Stream.{session_of, new_stream, silent, finished}
use Rattle.programs.specs.Lines.{day_of}

-- How they are kept.

-- the set that a line shows: that of a view, else none
abbrev pub shown_by_call : Call → ℕ
shown_by_call (open_plan pl) = 0
shown_by_call (add_campaign t) = 0
shown_by_call start_day = 0
shown_by_call (show_view w) = w.set
shown_by_call (ask_tally i) = 0
shown_by_call close_day = 0
shown_by_call (mark_campaign b i) = 0

abbrev pub shown_in : Request → ℕ
shown_in (makes c) = shown_by_call c
shown_in (fails q) = 0

-- the line l of the state s, before it is known whether it is accepted: what it shows, as a view finds it, stands
-- behind the views that were accepted
unfoldable pub noted : Day → (l views : List ℕ) → List ℕ
noted s l views = set views s.accepted (found s (record { set = shown_in (request_of (reading l)) })).set

-- the views after bytes that are fed to x: byte 10 ends a line
unfoldable pub recorded : Session → (views bytes : List ℕ) → List ℕ
recorded x views [] = views
recorded x views (b ∷ l) =
    recorded (after_byte x b) (cond (eqb b 10) (noted x.day x.pending views) views) l

-- The promise.

-- the first entries of a list of views that is as long as is lent: as many as the state has accepted
abbrev pub kept_views : Day → List ℕ → List ℕ
kept_views s views = take (min s.accepted (length views)) views

-- A whole input, handed to a new stream beside a list of entries for views, and its end: the state is that after its
-- lines, and the entries have the day's own views, as many as there are entries.
abbrev pub last_session : (input : List ℕ) → Session
last_session input = silent (fed (session_of new_stream) input)

abbrev pub last_views : (input views : List ℕ) → List ℕ
last_views input views =
    noted (last_session input).day (last_session input).pending (recorded (session_of new_stream) views input)

pub record Recorded (input : List ℕ) (i : Split input) (views : List ℕ) : Type 0 where
  pub day_is : (finished (last_session input)).day ≡ after_lines blank (all_lines i)
  pub views_are : kept_views (after_lines blank (all_lines i)) (last_views input views)
      ≡ take (length views) (own_views (day_of (all_lines i)))
  pub count_is : (after_lines blank (all_lines i)).accepted ≡ length (own_views (day_of (all_lines i)))

abbrev pub AnyRecording : Type 0
AnyRecording = (input : List ℕ) (i : Split input) (views : List ℕ) → Recorded input i views
