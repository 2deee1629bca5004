-- The words of every head, answer and record, one by one, as `include/wezghuli.h` tells them.
use Rattle.std.specs.Prelude.{◌≡◌, List, [], ◌∷◌, ℕ}
use Rattle.campaigns.specs.declared.Head.{Head}
use Rattle.campaigns.specs.declared.Phase.{Phase}
use Rattle.campaigns.specs.declared.Phase.TheVariants.{Filling, Running, Closed}
use Rattle.day.specs.declared.Answer.TheVariants.{Refused, Done, Played, Nobody, Tallied, Closing}
use Rattle.lines.specs.declared.Record.TheVariants as form
use Rattle.encoding.specs.Encoding.{head_words, answer_after, record_words}
use Rattle.encoding.specs.Faithful.{seven}

-- a head by its fields
abbrev pub some_head : Phase → (depth width count accepted paused : ℕ) → Head
some_head s d w n a p =
    record { phase = s; plan = record { depth = d; width = w }; count = n; accepted = a; paused = p }

-- five and six words
abbrev pub five : (a b c d e : ℕ) → List ℕ
five a b c d e = a ∷ b ∷ c ∷ d ∷ e ∷ []

abbrev pub six : (a b c d e f : ℕ) → List ℕ
six a b c d e f = a ∷ b ∷ c ∷ d ∷ e ∷ f ∷ []

pub record Words : Type 0 where
  -- a head: its phase and what a Closed one holds, depth, width, campaigns, accepted views, paused marks
  pub filling : (d w n a p : ℕ) → head_words (some_head Filling d w n a p) ≡ seven 0 0 d w n a p
  pub running : (d w n a p : ℕ) → head_words (some_head Running d w n a p) ≡ seven 1 0 d w n a p
  pub closed : (t d w n a p : ℕ) → head_words (some_head (Closed t) d w n a p) ≡ seven 2 t d w n a p
  -- an answer takes the place of the words l with its kind, its values and 0 behind them; a refusal leaves them
  pub refused : (q : ℕ) (l : List ℕ) → answer_after (Refused q) l ≡ l
  pub done : (l : List ℕ) → answer_after Done l ≡ five 1 0 0 0 0
  pub played : (i p : ℕ) (l : List ℕ) → answer_after (Played i p) l ≡ five 2 i p 0 0
  pub nobody : (l : List ℕ) → answer_after Nobody l ≡ five 3 0 0 0 0
  pub tallied : (p t a n : ℕ) (l : List ℕ) → answer_after (Tallied p t a n) l ≡ five 4 p t a n
  pub closing : (t c f : ℕ) (l : List ℕ) → answer_after (Closing t c f) l ≡ five 5 t c f 0
  -- a record: its form, its numbers and 0 behind them
  pub plan_line : (d w : ℕ) → record_words (form.Plan d w) ≡ six 0 d w 0 0 0
  pub campaign_line : (p b : ℕ) → record_words (form.Campaign p b) ≡ six 1 p b 0 0 0
  pub start_line : record_words form.Start ≡ six 2 0 0 0 0 0
  pub view_line : (set : ℕ) → record_words (form.View set) ≡ six 3 set 0 0 0 0
  pub close_line : record_words form.Close ≡ six 4 0 0 0 0 0
  pub done_line : record_words form.Done ≡ six 5 0 0 0 0 0
  pub play_line : (i p : ℕ) → record_words (form.Play i p) ≡ six 6 i p 0 0 0
  pub nobody_line : record_words form.Nobody ≡ six 7 0 0 0 0 0
  pub refused_line : (q : ℕ) → record_words (form.Refused q) ≡ six 8 q 0 0 0 0
  pub closed_line : (t c f : ℕ) → record_words (form.Closed t c f) ≡ six 9 t c f 0 0
  pub tally_line : (i p t a n : ℕ) → record_words (form.Tally i p t a n) ≡ six 10 i p t a n
  pub pause_line : (i : ℕ) → record_words (form.Pause i) ≡ six 11 i 0 0 0 0
  pub resume_line : (i : ℕ) → record_words (form.Resume i) ≡ six 12 i 0 0 0 0
