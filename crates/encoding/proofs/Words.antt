-- Each by computation.
use mathlib.Core.Path.{refl}
use Rattle.lines.specs.Form.{numbers}
use Rattle.encoding.specs.Encoding.{answer_after, record_words}
use Rattle.encoding.specs.Words.{Words}

pub words : Words
unfolding numbers answer_after record_words
words = record {
  filling = λ d w n a p. refl;
  running = λ d w n a p. refl;
  closed = λ t d w n a p. refl;
  refused = λ q l. refl;
  done = λ l. refl;
  played = λ i p l. refl;
  nobody = λ l. refl;
  tallied = λ p t a n l. refl;
  closing = λ t c f l. refl;
  plan_line = λ d w. refl;
  campaign_line = λ p b. refl;
  start_line = refl;
  view_line = λ set. refl;
  close_line = refl;
  done_line = refl;
  play_line = λ i p. refl;
  nobody_line = refl;
  refused_line = λ q. refl;
  closed_line = λ t c f. refl;
  tally_line = λ i p t a n. refl;
  pause_line = λ i. refl;
  resume_line = λ i. refl;
}
