-- What the code's names stand for: each side computes to the other.
use mathlib.Core.Path.{refl}
use Rattle.demands.specs.Names.{CodeNames}

pub code_names : CodeNames
code_names = record {
  calls = record {
    opens = λ pl. refl;
    adds = λ t. refl;
    starts = refl;
    shows = λ w. refl;
    tallies = λ i. refl;
    closes = refl;
    pauses = λ i. refl;
    resumes = λ i. refl;
  };
  in_place = λ r t n. record { head_is = refl; terms_are = refl; counts_are = refl; answer_is = refl };
  limits = refl;
}
