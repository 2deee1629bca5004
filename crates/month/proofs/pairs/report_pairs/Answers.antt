-- As many records are gathered as there are, up to 32: they report what all do.
use Rattle.std.proofs.Common.{◌∙◌}
use Rattle.month.proofs.Gathering.{enough}
use Rattle.month.proofs.pairs.report_pairs.Goals as goal

pub returns : goal.returns
returns c =
    let gathered = c.gather in
    c.report_first.ensures
    ∙ enough c.min-count.result c.args.words.now gathered.result c.min-count.ensures gathered.ensures
