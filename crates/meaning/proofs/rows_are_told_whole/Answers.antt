use Rattle.meaning.proofs.Turned.{told_counts}
use Rattle.meaning.proofs.rows_are_told_whole.Goals as goal

pub returns : goal.returns
returns c = told_counts
