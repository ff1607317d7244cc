use Rattle.rules.proofs.Counts.{counts_stay}
use Rattle.rules.proofs.no_more_is_counted_than_was_lost.Goals as goal

pub returns : goal.returns
returns c = counts_stay
