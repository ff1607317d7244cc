use Rattle.sets.proofs.Numbers.{told_once}
use Rattle.sets.proofs.told_once_is_counted_once.Goals as goal

pub returns : goal.returns
returns c = told_once
