use Rattle.rules.proofs.Turns.{settle_done}
use Rattle.rules.proofs.settle_never_lacks_a_solution.Goals as goal

pub returns : goal.returns
returns c = settle_done
