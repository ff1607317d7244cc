use Rattle.rules.proofs.Law.{liberal}
use Rattle.rules.proofs.any_solution_may_be_flipped.Goals as goal

pub returns : goal.returns
returns c = liberal
