use Rattle.rules.proofs.Least.{least_first}
use Rattle.rules.proofs.the_first_solution_is_the_least.Goals as goal

pub returns : goal.returns
returns c = least_first
