use Rattle.linear.proofs.Least.{least_solves, least_first, least_only}
use Rattle.linear.proofs.the_least_solution_comes_before_every_other.Goals as goal

pub returns : goal.returns
returns c s = record { solves = least_solves; first = least_first; alone = least_only }
