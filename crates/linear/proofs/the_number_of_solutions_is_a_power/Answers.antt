use Rattle.linear.proofs.All.{solutions_exactly}
use Rattle.linear.proofs.the_number_of_solutions_is_a_power.Goals as goal

pub returns : goal.returns
returns c s K = solutions_exactly K
