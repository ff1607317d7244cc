use Rattle.linear.proofs.All.{all_lists}
use Rattle.linear.proofs.all_solutions_are_listed_once.Goals as goal

pub returns : goal.returns
returns c s K = all_lists K
