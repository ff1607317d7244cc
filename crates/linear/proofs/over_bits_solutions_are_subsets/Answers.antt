use Rattle.linear.proofs.Subsets.{solutions_subsets}
use Rattle.linear.proofs.over_bits_solutions_are_subsets.Goals as goal

pub returns : goal.returns
returns c = solutions_subsets
