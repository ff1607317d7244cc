use Rattle.linear.proofs.Count.{exactly_split}
use Rattle.linear.proofs.exactly_a_times_b_pairs.Goals as goal

pub returns : goal.returns
returns c s p q a b = exactly_split a b
