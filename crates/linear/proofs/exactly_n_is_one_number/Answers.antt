use Rattle.linear.proofs.Count.{exactly_unique}
use Rattle.linear.proofs.exactly_n_is_one_number.Goals as goal

pub returns : goal.returns
returns c s p n m = exactly_unique n m
