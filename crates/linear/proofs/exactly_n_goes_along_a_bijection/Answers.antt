use Rattle.linear.proofs.Count.{exactly_move}
use Rattle.linear.proofs.exactly_n_goes_along_a_bijection.Goals as goal

pub returns : goal.returns
returns c s p q n f g = exactly_move n f g
