use Rattle.rules.proofs.Reached.{cluster_reached}
use Rattle.rules.proofs.a_cluster_is_what_touching_reaches.Goals as goal

pub returns : goal.returns
returns c = cluster_reached
