use Rattle.linear.proofs.Free.{insert_tells}
use Rattle.linear.proofs.a_row_is_new_if_it_is_independent.Goals as goal

pub returns : goal.returns
returns c s K = insert_tells K
