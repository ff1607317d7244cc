use Rattle.linear.proofs.Insert.{insert_says, insert_grows}
use Rattle.linear.proofs.a_row_goes_into_a_basis_without_loss.Goals as goal

pub returns : goal.returns
returns c s = record { keeps = insert_says; grows = insert_grows }
