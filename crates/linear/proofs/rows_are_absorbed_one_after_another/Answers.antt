use Rattle.linear.proofs.Absorb.{absorb_says}
use Rattle.linear.proofs.rows_are_absorbed_one_after_another.Goals as goal

pub returns : goal.returns
returns c s K = absorb_says K
