use Rattle.linear.proofs.Compress.{solutions_expand}
use Rattle.linear.proofs.unknowns_kept_zero_can_be_left_out.Goals as goal

pub returns : goal.returns
returns c s K = solutions_expand K
