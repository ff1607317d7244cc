use Rattle.rules.proofs.Full.{full_run}
use Rattle.rules.proofs.a_full_run_leaves_nothing_over.Goals as goal

pub returns : goal.returns
returns c = full_run
