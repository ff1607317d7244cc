use Rattle.rules.proofs.Turns.{run_ends}
use Rattle.rules.proofs.a_run_ends_when_nothing_more_can_be_done.Goals as goal

pub returns : goal.returns
returns c = run_ends
