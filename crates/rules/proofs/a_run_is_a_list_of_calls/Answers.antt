use Rattle.rules.proofs.Runs.{run_calls}
use Rattle.rules.proofs.a_run_is_a_list_of_calls.Goals as goal

pub returns : goal.returns
returns c = run_calls
