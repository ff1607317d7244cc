use Rattle.rules.proofs.Refused.{refusals_keep}
use Rattle.rules.proofs.a_refused_call_changes_nothing_else.Goals as goal

pub returns : goal.returns
returns c = refusals_keep
