use Rattle.rules.proofs.Shown.{slip_shown}
use Rattle.rules.proofs.accepted_calls_were_shown_the_slip.Goals as goal

pub returns : goal.returns
returns c = slip_shown
