use Rattle.linear.proofs.System.{solve_tells}
use Rattle.linear.proofs.elimination_answers_for_the_stated_system.Goals as goal

pub returns : goal.returns
returns c s K = solve_tells K
