use Rattle.rules.proofs.Solutions.{solutions_listed}
use Rattle.rules.proofs.solutions_are_listed_once.Goals as goal

pub returns : goal.returns
returns c = solutions_listed
