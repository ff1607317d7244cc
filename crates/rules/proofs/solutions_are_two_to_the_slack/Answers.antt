use Rattle.rules.proofs.Solutions.{slack_counts}
use Rattle.rules.proofs.solutions_are_two_to_the_slack.Goals as goal

pub returns : goal.returns
returns c = slack_counts
