use Rattle.trial_tests.proofs.Popped.{Left}
use Rattle.trial_tests.proofs.trials.Trials.close_rest.Given as goal

abbrev pub invariant-loop-held : goal.invariant-loop-held
invariant-loop-held l = Left l.trials.items l.slips.items l.tallies

abbrev pub decreases-loop-held : goal.decreases-loop-held
decreases-loop-held l = goal.left-loop-held l
