use Rattle.std.proofs.Common.{◌≡◌}
use Rattle.trial_tests.specs.Slips.{out}
use Rattle.trial_tests.proofs.calling.churn_on.Given as goal

abbrev pub invariant-loop : goal.invariant-loop
invariant-loop l = out l.tally ≡ out l.initial.tally
