use Rattle.trial_tests.proofs.Counted.{refuses}
use Rattle.trial_tests.proofs.calling.close_own.Goals as goal

pub unreachable-requires : goal.unreachable-requires
unreachable-requires c = (refuses c.args.trial.now.state c.args.slip.number c.args.tally.now c.close.new.tally c.in-Err.field-0 c.in-Err.ensures.does).why c.requires.own c.requires.count
