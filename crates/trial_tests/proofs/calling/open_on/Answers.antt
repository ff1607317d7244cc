use Rattle.table.specs.OfTable.{meaning_of}
use Rattle.trial_tests.proofs.Counted.{opens_one}
use Rattle.trial_tests.proofs.calling.open_on.Goals as goal

pub returns : goal.returns
returns c = opens_one (meaning_of c.args.table.now) c.args.tally.now c.open.new.tally c.args.report.lost.now c.args.report.odd.now c.open.result c.open.ensures.does
