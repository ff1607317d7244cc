use Rattle.std.proofs.Common.{arith}
use Rattle.table.proofs.Limits.{as_many_checks}
use Rattle.table.proofs.Table.checks.Goals as goal

pub returns : goal.returns
returns c = omega (arith, as_many_checks c.args.self.now)
