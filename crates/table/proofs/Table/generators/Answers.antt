use Rattle.std.proofs.Common.{arith}
use Rattle.table.proofs.Limits.{as_many_generators}
use Rattle.table.proofs.Table.generators.Goals as goal

pub returns : goal.returns
returns c = omega (arith, as_many_generators c.args.self.now)
