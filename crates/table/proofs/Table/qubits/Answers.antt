use Rattle.std.proofs.Common.{arith}
use Rattle.table.proofs.Limits.{as_many_qubits}
use Rattle.table.proofs.Table.qubits.Goals as goal

pub returns : goal.returns
returns c = omega (arith, as_many_qubits c.args.self.now)
