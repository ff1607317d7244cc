use Rattle.std.proofs.Common.{◌<◌, length, vec_items, ap, arith}
use Rattle.table.specs.Stands.{table_sound}
use Rattle.trial.proofs.trial.erasing.Erasures.list.Goals as goal

pub overflow_cast-q : goal.overflow_cast-q
overflow_cast-q c =
    let low : c.loop-q.q < length (vec_items c.args.self.now.status) = omega (arith, c.loop-q-test.true, ap length c.deref-status-items.ensures.value) in
    omega (arith, low, c.args.self.now.fit, (table_sound c.args.self.now.table.now).few_qubits)
