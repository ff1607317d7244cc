use Rattle.std.proofs.Common.{arith, ap}
use Rattle.meaning.specs.Meaning.{qubits}
use Rattle.table.specs.OfTable.{meaning_of}
use Rattle.table.specs.declared.Table.{Table}
use Rattle.upkeep.proofs.Opened.{past_at}
use Rattle.trial.proofs.trial.erasing.Erasures.shelve_each.Goals as goal

pub take_out-requires-clause-low : goal.take_out-requires-clause-low
take_out-requires-clause-low c =
    let low = past_at (qubits (meaning_of c.args.self.now.table.now)) c.args.list.now c.requires c.loop-q.q-index c.loop-q-test.true in
    let same = ap (λ (t : Table). qubits (meaning_of t)) c.loop-q.invariant.table in
    omega (arith, low, same, c.loop-q.self.fit)
