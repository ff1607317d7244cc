use Rattle.std.proofs.Common.{◌≡◌, ◌-◌}
use Rattle.meaning.specs.Meaning.{qubits}
use Rattle.rules.specs.Run.{turns}
use Rattle.table.specs.OfTable.{meaning_of}
use Rattle.run.specs.Passed.{Passed}
use Rattle.run.proofs.turning.take_turns.Given as goal

-- the turns that are left lead to the same end, on the same table and with the same slip and scratch bytes; and the places are true
abbrev pub invariant-loop-turn : goal.invariant-loop-turn
invariant-loop-turn l =
    let M = meaning_of l.fn.trial.table in
    let n = qubits M in
    record {
      leads : turns M l.switches.sum l.fn.scratch (n - l._turn) l.trial.state ≡ turns M l.switches.sum l.fn.scratch n l.fn.trial.state;
      table : l.trial.table ≡ l.fn.trial.table;
      shown : l.slip.number ≡ l.trial.state.number;
      scratch : l.scratch ≡ l.fn.scratch;
      passed : Passed M l.trial.state l.places;
    }
