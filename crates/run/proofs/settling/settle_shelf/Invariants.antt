use Rattle.std.proofs.Common.{◌≡◌, ◌-◌, length}
use Rattle.rules.specs.Run.{settles}
use Rattle.table.specs.OfTable.{meaning_of}
use Rattle.run.proofs.settling.settle_shelf.Given as goal

-- the settles that are left lead to the same end, on the same table and with the same slip
abbrev pub invariant-loop-entry : goal.invariant-loop-entry
invariant-loop-entry l =
    let M = meaning_of l.fn.trial.table in
    let n = length l.fn.trial.state.shelf in
    record {
      leads : settles M (n - l._entry) l.trial.state ≡ settles M n l.fn.trial.state;
      table : l.trial.table ≡ l.fn.trial.table;
      shown : l.slip.number ≡ l.trial.state.number;
    }
